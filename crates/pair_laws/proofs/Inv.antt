-- THE INVARIANT OF A RUN: which states, queues and logs go together. Definitions alone; nothing is to be closed.
use Rattle.std.specs.Prelude.{None, Option, Some}
use mathlib.Core.Path.{◌≡◌}
use mathlib.Core.Bool.{Bool, true, false}
use mathlib.Core.List.{List, [], ◌∷◌, ◌++◌}
use Prim.Native.Nat.{ℕ, ◌≤◌, ◌<◌}
use Rattle.book.specs.Book.{Body, ok, Reading, good, body_of, Msg, plain, sure, msg, note, Line, start, reply, fin, fin_ok, cut, lost, State, idle, single, multi, ending, assoc, Setup, ids_of, waiting_of}
use Rattle.book.specs.declared.Terms.{Terms}
use Rattle.pair_laws.specs.Model.{Fate, going, asked, granted, broken, Log, blank, Queue, at, World, world}
use Rattle.pair_laws.specs.Statement.{Good}
use Rattle.pair_laws.proofs.Facts.{Sent, dats}
use Rattle.pair_laws.proofs.Flow.{Flow, Rest, Past}

-- An end that is in the data phase: what it waits for, and whether it has sent 33.
pub data Up : State → List ℕ → Bool → Type 0 where
  up : {T : Terms} {w : List ℕ} {t : ℕ} → Up (assoc T w t) w false
  down : {T : Terms} {w : List ℕ} {t : ℕ} → Up (ending T w t) w true

-- An end that has not sent 33 has acknowledged all that it was given.
pub data Un : Bool → List ℕ → Type 0 where
  acked : Un false []
  unacked : {un : List ℕ} → Un true un

unfoldable pub tail : ℕ → Bool → Queue
tail d true = (d, fin) ∷ []
tail d false = []

unfoldable pub fate_of : Bool → Fate
fate_of true = asked
fate_of false = going

pub data Busy : State → Type 0 where
  in_single : {T : Terms} {w : List ℕ} {t : ℕ} → Busy (single T w t)
  in_multi : {T : Terms} {k : Msg} {t : ℕ} → Busy (multi T k t)
  in_ending : {T : Terms} {w : List ℕ} {t : ℕ} → Busy (ending T w t)
  in_assoc : {T : Terms} {w : List ℕ} {t : ℕ} → Busy (assoc T w t)

-- 15 or 16.
pub data Cut : Line → Type 0 where
  by_peer : {r : ℕ} → Cut (cut r)
  by_provider : Cut lost

-- The line that closes a dialogue for an end that sent 33.
pub data Last : Line → Type 0 where
  last_fin : Last fin
  last_ok : Last (fin_ok true)

-- The fate of an end that left in order.
pub data Left : Fate → Type 0 where
  left_going : Left going
  left_granted : Left granted

pub data Broken : Fate → Fate → Type 0 where
  near_broken : {f : Fate} → Broken broken f
  far_broken : {f : Fate} → Broken f broken

-- What is true of all dialogues but d, and of the numbers to come.
pub record Books (f g : ℕ → Log) (d next : ℕ) : Type 0 where
  pub hist : (n : ℕ) → (n ≡ d → ⊥) → Good (f n) (g n)
  pub new : (n : ℕ) → next ≤ n → (f n ≡ blank) × (g n ≡ blank)
  pub below : d < next

-- The confirmed transfers accepted are those answered and those waiting.
pub record Owes (acc ans w : List ℕ) : Type 0 where
  pub sum : acc ≡ ans ++ w

-- Both ends in the data phase.
pub record Talk (a b : Log) (wa wb : List ℕ) (ea eb : Bool) (qa qb : List Sent) (una unb : List ℕ) : Type 0 where
  pub to_far : Flow a.handed b.given a.okays wa qa qb unb
  pub to_near : Flow b.handed a.given b.okays wb qb qa una
  pub near_fate : a.fate ≡ fate_of ea
  pub far_fate : b.fate ≡ fate_of eb

-- A cut dialogue.
pub record Severed (a b : Log) : Type 0 where
  pub to_far : Past a.handed b.given a.okays
  pub to_near : Past b.handed a.given b.okays
  pub broke : Broken a.fate b.fate

-- A single-shot message was given, and its reply is on the way.
pub data Reply : Msg → Option Reading → Type 0 where
  reply_plain : {i ir : Option ℕ} {iq : Option (List ℕ)} {b : Body} → Reply (plain i ir iq b) None
  reply_sure : {i : ℕ} {ir : Option ℕ} {iq : Option (List ℕ)} {o : List ℕ} {b c : Body} {x : ℕ} →
      Reply (sure i ir iq b) (Some (good (note ok i None o c) x))

unfoldable pub given_log : Msg → Log
given_log m = record { handed = []; given = m ∷ []; okays = []; fate = going }

unfoldable pub called_log : Msg → Log
called_log m = record { handed = m ∷ []; given = []; okays = []; fate = going }

-- The near end of dialogue d, in Idle or still in it, when the far end has left it: its state, whether it is
-- hung, and the lines of d toward it. `a` and `b` are the two logs of d.
pub data Behind (d : ℕ) (a b : Log) : State → Bool → Queue → Type 0 where
  rested : {h : Bool} → Good a b → Behind d a b idle h []
  turning : {T : Terms} {m : Msg} {fr : Option Reading} {t : ℕ} → Reply m fr → a ≡ called_log m → b ≡ given_log m →
      Behind d a b (single T (ids_of m) t) false ((d, reply false fr) ∷ [])
  closing : {T : Terms} {w : List ℕ} {t : ℕ} {q : List Sent} {un : List ℕ} {l : Line} → Last l →
      Flow a.handed b.given a.okays w [] q un → Rest b.handed a.given b.okays q →
      a.fate ≡ asked → Left b.fate → Behind d a b (ending T w t) false (dats d q ((d, l) ∷ []))
  severed : {u : State} {l : Line} → Busy u → Cut l → Severed a b → Behind d a b u true ((d, l) ∷ [])

-- An end that is in no dialogue with the other: in Idle, or its start is on the way, or the link has cut off its
-- start and it has not heard. `d` is its dialogue, `a` its log of d and `b` the other's; the other is in or was last
-- in `e`. The queues: the lines from it, and the lines toward it.
pub data Ahead (d : ℕ) (a b : Log) (e next : ℕ) : State → Bool → Queue → Queue → Type 0 where
  resting : {h : Bool} → d < next → Ahead d a b e next idle h [] []
  calling_single : {T o : Terms} {m : Msg} {x : ℕ} {t : ℕ} → (body_of m).maintained ≡ false → a ≡ called_log m → b ≡ blank → (d ≡ e → ⊥) → d < next →
      Ahead d a b e next (single T (ids_of m) t) false ((d, start o (Some (good (msg m) x))) ∷ []) []
  calling_multi : {T o : Terms} {k : Msg} {t : ℕ} → a ≡ blank → b ≡ blank → (d ≡ e → ⊥) → d < next →
      Ahead d a b e next (multi T k t) false ((d, start o None) ∷ []) []
  stranded_single : {T : Terms} {w : List ℕ} {t : ℕ} {l : Line} → Cut l → Severed a b → (d ≡ e → ⊥) → d < next →
      Ahead d a b e next (single T w t) true [] ((d, l) ∷ [])
  stranded_multi : {T : Terms} {k : Msg} {t : ℕ} {l : Line} → Cut l → Severed a b → (d ≡ e → ⊥) → d < next →
      Ahead d a b e next (multi T k t) true [] ((d, l) ∷ [])

-- The configurations. `free` and `opening` are seen from the near end, `free'` and `opening'` from the far end.
pub data Inv : World → Type 0 where
  talking : {s t : Setup} {u v : State} {d : ℕ} {f g : ℕ → Log} {acc ans acc' ans' : List ℕ} {next : ℕ}
      {wa wb : List ℕ} {ea eb : Bool} {qa qb : List Sent} {una unb : List ℕ} →
      Up u wa ea → Up v wb eb → Un ea una → Un eb unb → Talk (f d) (g d) wa wb ea eb qa qb una unb →
      Books f g d next → Owes acc ans wa → Owes acc' ans' wb →
      Inv (world (at s u d false f acc ans) (at t v d false g acc' ans') (dats d qa (tail d ea)) (dats d qb (tail d eb)) next)
  dead : {s t : Setup} {u v : State} {d : ℕ} {f g : ℕ → Log} {acc ans acc' ans' : List ℕ} {next : ℕ} {l k : Line} →
      Busy u → Busy v → Cut l → Cut k → Severed (f d) (g d) →
      Books f g d next → Owes acc ans (waiting_of u) → Owes acc' ans' (waiting_of v) →
      Inv (world (at s u d true f acc ans) (at t v d true g acc' ans') ((d, l) ∷ []) ((d, k) ∷ []) next)
  free : {s t : Setup} {u v : State} {d e : ℕ} {h i : Bool} {f g : ℕ → Log} {acc ans acc' ans' : List ℕ} {next : ℕ} {cl st back : Queue} →
      Behind d (f d) (g d) u h cl → Ahead e (g e) (f e) d next v i st back →
      Books f g d next → Owes acc ans (waiting_of u) → Owes acc' ans' (waiting_of v) →
      Inv (world (at s u d h f acc ans) (at t v e i g acc' ans') back (cl ++ st) next)
  free' : {s t : Setup} {u v : State} {d e : ℕ} {h i : Bool} {f g : ℕ → Log} {acc ans acc' ans' : List ℕ} {next : ℕ} {cl st back : Queue} →
      Behind d (f d) (g d) u h cl → Ahead e (g e) (f e) d next v i st back →
      Books f g d next → Owes acc ans (waiting_of u) → Owes acc' ans' (waiting_of v) →
      Inv (world (at t v e i g acc' ans') (at s u d h f acc ans) (cl ++ st) back next)
  opening : {s t : Setup} {T : Terms} {k : Msg} {τ : ℕ} {v : State} {d : ℕ} {f g : ℕ → Log} {acc ans acc' ans' : List ℕ} {next : ℕ}
      {wb : List ℕ} {eb : Bool} {qb : List Sent} {unb : List ℕ} →
      Up v wb eb → Un eb unb → Talk (f d) (g d) [] wb false eb [] qb [] unb →
      Books f g d next → Owes acc ans (ids_of k) → Owes acc' ans' wb →
      Inv (world (at s (multi T k τ) d false f acc ans) (at t v d false g acc' ans') [] ((d, reply true None) ∷ dats d qb (tail d eb)) next)
  opening' : {s t : Setup} {T : Terms} {k : Msg} {τ : ℕ} {v : State} {d : ℕ} {f g : ℕ → Log} {acc ans acc' ans' : List ℕ} {next : ℕ}
      {wb : List ℕ} {eb : Bool} {qb : List Sent} {unb : List ℕ} →
      Up v wb eb → Un eb unb → Talk (f d) (g d) [] wb false eb [] qb [] unb →
      Books f g d next → Owes acc ans (ids_of k) → Owes acc' ans' wb →
      Inv (world (at t v d false g acc' ans') (at s (multi T k τ) d false f acc ans) ((d, reply true None) ∷ dats d qb (tail d eb)) [] next)
