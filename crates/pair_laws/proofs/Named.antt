-- An answer names its message by its frame: the reference in the frame of each line 22 is the identifier that the unit answers. Closed by cases on
-- the rule; for the answer to a single-shot transfer, by the invariant: the far unit's acknowledgement is on the way.
use Rattle.std.specs.Prelude.{None, Option, Some}
use mathlib.Core.Bool.{Bool, true, false}
use mathlib.Core.List.{List, [], ◌∷◌}
use Prim.Native.Nat.{ℕ, zero, suc}
use Rattle.book.specs.declared.Refusal.{Refusal}
use Rattle.book.specs.Book.{Body, Msg, plain, sure, Kind, Frame, msg, note, Reading, bad, good, Line, start, reply, dat, fin, fin_ok, cut, lost, Result, Out, give, answer, ended, gone, seen, send, State, idle, single, multi, ending, assoc, Setup, Outcome, refused, done, body_of, ids_of, without, local, unsure, refuse_all, with_seen, fall, quiet_fall, vet, bar, on_single, on_multi, on_shot, on_vetted, on_request, on_end, on_tick, greet, first_contact, on_start, answered_by, begun, on_reply, noted, on_dat, on_fin, on_fin_ok, on_abort}
use Rattle.book.specs.declared.Terms.{Terms}
use Rattle.pair_laws.specs.Model.{World, world, at, as_heard, on_line}
use Rattle.pair_laws.proofs.Facts.{mes, confirm, wire, dats}
use Rattle.pair_laws.proofs.Inv.{up, down, by_peer, by_provider, last_fin, last_ok, reply_plain, reply_sure, rested, turning, closing, severed, resting, calling_single, calling_multi, stranded_single, stranded_multi, Inv, talking, dead, free, free', opening, opening', tail}

-- the frame is a confirmation of this identifier
pub data Names : Frame → ℕ → Type 0 where
  names : {k : Kind} {r : ℕ} {i : Option ℕ} {q : List ℕ} {b : Body} → Names (note k r i q b) r

pub data NamedOut : Out → Type 0 where
  n_give : {a : Terms} {m : Msg} → NamedOut (give a m)
  n_answer : {i : ℕ} {r : Result} {f : Frame} → Names f i → NamedOut (answer i r f)
  n_ended : NamedOut ended
  n_gone : {r : ℕ} → NamedOut (gone r)
  n_seen : {n : ℕ} → NamedOut (seen n)
  n_send : {l : Line} → NamedOut (send l)

pub data AllNamed : List Out → Type 0 where
  n_none : AllNamed []
  n_also : {o : Out} {os : List Out} → NamedOut o → AllNamed os → AllNamed (o ∷ os)

pub data NamedOutcome : Outcome → Type 0 where
  n_refused : {n : Refusal} → NamedOutcome (refused n)
  n_done : {st : State} {os : List Out} → AllNamed os → NamedOutcome (done st os)

one : {st : State} {o : Out} → NamedOut o → NamedOutcome (done st (o ∷ []))
one n = n_done (n_also n n_none)

unsure_named : (s : Setup) (m : Bool) (w : List ℕ) {rest : List Out} → AllNamed rest → AllNamed (unsure s m w rest)
unfolding unsure local
unsure_named s m [] r = r
unsure_named s m (i ∷ w) r = n_also (n_answer names) (unsure_named s m w r)

refuse_named : (s : Setup) (w : List ℕ) {rest : List Out} → AllNamed rest → AllNamed (refuse_all s w rest)
unfolding refuse_all local
refuse_named s [] r = r
refuse_named s (i ∷ w) r = n_also (n_answer names) (refuse_named s w r)

fall_named : (s : Setup) (m : Bool) (w : List ℕ) (r : ℕ) → NamedOutcome (fall s m w r)
unfolding fall
fall_named s m w r = n_done (n_also n_send (unsure_named s m w (n_also n_gone n_none)))

quiet_named : (s : Setup) (m : Bool) (w : List ℕ) (r : ℕ) → NamedOutcome (quiet_fall s m w r)
unfolding quiet_fall
quiet_named s m w r = n_done (unsure_named s m w (n_also n_gone n_none))

seen_named : (e : ℕ) {os : List Out} → AllNamed os → AllNamed (with_seen e os)
unfolding with_seen
seen_named zero r = r
seen_named (suc e) r = n_also n_seen r

-- ---- a user's events

shot_named : (b : Bool) (a : Terms) (m : Msg) (st : State) → NamedOutcome (on_shot b a m st)
unfolding on_shot on_single on_multi
shot_named false a m idle = one n_send
shot_named false a m (single T w t) = n_refused
shot_named false a m (multi T k t) = n_refused
shot_named false a m (ending T w t) = n_refused
shot_named false a m (assoc T w t) = n_refused
shot_named true a m st = multi_named (bar a m st) st
  where
    multi_named : (b : Option Refusal) (st : State) → NamedOutcome (on_multi b a m st)
    multi_named b idle = one n_send
    multi_named b (single T w t) = n_refused
    multi_named b (multi T k t) = n_refused
    multi_named b (ending T w t) = n_refused
    multi_named (Some n) (assoc T w t) = n_refused
    multi_named None (assoc T w t) = one n_send

pub request_named : (c : Bool) (a : Terms) (r : Reading) (st : State) → NamedOutcome (on_request c a r st)
unfolding on_request on_vetted
request_named c a r st = go (vet c r)
  where
    go : (o : Option Msg) → NamedOutcome (on_vetted a o st)
    go None = n_refused
    go (Some m) = shot_named (body_of m).maintained a m st

pub end_named : (st : State) → NamedOutcome (on_end st)
unfolding on_end
end_named idle = n_refused
end_named (single T w t) = n_refused
end_named (multi T k t) = n_refused
end_named (ending T w t) = n_refused
end_named (assoc T w t) = one n_send

pub tick_named : (s : Setup) (b : Bool) (st : State) → NamedOutcome (on_tick s b st)
unfolding on_tick
tick_named s b idle = n_done n_none
tick_named s true (single T w t) = fall_named s false w 2
tick_named s false (single T w t) = n_done n_none
tick_named s true (multi T k t) = fall_named s true (ids_of k) 2
tick_named s false (multi T k t) = n_done n_none
tick_named s true (ending T w t) = fall_named s true w 2
tick_named s false (ending T w t) = n_done n_none
tick_named s true (assoc T w t) = one n_send
tick_named s false (assoc T w t) = n_done n_none

-- ---- a line

greet_named : (s : Setup) (b : Bool) (a : Terms) (e : ℕ) (m : Msg) → NamedOutcome (greet s b a e m)
unfolding greet
greet_named s true a e m = n_done (seen_named e (n_also n_send n_none))
greet_named s false a e (plain i r q b) = n_done (seen_named e (n_also n_give (n_also n_send n_none)))
greet_named s false a e (sure i r q b) = n_done (seen_named e (n_also n_give (n_also n_send n_none)))

start_named : (s : Setup) (a : Terms) (h : Option Reading) (st : State) → NamedOutcome (on_start s a h st)
unfolding on_start first_contact
start_named s a None idle = one n_send
start_named s a (Some (bad n)) idle = one n_send
start_named s a (Some (good (msg m) e)) idle = greet_named s (body_of m).maintained a e m
start_named s a (Some (good (note k r i q b) e)) idle = n_done (seen_named e (n_also n_send n_none))
start_named s a f (single T w t) = n_refused
start_named s a f (multi T k t) = n_refused
start_named s a f (ending T w t) = n_refused
start_named s a f (assoc T w t) = n_refused

noted_named : (e : ℕ) (k : Kind) (r : ℕ) (i : Option ℕ) (q : List ℕ) (b : Body) (o : Option (List ℕ)) → AllNamed (noted e k r (note k r i q b) o)
unfolding noted
noted_named e k r i q b None = seen_named e n_none
noted_named e k r i q b (Some v) = seen_named e (n_also (n_answer names) n_none)

dat_named : (s : Setup) (r : Reading) (st : State) → NamedOutcome (on_dat s r st)
unfolding on_dat
dat_named s f idle = n_refused
dat_named s f (single T w t) = n_refused
dat_named s f (multi T k t) = n_refused
dat_named s (bad n) (ending T w t) = fall_named s true w n
dat_named s (good (msg m) e) (ending T w t) = n_done (seen_named e (n_also n_give n_none))
dat_named s (good (note k r i q b) e) (ending T w t) = n_done (noted_named e k r i q b (without r w))
dat_named s (bad n) (assoc T w t) = fall_named s true w n
dat_named s (good (msg (plain i r q b)) e) (assoc T w t) = n_done (seen_named e (n_also n_give n_none))
dat_named s (good (msg (sure i r q b)) e) (assoc T w t) = n_done (seen_named e (n_also n_give (n_also n_send n_none)))
dat_named s (good (note k r i q b) e) (assoc T w t) = n_done (noted_named e k r i q b (without r w))

fin_named : (s : Setup) (st : State) → NamedOutcome (on_fin s st)
unfolding on_fin
fin_named s idle = n_refused
fin_named s (single T w t) = n_refused
fin_named s (multi T k t) = n_refused
fin_named s (ending T w t) = n_refused
fin_named s (assoc T w t) = n_done (n_also n_send (unsure_named s true w (n_also n_ended n_none)))

fin_ok_named : (s : Setup) (b : Bool) (st : State) → NamedOutcome (on_fin_ok s b st)
unfolding on_fin_ok
fin_ok_named s b idle = n_refused
fin_ok_named s b (single T w t) = n_refused
fin_ok_named s b (multi T k t) = n_refused
fin_ok_named s b (assoc T w t) = n_refused
fin_ok_named s true (ending T w t) = n_done (unsure_named s true w n_none)
fin_ok_named s false (ending T w t) = n_done n_none

abort_named : (s : Setup) (r : ℕ) (st : State) → NamedOutcome (on_abort s r st)
unfolding on_abort
abort_named s r idle = n_refused
abort_named s r (single T w t) = quiet_named s false w r
abort_named s r (multi T k t) = quiet_named s true (ids_of k) r
abort_named s r (ending T w t) = quiet_named s true w r
abort_named s r (assoc T w t) = quiet_named s true w r

-- a reply to those who wait for it: nothing, or a confirmation of the first one's identifier
abbrev pub NamesHeld : List ℕ → Option Reading → Type 0
NamesHeld [] h = Unit {0}
NamesHeld (i ∷ w) None = Unit {0}
NamesHeld (i ∷ w) (Some (bad n)) = Unit {0}
NamesHeld (i ∷ w) (Some (good f e)) = Names f i

answered_named : (s : Setup) (w : List ℕ) (h : Option Reading) → NamesHeld w h → AllNamed (answered_by s w h)
unfolding answered_by local
answered_named s [] h n = n_none
answered_named s (i ∷ w) None n = n_also (n_answer names) n_none
answered_named s (i ∷ w) (Some (bad k)) n = n_also (n_answer names) n_none
answered_named s (i ∷ w) (Some (good f e)) n = seen_named e (n_also (n_answer n) n_none)

-- only a rejecting reply to a single-shot transfer has to name what it answers
abbrev pub SuitsReply : State → Option Reading → Type 0
SuitsReply idle h = Unit {0}
SuitsReply (single T w t) h = NamesHeld w h
SuitsReply (multi T k t) h = Unit {0}
SuitsReply (ending T w t) h = Unit {0}
SuitsReply (assoc T w t) h = Unit {0}

abbrev pub Suits : Line → State → Type 0
Suits (start a f) st = Unit {0}
Suits (reply true f) st = Unit {0}
Suits (reply false f) st = SuitsReply st f
Suits (dat f) st = Unit {0}
Suits fin st = Unit {0}
Suits (fin_ok a) st = Unit {0}
Suits (cut r) st = Unit {0}
Suits lost st = Unit {0}

reply_named : (s : Setup) (b : Bool) (h : Option Reading) (st : State) → Suits (reply b h) st → NamedOutcome (on_reply s b h st)
unfolding on_reply begun
reply_named s b h idle n = n_refused
reply_named s true h (single T w t) n = fall_named s false w 10
reply_named s false h (single T w t) n = n_done (answered_named s w h n)
reply_named s true None (multi T k t) n = one n_send
reply_named s true (Some f) (multi T k t) n = fall_named s true (ids_of k) 10
reply_named s false h (multi T k t) n = n_done (refuse_named s (ids_of k) (n_also n_gone n_none))
reply_named s b h (ending T w t) n = n_refused
reply_named s b h (assoc T w t) n = n_refused

pub line_named : (s : Setup) (l : Line) (st : State) → Suits l st → NamedOutcome (on_line s l st)
unfolding on_line
line_named s (start a f) st n = start_named s a f st
line_named s (reply true f) st n = reply_named s true f st n
line_named s (reply false f) st n = reply_named s false f st n
line_named s (dat f) st n = dat_named s f st
line_named s fin st n = fin_named s st
line_named s (fin_ok a) st n = fin_ok_named s a st
line_named s (cut r) st n = abort_named s 0 st
line_named s lost st n = abort_named s 1 st

-- ---- the next line toward an end suits it

abbrev pub SuitsNext : World → Type 0
SuitsNext (world (at s u d h f acc ans) b out [] next) = Unit {0}
SuitsNext (world (at s u d h f acc ans) b out (l ∷ inn) next) = Suits (as_heard u l.1) u

pub suits : {w : World} → Inv w → SuitsNext w
unfolding as_heard tail dats wire ids_of
suits (talking {qb = []} a up c e v k p q) = tt
suits (talking {qb = []} up down c e v k p q) = tt
suits (talking {qb = []} down down c e v k p q) = tt
suits (talking {qb = mes m y ∷ qs} up b c e v k p q) = tt
suits (talking {qb = confirm r y ∷ qs} up b c e v k p q) = tt
suits (talking {qb = mes m y ∷ qs} down b c e v k p q) = tt
suits (talking {qb = confirm r y ∷ qs} down b c e v k p q) = tt
suits (dead a b c by_peer v k p q) = tt
suits (dead a b c by_provider v k p q) = tt
suits (free (rested h) (resting lt) k p q) = tt
suits (free (rested h) (calling_single sh a y ne lt) k p q) = tt
suits (free (rested h) (calling_multi a y ne lt) k p q) = tt
suits (free (rested h) (stranded_single c v ne lt) k p q) = tt
suits (free (rested h) (stranded_multi c v ne lt) k p q) = tt
suits (free (turning reply_plain ea eb) b k p q) = tt
suits (free (turning reply_sure ea eb) b k p q) = names
suits (free (closing {q = []} last_fin f r e y) b k p q) = tt
suits (free (closing {q = []} last_ok f r e y) b k p q) = tt
suits (free (closing {q = mes m z ∷ qs} l f r e y) b k p q) = tt
suits (free (closing {q = confirm j z ∷ qs} l f r e y) b k p q) = tt
suits (free (severed a by_peer v) b k p q) = tt
suits (free (severed a by_provider v) b k p q) = tt
suits (free' a (resting lt) k p q) = tt
suits (free' a (calling_single o b y ne lt) k p q) = tt
suits (free' a (calling_multi b y ne lt) k p q) = tt
suits (free' a (stranded_single by_peer v ne lt) k p q) = tt
suits (free' a (stranded_single by_provider v ne lt) k p q) = tt
suits (free' a (stranded_multi by_peer v ne lt) k p q) = tt
suits (free' a (stranded_multi by_provider v ne lt) k p q) = tt
suits (opening a b v k p q) = tt
suits (opening' a b v k p q) = tt
