-- Each step of the pair in octets is a step of the rule book's pair, or none. Closed by what a unit that is a picture says to an event (Pictures).
use Rattle.std.specs.Prelude.{None, Option, Some}
use Prim.Native.Nat.{ℕ, zero, suc, ◌+◌, ◌<◌, ◌≤◌}
use mathlib.Core.Path.{◌≡◌, refl, ap, sym, subst, fun_ext, ◌∙◌}
use mathlib.Core.Bool.{Bool, true, false}
use mathlib.Core.List.{List, [], ◌∷◌}
use native.Mathlib.Omega.{arith}
use borrow.Author.Tests.{ltb-true, leb-true}
use lib.Dec.{eqb, ltb, leb}
use lib.ListN.{length, drop, get_or}
use lib.Seq.{get_or-drop}
use Rattle.octets.specs.Choice.{pick, both}
use Rattle.frame.specs.Message.{Extension}
use Rattle.frame.specs.Reading.{octet}
use Rattle.book.specs.declared.Terms.{Terms}
use Rattle.book.specs.declared.Event.{Event}
use Rattle.book.specs.declared.Event.TheVariants.{Malformed, Transfer, End as Ending, Tick}
use Rattle.book.specs.declared.Refusal.TheVariants.{BadFrame, NoEvent}
use Rattle.book.specs.declared.Refusal.{Refusal}
use Rattle.book.specs.Book.{Msg, plain, sure, msg, note, Reading, bad, good, Line, start, reply, dat, fin, fin_ok, cut, lost, State, idle, single, multi, ending, assoc, Setup, Outcome, refused, ids_of, vet, late, on_vetted, on_request, on_end, on_tick}
use Rattle.book.specs.View.{reading_in, frame_octets}
use Rattle.book.specs.Picture.{picture}
use Rattle.book.specs.Events.{event_of, by_kind, with_terms, terms_in}
use Rattle.book.specs.Step.{does, step}
use Rattle.book.proofs.Views.{read_allowed, read_whole}
use Rattle.pair_laws.specs.Model as M
use Rattle.pair_laws.proofs.Named.{Suits, SuitsNext, line_named, request_named, end_named, tick_named}
use Rattle.sound_laws.proofs.Within.{Within, Limited, Positive, positive, both_left, both_right}
use Rattle.sound_laws.proofs.Rules.{Keeps, keeps_request, keeps_end, keeps_tick, keeps_start, keeps_reply, keeps_dat, keeps_fin, keeps_fin_ok, keeps_abort}
use Rattle.link.specs.Wire.{kind_of, octets}
use Rattle.link.specs.Link.{Log, identifier, asks_for, note_nothing, Queue, End, at, World, world, busy, act, act_there, start_comes, from_user, ask_with, ask_near, as_heard, hear, hear_start, near_unit, reach, deliver_near, break_end, warn, break_both, break_near}
use Rattle.link.proofs.Fine.{Heard, faulty, whole, FineOutcome, Named, named, request_fine, end_fine, tick_fine, start_fine, reply_fine, dat_fine, fin_fine, fin_ok_fine, abort_fine}
use Rattle.link.proofs.Frames.{added, count, names_message}
use Rattle.link.proofs.Related.{RelLog, rel_fate}
use Rattle.link.proofs.Wires.{HeardLine, Wire, wire_lost, wire_fin_ok}
use Rattle.link.proofs.Pictures.{step_picture}
use Rattle.link.proofs.Follows.{RelEnd, rel_end, RelQueue, q_none, q_also, RelWorld, rel_world, is_start, rel_comes, rel_busy, rel_inside, rel_near, rel_purge, rel_update, Known, Near, near, of_near, rel_act, rel_act_there}

-- ---- a line that an end hears

-- what is known of the outcome of a line
line_fine : (s : Setup) → Named s → (l : Line) (st : State) → HeardLine l → Within s st → FineOutcome (M.on_line s l st)
unfolding M.on_line
line_fine s n (start a f) st h w = start_fine s n a f st h.1
line_fine s n (reply b f) st h w = reply_fine s n b f st h w
line_fine s n (dat f) st h w = dat_fine s n f st h
line_fine s n fin st h w = fin_fine s n st
line_fine s n (fin_ok b) st h w = fin_ok_fine s n b st
line_fine s n (cut r) st h w = abort_fine s n 0 st
line_fine s n lost st h w = abort_fine s n 1 st

line_keeps : (s : Setup) → Positive s → (l : Line) (st : State) → HeardLine l → Within s st → Keeps s (M.on_line s l st)
unfolding M.on_line
line_keeps s p (start a f) st h w = keeps_start s p a f st h.0
line_keeps s p (reply b f) st h w = keeps_reply s p b f st w
line_keeps s p (dat f) st h w = keeps_dat s p f st w
line_keeps s p fin st h w = keeps_fin s p st
line_keeps s p (fin_ok b) st h w = keeps_fin_ok s p b st w
line_keeps s p (cut r) st h w = keeps_abort s p 0 st
line_keeps s p lost st h w = keeps_abort s p 1 st

line_known : (s : Setup) → Limited s → (l : Line) (st : State) → HeardLine l → Within s st → Suits l st → Known s (M.on_line s l st)
line_known s i l st h w n = record {
  are_fine = line_fine s (named s i) l st h w;
  are_named = line_named s l st n;
  keeps = line_keeps s (positive s i) l st h w;
}

module _ (xs : List Extension) {s : Setup} {st : State} {ev : List ℕ} {l : Line} (v : Wire ev l) (n : Suits l st) where
  says : Limited s → Within s st → step 1024 (picture s st) ev ≡ M.on_line s l st
  says i w = step_picture s i st w ev ∙ v.says s st

  rel_hear : {W : World} {w : M.World} → Near s st W w → RelWorld (hear xs ev W) (M.hear (count xs) l w)
  unfolding M.hear
  rel_hear (near i w f b p q) =
      rw (says i w) (rel_act xs [] v.noted (M.on_line s l st) (line_known s i l st v.allowed w n) (near i w f b p q))

  rel_hear_start : (d : ℕ) {W : World} {w : M.World} → Near s st W w → RelWorld (hear_start xs d ev W) (M.hear_start (count xs) d l w)
  unfolding M.hear_start M.join
  rel_hear_start d (near i w f b p q) =
      rw (says i w)
      (rel_act_there xs [] v.noted (M.on_line s l st) (line_known s i l st v.allowed w n) (of_near (near i w f b p q)) (near i w f b p q))

-- "If both ends sent 33, each gets 14 accepted in place of the other's 33."
pub wire_heard : (s : Setup) (st : State) {ev : List ℕ} (l : Line) → Wire ev l → Wire (as_heard (picture s st) ev) (M.as_heard st l)
unfolding M.as_heard
wire_heard s st (start a f) v = rw v.kind v
wire_heard s st (reply b f) v = rw v.kind v
wire_heard s st (dat f) v = rw v.kind v
wire_heard s idle fin v = rw v.kind v
wire_heard s (single a w t) fin v = rw v.kind v
wire_heard s (multi a k t) fin v = rw v.kind v
wire_heard s (ending a w t) fin v = rw v.kind (wire_fin_ok true)
wire_heard s (assoc a w t) fin v = rw v.kind v
wire_heard s st (fin_ok b) v = rw v.kind v
wire_heard s st (cut r) v = rw v.kind v
wire_heard s st lost v = rw v.kind v

start_suits : (l : Line) (st : State) → M.is_start l ≡ true → Suits l st
unfolding M.is_start
start_suits (start a f) st e = tt
start_suits (reply b f) st e = let z : ◌≡◌ {A = ℕ} 0 1 = cc in absurd (omega arith)
start_suits (dat f) st e = tt
start_suits fin st e = tt
start_suits (fin_ok b) st e = tt
start_suits (cut r) st e = tt
start_suits lost st e = tt

module _ (xs : List Extension) (d : ℕ) {s : Setup} {st : State} {ev : List ℕ} {l : Line} (v : Wire ev l) (n : Suits (M.as_heard st l) st) where
  rel_reach : {W : World} {w : M.World} → Near s st W w → RelWorld (reach xs d ev W) (M.reach (count xs) d l w)
  unfolding reach M.reach M.near_state
  rel_reach {W} {w} r = rw (is_start v, rel_near d (of_near r)) (go r (M.is_start l) refl (M.near_inside d w))
    where
      go : {W : World} {w : M.World} → Near s st W w → (b : Bool) → b ≡ M.is_start l → (c : Bool)
          → RelWorld (pick b (hear_start xs d ev W) (pick c (hear xs (as_heard (near_unit W) ev) W) W))
          (pick b (M.hear_start (count xs) d l w) (pick c (M.hear (count xs) (M.as_heard (M.near_state w) l) w) w))
      go (near i y f b p q) true e c = rel_hear_start xs v (start_suits l st (sym e)) d (near i y f b p q)
      go (near i y f b p q) false e true = rel_hear xs (wire_heard s st l v) n (near i y f b p q)
      go (near i y f b p q) false e false = of_near (near i y f b p q)

-- the next line toward the near end
pub rel_deliver : (xs : List Extension) {W : World} {w : M.World} → RelWorld W w → SuitsNext w → RelWorld (deliver_near xs W) (M.deliver_near (count xs) w)
unfolding M.deliver_near
rel_deliver xs (rel_world (rel_end i y f) b p q_none) n = rel_world (rel_end i y f) b p q_none
rel_deliver xs (rel_world (rel_end {s} {st} i y f) b p (q_also {d} v q)) n = rel_reach xs d v n (near i y f b p q)

-- ---- the provider aborts

rel_warn : (d : ℕ) (b : Bool) {Q : Queue} {q : M.Queue} → RelQueue Q q → RelQueue (warn d b Q) (M.warn d b q)
unfolding M.warn
rel_warn d true r = q_also wire_lost (rel_purge d r)
rel_warn d false r = rel_purge d r

rel_broken : (d : ℕ) (b : Bool) {A : End} {a : M.End} → RelEnd A a → RelEnd (break_end d b A) (M.break_end d b a)
unfolding M.break_end
rel_broken d true (rel_end i y f) = rel_end i y (rel_update d f (rel_fate (f d) (λ k. M.broken)))
rel_broken d false r = r

rel_both : (d : ℕ) (b : Bool) {W : World} {w : M.World} → RelWorld W w → RelWorld (break_both d b W) (M.break_both d b w)
unfolding M.break_both
rel_both d b (rel_world x y o i) = rel_world (rel_broken d true x) (rel_broken d b y) (rel_warn d b o) (rel_warn d true i)

rel_pick : (x : Bool) {W T : World} {w t : M.World} → RelWorld W w → RelWorld T t → RelWorld (pick x W T) (pick x w t)
rel_pick true r k = r
rel_pick false r k = k

pub rel_break : {W : World} {w : M.World} → RelWorld W w → RelWorld (break_near W) (M.break_near w)
unfolding break_near M.break_near
rel_break (rel_world {b = b} (rel_end {s} {st} {d} i y f) g p q) =
    rw (rel_busy s st, rel_inside d g)
    (rel_pick (M.busy st) (rel_both d (M.inside d b) (rel_world (rel_end i y f) g p q)) (rel_world (rel_end i y f) g p q))

-- ---- a user's event, or a tick

-- octets are below 256
pub small : (s : List ℕ) → octets s ≡ true → (i : ℕ) → octet s i < 256
small [] e i = none_there i
  where
    none_there : (i : ℕ) → octet [] i < 256
    none_there zero = omega arith
    none_there (suc i) = omega arith
small (x ∷ s) e zero = ltb-true x 256 (both_left (ltb x 256) (octets s) e)
small (x ∷ s) e (suc i) = small s (both_right (ltb x 256) (octets s) e) i

-- what a user's octets, or the clock's, are
data FromUser (ev : List ℕ) : Event → Type 0 where
  nonsense : FromUser ev Malformed
  asks : (c : Bool) (a : Terms) → a.rer ≤ 2 → kind_of ev ≡ pick c 2 1 → FromUser ev (Transfer c a)
  ends : kind_of ev ≡ 3 → FromUser ev Ending
  ticks : kind_of ev ≡ 4 → FromUser ev Tick

terms_of : (ev : List ℕ) (c : Bool) → kind_of ev ≡ pick c 2 1 → FromUser ev (with_terms 0 ev (Transfer c (terms_in ev)))
unfolding terms_in
terms_of ev c k = go (ltb (length ev) 4) (leb 0 (get_or ev 3 0)) (leb (get_or ev 3 0) 2) refl
  where
    go : (x y z : Bool) → z ≡ leb (get_or ev 3 0) 2 → FromUser ev (pick x Malformed (pick (both y z) (Transfer c (terms_in ev)) Malformed))
    go true y z e = nonsense
    go false false z e = nonsense
    go false true false e = nonsense
    go false true true e = asks c (terms_in ev) (leb-true (get_or ev 3 0) 2 (sym e)) k

alone_of : (ev : List ℕ) (b : Bool) {x : Event} → FromUser ev x → FromUser ev (pick b x Malformed)
alone_of ev true f = f
alone_of ev false f = nonsense

from_user_lem : (ev : List ℕ) → 1 ≤ kind_of ev → kind_of ev ≤ 4 → FromUser ev (event_of ev)
unfolding event_of
from_user_lem ev l h = go (eqb (length ev) 0) (kind_of ev) refl
  where
    go : (b : Bool) (k : ℕ) → kind_of ev ≡ k → FromUser ev (pick b Malformed (by_kind k ev))
    go true k e = nonsense
    go false zero e = absurd (omega arith)
    go false (suc zero) e = terms_of ev false e
    go false (suc (suc zero)) e = terms_of ev true e
    go false (suc (suc (suc zero))) e = alone_of ev (eqb (length ev) 1) (ends e)
    go false (suc (suc (suc (suc zero)))) e = alone_of ev (eqb (length ev) 1) (ticks e)
    go false (suc (suc (suc (suc (suc k))))) e = absurd (omega arith)

-- the rule book's step that follows, or none
pub data Follows (W : World) (w : M.World) : Type 0 where
  stays : RelWorld W w → Follows W w
  goes_on : (c : M.Act) → RelWorld W (M.do_near c w) → Follows W w

-- ---- a request

silent_heard : (A : Log) (a : M.Log) → RelLog A a → RelLog (note_nothing A) (M.silent a)
unfolding M.silent
silent_heard A a r = r

-- a refused request changes nothing
ask_refused : (xs : List Extension) (new : List ℕ) (b c : Bool) (n : Refusal) (W : World) → ask_with xs new b c (refused n) W ≡ W
unfolding act act_there
ask_refused xs new true c n W = refl
ask_refused xs new false true n W = refl
ask_refused xs new false false n W = refl

rel_ask : (xs : List Extension) (new : List ℕ) (b c : Bool) {s : Setup} {st : State} (o : Outcome) → Known s o → {W : World} {w : M.World} → Near s st W w
    → RelWorld (ask_with xs new b c o W) (M.ask_with (count xs) new b c o w)
unfolding M.ask_with M.fresh
rel_ask xs new true c o k r = rel_act xs new silent_heard o k r
rel_ask xs new false true o k r = of_near r
rel_ask xs new false false o k (near i y f b p q) = rel_act_there xs new silent_heard o k (of_near (near i y f b p q)) (near i y f b p q)

heard_of : (f : List ℕ) → ((i : ℕ) → octet f i < 256) → (r : Reading) → reading_in f ≡ r → Heard r
heard_of f h (bad n) e = faulty
heard_of f h (good g n) e = whole (read_allowed f g n h e)

request_none : (c : Bool) (a : Terms) (r : Reading) (st : State) → vet c r ≡ None → on_request c a r st ≡ refused BadFrame
unfolding on_request on_vetted
request_none c a r st e = rw e

-- a confirmed transfer's identifier
asked_plain : (r : Reading) (m : Msg) → vet false r ≡ Some m → ids_of m ≡ []
unfolding vet ids_of
asked_plain (bad n) m e = let z : ◌≡◌ {A = ℕ} 0 1 = cc in absurd (omega arith)
asked_plain (good g (suc n)) m e = let z : ◌≡◌ {A = ℕ} 0 1 = cc in absurd (omega arith)
asked_plain (good (note k r i q b) zero) m e = let z : ◌≡◌ {A = ℕ} 0 1 = cc in absurd (omega arith)
asked_plain (good (msg (sure i r q b)) zero) m e = let z : ◌≡◌ {A = ℕ} 0 1 = cc in absurd (omega arith)
asked_plain (good (msg (plain i r q b)) zero) m e = let z : plain i r q b ≡ m = cc in rw (← z)

asked_sure : (f : List ℕ) → ((i : ℕ) → octet f i < 256) → (r : Reading) → reading_in f ≡ r → (m : Msg) → vet true r ≡ Some m → identifier f ≡ ids_of m
unfolding vet
asked_sure f h (bad n) q m e = let z : ◌≡◌ {A = ℕ} 0 1 = cc in absurd (omega arith)
asked_sure f h (good g (suc n)) q m e = let z : ◌≡◌ {A = ℕ} 0 1 = cc in absurd (omega arith)
asked_sure f h (good (note k r i t b) zero) q m e = let z : ◌≡◌ {A = ℕ} 0 1 = cc in absurd (omega arith)
asked_sure f h (good (msg (plain i r t b)) zero) q m e = let z : ◌≡◌ {A = ℕ} 0 1 = cc in absurd (omega arith)
asked_sure f h (good (msg (sure i r t b)) zero) q m e =
    let z : sure i r t b ≡ m = cc in
    rw (← z) (ap identifier (sym (read_whole f (msg (sure i r t b)) h q)) ∙ names_message (sure i r t b) (read_allowed f (msg (sure i r t b)) 0 h q))

module _ (xs : List Extension) (ev : List ℕ) (isSmall : (i : ℕ) → octet ev i < 256) where
  frame_small : (i : ℕ) → octet (drop 4 ev) i < 256
  frame_small i = rw (get_or-drop 4 ev i 0) (isSmall (4 + i))

  asked_ids : (c : Bool) → kind_of ev ≡ pick c 2 1 → (m : Msg) → vet c (reading_in (drop 4 ev)) ≡ Some m → asks_for ev ≡ ids_of m
  unfolding asks_for
  asked_ids false k m e = rw k (sym (asked_plain (reading_in (drop 4 ev)) m e))
  asked_ids true k m e = rw k (asked_sure (drop 4 ev) frame_small (reading_in (drop 4 ev)) refl m e)

  asked_same : (c : Bool) → kind_of ev ≡ pick c 2 1 → (m : Msg) → vet c (reading_in (drop 4 ev)) ≡ Some m → asks_for ev ≡ M.asked_ids (vet c (reading_in (drop 4 ev)))
  unfolding M.asked_ids
  asked_same c k m e = asked_ids c k m e ∙ sym (ap M.asked_ids e)

  request_known : (c : Bool) (a : Terms) → a.rer ≤ 2 → (s : Setup) → Limited s → (st : State) → Within s st → Known s (on_request c a (reading_in (drop 4 ev)) st)
  request_known c a r s i st y = record {
    are_fine = request_fine c a r (reading_in (drop 4 ev)) st (heard_of (drop 4 ev) frame_small (reading_in (drop 4 ev)) refl);
    are_named = request_named c a (reading_in (drop 4 ev)) st;
    keeps = keeps_request s (positive s i) c a (drop 4 ev) st frame_small r y;
  }

  low_kind : (c : Bool) → leb (pick c 2 1) 2 ≡ true
  low_kind true = refl
  low_kind false = refl

  -- 01 and 02
  rel_request : (c : Bool) (a : Terms) → a.rer ≤ 2 → kind_of ev ≡ pick c 2 1 → event_of ev ≡ Transfer c a → {s : Setup} {st : State} {W : World} {w : M.World} → Near s st W w
      → Follows (ask_near xs ev W) w
  unfolding ask_near does M.do_near M.ask_near
  rel_request c a r k e {s} {st} (near {d} {k = h} {F} {f} {acc} {ans} {B} {b} {O} {I} {p} {i = q} {next} i y g t u v) =
      rw (k, low_kind c, step_picture s i st y ev, e, rel_busy s st, rel_comes v) (go (vet c (reading_in (drop 4 ev))) refl)
    where
      W : World
      W = world (at (picture s st) d h F acc ans) B O I next

      w : M.World
      w = M.world (M.at s st d h f acc ans) b p q next

      refused_2 : vet c (reading_in (drop 4 ev)) ≡ None → on_request c a (reading_in (drop 4 ev)) st ≡ refused BadFrame
      refused_2 z = request_none c a (reading_in (drop 4 ev)) st z

      asking : (m : Msg) → vet c (reading_in (drop 4 ev)) ≡ Some m
          → RelWorld (ask_with xs (asks_for ev) (M.busy st) (M.start_comes q) (on_request c a (reading_in (drop 4 ev)) st) W) (M.do_near (M.request c (count xs) a (reading_in (drop 4 ev))) w)
      asking m z = subst (λ n. RelWorld (ask_with xs (asks_for ev) (M.busy st) (M.start_comes q) (on_request c a (reading_in (drop 4 ev)) st) W)
          (M.ask_with (count xs) n (M.busy st) (M.start_comes q) (on_request c a (reading_in (drop 4 ev)) st) w)) (asked_same c k m z) (rel_ask xs (asks_for ev) (M.busy st) (M.start_comes q) (on_request c a (reading_in (drop 4 ev)) st) (request_known c a r s i st y) (near i y g t u v))

      go : (o : Option Msg) → vet c (reading_in (drop 4 ev)) ≡ o
          → Follows (ask_with xs (asks_for ev) (M.busy st) (M.start_comes q) (on_request c a (reading_in (drop 4 ev)) st) W) w
      go None z = stays (rw (refused_2 z, ask_refused xs (asks_for ev) (M.busy st) (M.start_comes q) BadFrame W) (of_near (near i y g t u v)))
      go (Some m) z = goes_on (M.request c (count xs) a (reading_in (drop 4 ev))) (asking m z)

-- ---- 03, 04, and what is no event

-- without extension fields
count_none : count [] ≡ M.no_fields
unfolding count
count_none = fun_ext (λ f. go (added [] (frame_octets f)))
  where
    go : (b : Bool) → ◌≡◌ {A = ℕ} (pick b 0 0) 0
    go true = refl
    go false = refl

module _ (xs : List Extension) (ev : List ℕ) {s : Setup} {st : State} where
  rel_end_asked : kind_of ev ≡ 3 → event_of ev ≡ Ending → {W : World} {w : M.World} → Near s st W w → Follows (ask_near xs ev W) w
  unfolding ask_near does M.do_near M.end_near
  rel_end_asked k e (near {d} {k = h} {F} {f} {acc} {ans} {B} {b} {O} {I} {p} {i = q} {next} i y g t u v) =
      rw (k, step_picture s i st y ev, e)
      (goes_on M.end
      (subst (λ x. RelWorld (act [] [] note_nothing (on_end st) (world (at (picture s st) d h F acc ans) B O I next)) (M.act x [] M.silent (on_end st) (M.world (M.at s st d h f acc ans) b p q next)))
      count_none
      (rel_act [] [] silent_heard (on_end st)
      (record { are_fine = end_fine st; are_named = end_named st; keeps = keeps_end s (positive s i) st y }) (near i y g t u v))))

  rel_ticked : kind_of ev ≡ 4 → event_of ev ≡ Tick → {W : World} {w : M.World} → Near s st W w → Follows (ask_near xs ev W) w
  unfolding ask_near does M.do_near M.tick_near
  rel_ticked k e (near {d} {k = h} {F} {f} {acc} {ans} {B} {b} {O} {I} {p} {i = q} {next} i y g t u v) =
      rw (k, step_picture s i st y ev, e)
      (goes_on M.tick
      (subst (λ x. RelWorld (act [] [] note_nothing (on_tick s (late s st) st) (world (at (picture s st) d h F acc ans) B O I next))
      (M.act x [] M.silent (on_tick s (late s st) st) (M.world (M.at s st d h f acc ans) b p q next)))
      count_none
      (rel_act [] [] silent_heard (on_tick s (late s st) st)
      (record { are_fine = tick_fine s (named s i) (late s st) st; are_named = tick_named s (late s st) st; keeps = keeps_tick s (positive s i) st y }) (near i y g t u v))))

  rel_nonsense : event_of ev ≡ Malformed → {W : World} {w : M.World} → Near s st W w → Follows (ask_near xs ev W) w
  unfolding ask_near does act
  rel_nonsense e (near {d} {k = h} {F} {f} {acc} {ans} {B} {b} {O} {I} {p} {i = q} {next} i y g t u v) =
      rw (step_picture s i st y ev, e, ask_refused xs (asks_for ev) (busy (picture s st)) (start_comes I) NoEvent (world (at (picture s st) d h F acc ans) B O I next))
      (stays (rel_same (leb (kind_of ev) 2) (of_near (near i y g t u v))))
    where
      rel_same : (b : Bool) {W : World} {w : M.World} → RelWorld W w → RelWorld (pick b W W) w
      rel_same true r = r
      rel_same false r = r

-- an event of the near end's user or clock
pub rel_user : (xs : List Extension) (ev : List ℕ) → from_user ev ≡ true → {W : World} {w : M.World} → RelWorld W w → Follows (ask_near xs ev W) w
rel_user xs ev e (rel_world (rel_end i y f) b p q) =
    let o = both_left (octets ev) (both (leb 1 (kind_of ev)) (leb (kind_of ev) 4)) e in
    let k = both_right (octets ev) (both (leb 1 (kind_of ev)) (leb (kind_of ev) 4)) e in
    let l = leb-true 1 (kind_of ev) (both_left (leb 1 (kind_of ev)) (leb (kind_of ev) 4) k) in
    let h = leb-true (kind_of ev) 4 (both_right (leb 1 (kind_of ev)) (leb (kind_of ev) 4) k) in
    go refl (from_user_lem ev l h) (small ev o) (near i y f b p q)
  where
    go : {s : Setup} {st : State} {W : World} {w : M.World} {x : Event} → event_of ev ≡ x → FromUser ev x → ((i : ℕ) → octet ev i < 256) → Near s st W w → Follows (ask_near xs ev W) w
    go z nonsense t r = rel_nonsense xs ev z r
    go z (asks c a m k) t r = rel_request xs ev t c a m k z r
    go z (ends k) t r = rel_end_asked xs ev k z r
    go z (ticks k) t r = rel_ticked xs ev k z r
