-- Laws of a line's answer: the room of what a unit lays, and the setup of a first line. Closed by cases on the outcome, and by the tests.
use Rattle.std.specs.Prelude.{None, Option, Some, Result, Ok, Err}
use Prim.Native.Nat.{ℕ, ◌+◌, ◌-◌, ◌<◌, ◌≤◌}
use mathlib.Core.Path.{◌≡◌, refl, ap, sym, ◌∙◌}
use mathlib.Core.Bool.{Bool, true, false}
use mathlib.Core.List.{List, [], ◌∷◌, ◌++◌, append-nil}
use native.Mathlib.Omega.{arith}
use borrow.Author.Tests.{ne_eqb}
use lib.Dec.{eqb, ltb}
use lib.ListN.{length, take, drop, get_or, drop_of_length-le}
use lib.Seq.{sets}
use Rattle.std.proofs.lemmas.List.{get_or_default, take_rest}
use Rattle.octets.specs.Choice.{pick, both}
use Rattle.octets.specs.Put.{Put}
use Rattle.octets.proofs.Puts as Puts
use Rattle.text.specs.Printing.{printed_in}
use Rattle.frame.specs.Reading.{octet}
use Rattle.book.specs.Book.{Out, State, Outcome, refused, done}
use Rattle.book.specs.Sound.{sound_of, within_limits}
use Rattle.book.specs.Step.{step, octets_of, turn_of, set_up}
use Rattle.book.specs.declared.Unit.{Unit as Value}
use Rattle.book.specs.declared.Turn.{Turn}
use Rattle.book.specs.Refusals.{refusal_number}
use Rattle.book.specs.declared.Done.{Done}
use Rattle.book.specs.declared.Refusal.{Refusal}
use Rattle.book.specs.declared.Refusal.TheVariants.{BadSetup, NoEvent, Unsound}
use Rattle.image.specs.Image.{unit_of}
use Rattle.image.specs.Answer.{Handled, SetsUp}
use Rattle.image_laws.proofs.GoesOn as GoesOn
use Rattle.image_laws.proofs.GoesOn.{set_verdict, set_unit}
use Rattle.room_laws.proofs.Room.{room}
use Rattle.session.specs.Listing.{Answer, text, two, no_setup, setup_in, first_turn, refusal_line, state_line, begun, outcome_lines, gone_on, answer_to, listed}
use Rattle.session.specs.Feeding.{state_of, said, most, last_line}
use Rattle.session.specs.Walking.{Begins, Lays, Says, stated, verdict_lines}
use Rattle.session.specs.declared.answers.Said.{Said}
use Rattle.session.specs.declared.Phase.{Phase}
use Rattle.session.specs.declared.Phase.TheVariants.{First, Running, Stopped}
use Rattle.std.specs.Option.{unwrap_or}
use Rattle.std.specs.Borrow.{Bor}
use Rattle.text.specs.Reading.{held_in}
use Rattle.text.specs.Hearing.{heard, Takes}
use Rattle.text.specs.declared.hearing.Fed.{Fed}
use Rattle.text.specs.declared.hearing.Reader.{Reader}
use Rattle.session.proofs.WalkLaws.{shows, text_one, text-append, print_put, printed_long}

-- ---- room

unsound : (u : Value) (ev : List ℕ) (o : Outcome) → sound_of u ≡ false → step 1024 u ev ≡ o → o ≡ refused Unsound
unfolding step
unsound u ev o e q = sym q ∙ rw e

apart : {n : Refusal} {st : State} {os : List Out} → done st os ≡ refused n → ⊥
apart e = let z : ◌≡◌ {A = ℕ} 0 1 = cc in absurd (omega arith)

-- what any unit lays for any event has room
pub outcome_room : (u : Value) (ev : List ℕ) → length u.name ≡ 32 → length u.waiting ≡ 8 → length u.kept ≡ 554
    → ((i : ℕ) → get_or u.kept i 0 < 256) → ((i : ℕ) → octet ev i < 256) → length (octets_of (step 1024 u ev)) ≤ 1024
unfolding octets_of
outcome_room u ev wide eight long kept small = go (sound_of u) refl (step 1024 u ev) refl
  where
    go : (b : Bool) → b ≡ sound_of u → (o : Outcome) → step 1024 u ev ≡ o → length (octets_of o) ≤ 1024
    go b e (refused n) q = omega arith
    go true e (done st os) q = (room 1024 u ev st os (sym e) wide eight long kept small q).0
    go false e (done st os) q = absurd (apart (unsound u ev (done st os) (sym e) q))

-- ---- the first line

no_name : (a b c : Bool) → both a (both b (both c false)) ≡ false
no_name false b c = refl
no_name true false c = refl
no_name true true false = refl
no_name true true true = refl

pub setup_short : (s : List ℕ) → length s < 7 → no_setup ≡ setup_in s
unfolding setup_in set_up within_limits
setup_short s h = rw (drop_of_length-le s {i = 7} (omega arith), no_name (ltb 0 (two s 1)) (ltb 0 (two s 3)) (ltb 0 (two s 5))) (go (eqb (get_or s 0 1) 0))
  where
    go : (t : Bool) → no_setup ≡ pick t no_setup no_setup
    go true = refl
    go false = refl

-- the kind of a line that has one is its first octet, whatever would stand for it in an empty line (named by docs/PORT.md)
kind_of_lem : (s : List ℕ) → 7 ≤ length s → get_or s 0 1 ≡ get_or s 0 0
kind_of_lem s h = get_or_default s 0 1 0 (omega arith)

setup_as : (s : List ℕ) (a b c : ℕ) → 7 ≤ length s → get_or s 0 0 ≡ 0 → a ≡ two s 1 → b ≡ two s 3 → c ≡ two s 5
    → set_up a b c (take (length s - 7) (drop 7 s)) ≡ setup_in s
unfolding setup_in
setup_as s a b c h k x y z =
    rw (kind_of_lem s h, k, take_rest s 7, x, y, z)

pub setup_other : (s : List ℕ) → 7 ≤ length s → (get_or s 0 0 ≡ 0 → ⊥) → no_setup ≡ setup_in s
unfolding setup_in
setup_other s h k = rw (kind_of_lem s h, ne_eqb (get_or s 0 0) 0 k)

-- a line that is no event is none, as an empty one
setup_from : (e : Option (Bor (List ℕ))) (d : Bor (List ℕ)) → d.now ≡ [] → setup_in (unwrap_or e d).now ≡ first_turn (held_in e)
setup_from None d h = ap setup_in h ∙ sym (setup_short [] (omega arith))
setup_from (Some s) d h = refl

pub begins_as : {t k : Turn} {r : Result Done Refusal} {image : List ℕ} → t ≡ k → Begins t r image → Begins k r image
begins_as e h = rw e at h

-- what setup writes, over an image of 618 octets
begins : (a b c : ℕ) (name image : List ℕ) {r : Result Done Refusal} {after : List ℕ} → length image ≡ 618 → SetsUp a b c name image r after
    → Begins (set_up a b c name) r after
begins a b c name image w h = record { verdict = set_verdict a b c name image w h; unit = set_unit a b c name image w h }

pub setup_none : {image after : List ℕ} {r : Result Done Refusal} → length image ≡ 618 → SetsUp 0 0 0 [] image r after → Begins no_setup r after
unfolding set_up within_limits
setup_none {image} w h = begins 0 0 0 [] image w h

pub setup_is : (s : List ℕ) (a b c : ℕ) {image after : List ℕ} {r : Result Done Refusal} → length image ≡ 618 → 7 ≤ length s → get_or s 0 0 ≡ 0
    → a ≡ two s 1 → b ≡ two s 3 → c ≡ two s 5 → SetsUp a b c (take (length s - 7) (drop 7 s)) image r after → Begins (setup_in s) r after
setup_is s a b c {image} w h k x y z e = begins_as (setup_as s a b c h k x y z) (begins a b c (take (length s - 7) (drop 7 s)) image w e)

-- ---- what is printed

pub print_two : (out : List ℕ) (at kind number r : ℕ) (after : List ℕ) → at + 5 ≤ length out
    → r ≡ at + length (printed_in (length out) at (kind ∷ number ∷ [])) → after ≡ sets out at (printed_in (length out) at (kind ∷ number ∷ []))
    → (Put out at (text ((kind ∷ number ∷ []) ∷ [])) after r) × (r ≡ at + 5)
print_two out at k n r after h p q =
    let e = print_put out (k ∷ n ∷ []) at r after (omega arith) p q in
    (Puts.put_as (sym (text_one (k ∷ n ∷ []))) e, omega (arith, e.place, printed_long (k ∷ n ∷ [])))

-- a refusal, by its number
pub print_refusal : {out after : List ℕ} {at n end : ℕ} (r : Refusal) → n ≡ refusal_number r → (Put out at (text ((0xff ∷ n ∷ []) ∷ [])) after end) × (end ≡ at + 5)
    → (Put out at (text (refusal_line r ∷ [])) after end) × (end ≡ at + 5)
print_refusal r e p = rw e at p

-- two goes of printing are one
pub shown_then : (a b : List (List ℕ)) {b0 b1 b2 : List ℕ} {i j k : ℕ} → Put b0 i (text a) b1 j → Put b1 j (text b) b2 k → Put b0 i (text (a ++ b)) b2 k
shown_then a b p q = Puts.put_as (sym (text-append a b)) (Puts.then p q)

state_long : (u : Value) → length (text (state_line u ∷ [])) ≡ 5
state_long u = ap length (text_one (state_line u)) ∙ printed_long (state_line u)

-- `f0` and the state that was read in the image
pub says_state : (image out : List ℕ) {at k end : ℕ} {after : List ℕ} → k ≡ (unit_of image).state → Put out at (text ((0xf0 ∷ k ∷ []) ∷ [])) after end → end ≡ at + 5
    → Says (stated (unit_of image) []) out at image after (record { phase = Running; end = end })
says_state image out e p q = record { phase = refl; unit = refl; put = rw e at p; small = omega arith }

-- the lines of a unit's answer, and then the state
pub says_on : {out mid after image : List ℕ} {at place : ℕ} {r : Said} (ls : List (List ℕ)) → Put out at (text ls) mid place → place ≤ at + 2048
    → Says (stated (unit_of image) []) mid place image after r → Says (stated (unit_of image) ls) out at image after r
says_on {image = image} ls p h t = record {
  phase = t.phase;
  unit = t.unit;
  put = shown_then ls (state_line (unit_of image) ∷ []) p t.put;
  small = omega (arith, t.put.place, state_long (unit_of image));
}

-- a line's answer, then the state, where a line of the input is taken (named by docs/PORT.md)
module _ {out mid after image : List ℕ} {at place : ℕ} {r : Fed (Reader Phase)} where
  pub goes_on : (u : Value) (n : ℕ) (o : Outcome) (ls : List (List ℕ)) → ls ≡ outcome_lines o → unit_of image ≡ (turn_of u o).unit
      → Put out at (text ls) mid place → place ≤ at + 2048 → Takes state_of (heard n (said (stated (unit_of image) []))) most mid place image after r
      → Takes state_of (heard n (said (gone_on u o))) most out at image after r
  goes_on u n o ls e f p h t = record {
    reader = t.reader ∙ ap (λ x. record { state = record { unit = x; phase = Running }; passing = false }) f;
    taken = t.taken;
    put = shown_then (outcome_lines o) (state_line (turn_of u o).unit ∷ []) (rw e at p) (rw f at t.put);
    small = omega (arith, t.put.place, state_long (unit_of image));
  }

-- a unit's turn at an event
pub handled : (image ev before : List ℕ) {image' after : List ℕ} {r : Result Done Refusal} → length image ≡ 618 → ((i : ℕ) → octet image i < 256)
    → ((i : ℕ) → octet ev i < 256) → length before ≡ 1024 → Handled image ev before r image' after
    → Lays (unit_of image) (step 1024 (unit_of image) ev) r image' after
handled image ev before {image'} {after} {r} e small event w t =
    let u = unit_of image in
    let v : r ≡ (turn_of u (step 1024 u ev)).verdict = rw w at (GoesOn.handled_verdict image ev before e small event t) in
    let n : unit_of image' ≡ (turn_of u (step 1024 u ev)).unit = rw w at (GoesOn.handled_unit image ev before e small event t) in
    let b : after ≡ sets before 0 (octets_of (step 1024 u ev)) = rw w at (GoesOn.handled_buffer image ev before e small event t) in
    shows u (step 1024 u ev) before after image' r v n b (omega arith)
    (outcome_room u ev (GoesOn.wide image e small) (GoesOn.eight image e small) (GoesOn.long image e small) (GoesOn.kept_small image e small) event)

-- ---- by phase

says_as : {a b : Answer} {out image after : List ℕ} {at : ℕ} {r : Said} → a ≡ b → Says b out at image after r → Says a out at image after r
says_as e h = rw e h

module _ {out image after : List ℕ} {at : ℕ} {r : Said} where
  pub begin_good : (v : Result Done Refusal) {d : Done} → v ≡ Ok d → Says (stated (unit_of image) []) out at image after r → Says (begun (unit_of image) v) out at image after r
  begin_good v e t = rw e t

  pub begin_refused : (v : Result Done Refusal) {k : Refusal} {end : ℕ} → v ≡ Err k → Put out at (text (refusal_line k ∷ [])) after end → end ≡ at + 5
      → r ≡ record { phase = Stopped; end = end } → Says (begun (unit_of image) v) out at image after r
  begin_refused v e p q f = rw (e, f) (record { phase = refl; unit = refl; put = p; small = omega arith })

  pub answer_first : (p : Phase) (u : Value) (e : Option (Bor (List ℕ))) (d x : Bor (List ℕ)) (v : Result Done Refusal) → p ≡ First → d.now ≡ [] → x ≡ unwrap_or e d
      → Begins (setup_in x.now) v image → Says (begun (unit_of image) v) out at image after r → Says (answer_to p u (held_in e)) out at image after r
  unfolding answer_to
  answer_first p u e d x v q z y f h =
      let t : setup_in x.now ≡ first_turn (held_in e) = ap (λ (b : Bor (List ℕ)). setup_in b.now) y ∙ setup_from e d z in
      rw q (says_as (rw (← t, f.unit, f.verdict)) h)

  pub answer_event : (p : Phase) (u : Value) (e : Option (Bor (List ℕ))) (x : Bor (List ℕ)) (v : Result Done Refusal) (laid : List ℕ) → p ≡ Running → e ≡ Some x
      → Lays u (step 1024 u x.now) v image laid → Says (stated (unit_of image) (verdict_lines v laid)) out at image after r
      → Says (answer_to p u (held_in e)) out at image after r
  unfolding answer_to
  answer_event p u e x v laid q i f h = rw (q, i) (says_as (rw (f.lines, f.unit)) h)

  pub answer_none : (p : Phase) (e : Option (Bor (List ℕ))) → p ≡ Running → e ≡ None
      → Says (stated (unit_of image) (refusal_line NoEvent ∷ [])) out at image after r → Says (answer_to p (unit_of image) (held_in e)) out at image after r
  unfolding answer_to turn_of
  answer_none p e q i h = rw (q, i) h

pub answer_stopped : (p : Phase) (image : List ℕ) (e : Option (List ℕ)) (out : List ℕ) {at : ℕ} → p ≡ Stopped
    → Says (answer_to p (unit_of image) e) out at image out (record { phase = p; end = at })
unfolding answer_to text
answer_stopped p image e out q = rw q (record { phase = refl; unit = refl; put = Puts.none out _; small = omega arith })

-- ---- the input's end, by phase

pub end_first : {out after : List ℕ} {r : ℕ} (p : Phase) (left : Bool) (u : Value) → p ≡ First → Put out 0 (text (refusal_line BadSetup ∷ [])) after r → r ≡ 0 + 5
    → (Put out 0 (listed p u (last_line left)) after r) × (r ≤ most)
unfolding listed answer_to
end_first p true u e h k = (rw (e, append-nil (text (refusal_line BadSetup ∷ []))) h, omega arith)
end_first p false u e h k = (rw e h, omega arith)

pub end_open : {out image after : List ℕ} {r : Said} (p : Phase) (left : Bool) → p ≡ Running → left ≡ true
    → Says (stated (unit_of image) (refusal_line NoEvent ∷ [])) out 0 image after r → (Put out 0 (listed p (unit_of image) (last_line left)) after r.end) × (r.end ≤ most)
unfolding listed answer_to turn_of
end_open {image = image} p left e f h = (rw (e, f, append-nil (text (stated (unit_of image) (refusal_line NoEvent ∷ [])).lines)) h.put, omega (arith, h.small))

pub end_shut : (out : List ℕ) (p : Phase) (left : Bool) (u : Value) → p ≡ Running → left ≡ false → (Put out 0 (listed p u (last_line left)) out 0) × (0 ≤ most)
unfolding listed
end_shut out p left u e f = (rw (e, f) (Puts.none out 0), omega arith)

pub end_stopped : (out : List ℕ) (p : Phase) (left : Bool) (u : Value) → p ≡ Stopped → (Put out 0 (listed p u (last_line left)) out 0) × (0 ≤ most)
unfolding listed answer_to text
end_stopped out p true u e = (rw e (Puts.none out 0), omega arith)
end_stopped out p false u e = (rw e (Puts.none out 0), omega arith)
