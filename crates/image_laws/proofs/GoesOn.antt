-- A unit that is held as an image goes on as the unit itself: what setup writes stands for the new unit, and after each event the image stands for the
-- unit after it, sound again. So a program that starts by setup, and hands back what it was given, never meets refusal 9. Closed by the round trip of
-- an image (image), and by soundness, which every rule keeps (sound_laws).
use Rattle.std.specs.Prelude.{Result, Ok, Err}
use Prim.Native.Nat.{ℕ, zero, suc, ◌+◌, ◌-◌, ◌≤◌, ◌<◌}
use mathlib.Core.Path.{◌≡◌, refl, ap, sym, ◌∙◌}
use mathlib.Core.Bool.{Bool, true, false}
use mathlib.Core.List.{List, [], ◌∷◌}
use native.Mathlib.Omega.{arith}
use borrow.Author.Tests.{eq-eqb, leb-true, eqb-true}
use lib.Dec.{eqb, ltb, leb}
use lib.ListN.{length, take, drop, get_or, replicate, length-append, length-drop, length-replicate}
use lib.Seq.{sets, length-take-le, get_or-drop}
use Rattle.octets.specs.Choice.{pick, both}
use Rattle.frame.specs.Reading.{octet}
use Rattle.book.specs.declared.Done.{Done}
use Rattle.book.specs.declared.Refusal.{Refusal}
use Rattle.book.specs.declared.Refusal.TheVariants.{NoRoom, BadSetup, Unsound}
use Rattle.book.specs.Book.{State, idle, single, multi, ending, assoc, Setup, Out, Outcome, refused, done, ids_of}
use Rattle.book.specs.View.{reading_in, msg_octets}
use Rattle.book.specs.Picture.{padded, pictured, picture, setup_of, no_terms}
use Rattle.book.specs.Sound.{zeros, differ, within_limits, setup_sound, ids_sound, kept_none, kept_reads, kept_good, kept_sound, state_sound, sound_of}
use Rattle.book.specs.Step.{step, turn_of, octets_of, blank, set_up}
use Rattle.book.specs.declared.Terms.{Terms}
use Rattle.book.specs.declared.Unit.{Unit as Value}
use Rattle.book.specs.declared.Turn.{Turn}
use Rattle.sound_laws.proofs.Within.{both_left, both_right}
use Rattle.sound_laws.proofs.Kept as Kept
use Rattle.image.specs.Image.{unit_of, image_of, waiting_in}
use Rattle.image.specs.Answer.{outcome_on, image_after, Handled, SetsUp}
use Rattle.image.proofs.RoundTrip.{fitting_back}

-- ---- the bounds of a sound unit

module _ (u : Value) (s : sound_of u ≡ true) where
  abbrev r₁ : Bool
  r₁ = both (kept_sound u) (state_sound u)

  abbrev r₂ : Bool
  r₂ = both (ids_sound u.waiting u.count) r₁

  abbrev n₁ : Bool
  n₁ = both (ltb 0 u.letters) (leb u.letters 32)

  abbrev n₂ : Bool
  n₂ = both (ltb 0 u.inactivity) n₁

  abbrev n₃ : Bool
  n₃ = both (ltb 0 u.end) n₂

  pub letters_bound : u.letters ≤ 32
  unfolding sound_of setup_sound within_limits
  letters_bound =
      let a = both_left (setup_sound u) r₂ s in
      let b = both_left (both (ltb 0 u.start) n₃) (zeros (drop u.letters u.name)) a in
      let c = both_right (ltb 0 u.end) n₂ (both_right (ltb 0 u.start) n₃ b) in
      leb-true u.letters 32 (both_right (ltb 0 u.letters) (leb u.letters 32) (both_right (ltb 0 u.inactivity) n₁ c))

  pub count_bound : u.count ≤ 8
  unfolding sound_of ids_sound
  count_bound =
      leb-true u.count 8
      (both_left (leb u.count 8) (both (differ (take u.count u.waiting)) (zeros (drop u.count u.waiting)))
      (both_left (ids_sound u.waiting u.count) r₁ (both_right (setup_sound u) r₂ s)))

  kept_is : kept_sound u ≡ true
  unfolding sound_of
  kept_is = both_left (kept_sound u) (state_sound u) (both_right (ids_sound u.waiting u.count) r₁ (both_right (setup_sound u) r₂ s))

  pub octets_bound : u.octets ≤ 554
  unfolding kept_sound kept_good kept_none
  octets_bound = go (eqb u.state 2) kept_is
    where
      go : (b : Bool) → pick b (kept_good u) (kept_none u) ≡ true → u.octets ≤ 554
      go true e =
          leb-true u.octets 554
          (both_left (leb u.octets 554) (both (zeros (drop u.octets u.kept)) (kept_reads u (reading_in (take u.octets u.kept)))) e)
      go false e = let z = eqb-true u.octets 0 (both_left (eqb u.octets 0) (zeros u.kept) e) in omega arith

-- ---- the picture of a state, written and read back

padded_long : (n : ℕ) (s : List ℕ) → length s ≤ n → length (padded n s) ≡ n
unfolding padded
padded_long n s h = omega (arith, length-append s (replicate (n - length s) 0), length-replicate {A = ℕ} (n - length s) 0)

pictured_back : (s : Setup) (k : ℕ) (a : Terms) (w f : List ℕ) (t : ℕ) → sound_of (pictured s k a w f t) ≡ true
    → unit_of (image_of (pictured s k a w f t)) ≡ pictured s k a w f t
pictured_back s k a w f t e =
    let u = pictured s k a w f t in
    let l = letters_bound u e in
    let c = count_bound u e in
    let o = octets_bound u e in
    fitting_back u (padded_long 32 s.name l) (padded_long 8 w c) (padded_long 554 f o) (omega arith) (omega arith) (omega arith)

pub picture_back : (s : Setup) (st : State) → sound_of (picture s st) ≡ true → unit_of (image_of (picture s st)) ≡ picture s st
picture_back s idle e = pictured_back s 0 no_terms [] [] 0 e
picture_back s (single a w t) e = pictured_back s 1 a w [] t e
picture_back s (multi a k t) e = pictured_back s 2 a (ids_of k) (msg_octets k) t e
picture_back s (ending a w t) e = pictured_back s 3 a w [] t e
picture_back s (assoc a w t) e = pictured_back s 4 a w [] t e

-- ---- setup

-- every number of a refused unit is 0, and has room
blank_back : unit_of (image_of blank) ≡ blank
blank_back = fitting_back blank refl refl refl (omega arith) (omega arith) (omega arith)

-- what setup writes stands for the unit that it gives, refused or not
pub setup_back : (a b c : ℕ) (name : List ℕ) → unit_of (image_of (set_up a b c name).unit) ≡ (set_up a b c name).unit
unfolding set_up
setup_back a b c name = go (within_limits a b c (length name)) refl
  where
    s : Setup
    s = record { name = name; start_limit = a; end_limit = b; inactivity_limit = c }

    fresh : Bool → Value
    fresh w = (pick {A = Turn} w (record { unit = picture s idle; verdict = Ok (record { lines = 0; octets = 0 }) }) (record { unit = blank; verdict = Err BadSetup })).unit

    go : (w : Bool) → within_limits a b c (length name) ≡ w → unit_of (image_of (fresh w)) ≡ fresh w
    go true e = picture_back s idle (ap (λ w. sound_of (fresh w)) (sym e) ∙ Kept.new a b c name e)
    go false e = blank_back

module _ (a b c : ℕ) (name image : List ℕ) {r : Result Done Refusal} {after : List ℕ} (e : length image ≡ 618) (h : SetsUp a b c name image r after) where
  pub set_verdict : r ≡ (set_up a b c name).verdict
  set_verdict = rw (eq-eqb (length image) 618 e) at h.verdict

  pub set_unit : unit_of after ≡ (set_up a b c name).unit
  set_unit = let i : after ≡ image_of (set_up a b c name).unit = rw (eq-eqb (length image) 618 e) at h.image in ap unit_of i ∙ setup_back a b c name

  pub starts : within_limits a b c (length name) ≡ true → (unit_of after ≡ (set_up a b c name).unit) × (sound_of (unit_of after) ≡ true)
  starts w = (set_unit, ap sound_of set_unit ∙ Kept.new a b c name w)

-- ---- an event

take_small : (n : ℕ) (s : List ℕ) → ((j : ℕ) → get_or s j 0 < 256) → (j : ℕ) → get_or (take n s) j 0 < 256
take_small zero s h j = omega arith
take_small (suc n) [] h j = omega arith
take_small (suc n) (x ∷ s) h zero = h 0
take_small (suc n) (x ∷ s) h (suc j) = take_small n s (λ i. h (suc i)) j

-- what the types of an image's octets say of its unit
module _ (image : List ℕ) (e : length image ≡ 618) (small : (i : ℕ) → octet image i < 256) where
  pub wide : length (unit_of image).name ≡ 32
  unfolding unit_of
  wide = length-take-le 32 image (omega arith)

  pub eight : length (unit_of image).waiting ≡ 8
  unfolding unit_of waiting_in
  eight = refl

  pub long : length (unit_of image).kept ≡ 554
  unfolding unit_of
  long = length-take-le 554 (drop 48 image) (omega (arith, length-drop 48 image))

  pub kept_small : (i : ℕ) → get_or (unit_of image).kept i 0 < 256
  unfolding unit_of
  kept_small i = take_small 554 (drop 48 image) (λ j. rw (get_or-drop 48 image j 0) (small (48 + j))) i

  module _ (ev : List ℕ) (room : ℕ) where
    abbrev u : Value
    u = unit_of image

    -- over an image of 618 octets the outcome is the unit's own
    pub outcome_is : outcome_on room image ev ≡ step room u ev
    unfolding outcome_on step
    outcome_is = rw (eq-eqb (length image) 618 e) (go (ltb room 1024) _)
      where
        go : (b : Bool) (x : Outcome) → pick b (refused NoRoom) (pick b (refused NoRoom) x) ≡ pick b (refused NoRoom) x
        go true x = refl
        go false x = refl

    -- a unit that isn't sound is refused
    unsound : sound_of u ≡ false → (st : State) (os : List Out) → done st os ≡ step room u ev → ⊥
    unfolding step
    unsound s st os q = go (ltb room 1024) (rw s at q)
      where
        go : (b : Bool) → done st os ≡ pick b (refused NoRoom) (refused Unsound) → ⊥
        go true p = let z : ◌≡◌ {A = ℕ} 0 1 = cc in absurd (omega arith)
        go false p = let z : ◌≡◌ {A = ℕ} 0 1 = cc in absurd (omega arith)

    module _ (smallEvent : (i : ℕ) → octet ev i < 256) where
      after_is : (b : Bool) → sound_of u ≡ b → (o : Outcome) → o ≡ step room u ev
          → unit_of (image_after image (turn_of u o).unit (turn_of u o).verdict) ≡ (turn_of u o).unit
      unfolding image_after turn_of
      after_is b s (refused n) q = refl
      after_is true s (done st os) q = picture_back (setup_of u) st (Kept.kept room u ev st os s wide eight long kept_small smallEvent (sym q))
      after_is false s (done st os) q = absurd (unsound s st os q)

-- after an event the image stands for the unit after it: for every image, sound or not
module _ (image ev out : List ℕ) {r : Result Done Refusal} {after out' : List ℕ} (e : length image ≡ 618) (small : (i : ℕ) → octet image i < 256)
    (smallEvent : (i : ℕ) → octet ev i < 256) (h : Handled image ev out r after out') where
  pub handled_verdict : r ≡ (turn_of (unit_of image) (step (length out) (unit_of image) ev)).verdict
  handled_verdict = rw (outcome_is image e small ev (length out)) at h.verdict

  pub handled_unit : unit_of after ≡ (turn_of (unit_of image) (step (length out) (unit_of image) ev)).unit
  handled_unit =
      let o = step (length out) (unit_of image) ev in
      let i : after ≡ image_after image (turn_of (unit_of image) o).unit (turn_of (unit_of image) o).verdict = rw (outcome_is image e small ev (length out)) at h.image in
      ap unit_of i ∙ after_is image e small ev (length out) smallEvent (sound_of (unit_of image)) refl o refl

  pub handled_buffer : out' ≡ sets out 0 (octets_of (step (length out) (unit_of image) ev))
  handled_buffer = rw (outcome_is image e small ev (length out)) at h.buffer

  pub goes_on : sound_of (unit_of image) ≡ true
      → (unit_of after ≡ (turn_of (unit_of image) (step (length out) (unit_of image) ev)).unit) × (sound_of (unit_of after) ≡ true)
  goes_on s = (
    handled_unit,
    ap sound_of handled_unit
        ∙ Kept.still_sound (length out) (unit_of image) ev s (wide image e small) (eight image e small) (long image e small) (kept_small image e small) smallEvent,
  )
