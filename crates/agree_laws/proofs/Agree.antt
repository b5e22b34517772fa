-- BY VALUE AND IN PLACE AGREE: on the image of any unit, sound or not, the contract over an image leaves the verdict, the buffer and the image of the unit that
-- the contract by value leaves. Closed by: the unit that the image stands for is that unit, or both are unsound.
use Rattle.std.specs.Prelude.{Result}
use Prim.Native.Nat.{ℕ, ◌+◌, ◌/◌, ◌%◌, ◌≤◌, ◌<◌}
use mathlib.Core.Path.{◌≡◌, refl, ap, sym, ◌∙◌}
use mathlib.Core.Bool.{Bool, true, false}
use mathlib.Core.List.{List, ◌++◌}
use native.Mathlib.Omega.{arith}
use native.Mathlib.Nat.{div-add-mod}
use borrow.Author.Tests.{eq-eqb, ltb-false}
use lib.Dec.{ltb}
use lib.ListN.{length, drop, get_or, length-append}
use lib.Seq.{sets, drop-drop, get_or-drop, drop_at}
use Rattle.octets.specs.Choice.{pick}
use Rattle.book.specs.declared.Done.{Done}
use Rattle.book.specs.declared.Refusal.{Refusal}
use Rattle.book.specs.declared.Refusal.TheVariants.{NoRoom, Unsound}
use Rattle.book.specs.Book.{Outcome, refused, done}
use Rattle.book.specs.Sound.{sound_of}
use Rattle.book.specs.Step.{step, turn_of, octets_of, Turned}
use Rattle.book.specs.declared.Unit.{Unit as Value}
use Rattle.book.specs.declared.Turn.{Turn}
use Rattle.image.specs.Image.{unit_of, cut, waiting_octets, rest_octets, image_of}
use Rattle.image.specs.Answer.{outcome_on, image_after, Handled}
use Rattle.image.proofs.ImageLaws.{waiting_long, numbers_long}
use Rattle.image.proofs.RoundTrip.{fitting_back}
use Rattle.image_laws.proofs.GoesOn.{letters_bound, count_bound, octets_bound}

-- ---- an outcome of two units that are the same, or both unsound

-- a number that was cut below the most that there is room for wasn't cut
cut_small : (most n : ℕ) → cut most n < most → n ≤ most
unfolding cut
cut_small most n = go (ltb most n) refl
  where
    go : (b : Bool) → b ≡ ltb most n → pick b most n < most → n ≤ most
    go true e h = absurd (omega arith)
    go false e h = ltb-false most n (sym e)

pub data Alike (w u : Value) : Type 0 where
  same : w ≡ u → Alike w u
  unsound : sound_of w ≡ false → sound_of u ≡ false → Alike w u

module _ (room : ℕ) (w u : Value) (ev : List ℕ) where
  alike_step : Alike w u → step room w ev ≡ step room u ev
  unfolding step
  alike_step (same e) = ap (λ x. step room x ev) e
  alike_step (unsound a b) = rw (a, b)

  alike_verdict : Alike w u → (turn_of w (step room u ev)).verdict ≡ (turn_of u (step room u ev)).verdict
  unfolding step turn_of
  alike_verdict (same e) = ap (λ x. (turn_of x (step room u ev)).verdict) e
  alike_verdict (unsound a b) = rw b (go (ltb room 1024))
    where
      go : (t : Bool) → (turn_of w (pick t (refused NoRoom) (refused Unsound))).verdict ≡ (turn_of u (pick t (refused NoRoom) (refused Unsound))).verdict
      go true = refl
      go false = refl

  alike_image : Alike w u
      → image_after (image_of u) (turn_of w (step room u ev)).unit (turn_of w (step room u ev)).verdict ≡ image_of (turn_of u (step room u ev)).unit
  unfolding step turn_of image_after
  alike_image (same e) =
      ap (λ x. image_after (image_of u) (turn_of x (step room u ev)).unit (turn_of x (step room u ev)).verdict) e ∙ go (step room u ev)
    where
      go : (o : Outcome) → image_after (image_of u) (turn_of u o).unit (turn_of u o).verdict ≡ image_of (turn_of u o).unit
      go (refused n) = refl
      go (done st os) = refl
  alike_image (unsound a b) = rw b (go (ltb room 1024))
    where
      go : (t : Bool) → image_after (image_of u) (turn_of w (pick t (refused NoRoom) (refused Unsound))).unit (turn_of w (pick t (refused NoRoom) (refused Unsound))).verdict
          ≡ image_of (turn_of u (pick t (refused NoRoom) (refused Unsound))).unit
      go true = refl
      go false = refl

-- ---- the image of a unit

module _ (u : Value) (wide : length u.name ≡ 32) (eight : length u.waiting ≡ 8) (long : length u.kept ≡ 554) where
  abbrev b : List ℕ
  b = waiting_octets u.waiting

  abbrev d : List ℕ
  d = rest_octets u

  abbrev im : List ℕ
  im = u.name ++ (b ++ (u.kept ++ d))

  image_long : length (image_of u) ≡ 618
  unfolding image_of
  image_long =
      omega (arith, length-append u.name (b ++ (u.kept ++ d)), length-append b (u.kept ++ d), length-append u.kept d, waiting_long u.waiting, numbers_long u)

  rest_is : drop 602 im ≡ d
  rest_is =
      let x : drop 32 im ≡ b ++ (u.kept ++ d) = drop_at u.name (b ++ (u.kept ++ d)) 32 wide in
      let y : drop 48 im ≡ u.kept ++ d = sym (drop-drop 16 32 im) ∙ ap (drop 16) x ∙ drop_at b (u.kept ++ d) 16 (waiting_long u.waiting) in
      sym (drop-drop 554 48 im) ∙ ap (drop 554) y ∙ drop_at u.kept d 554 long

  number : (i : ℕ) → get_or im (602 + i) 0 ≡ get_or d i 0
  number i = sym (get_or-drop 602 im i 0) ∙ ap (λ l. get_or l i 0) rest_is

  abbrev w : Value
  w = unit_of (image_of u)

  letters_cut : w.letters ≡ cut 255 u.letters
  unfolding unit_of image_of rest_octets
  letters_cut = number 12

  count_cut : w.count ≡ cut 255 u.count
  unfolding unit_of image_of rest_octets
  count_cut = number 13

  octets_cut : w.octets ≡ cut 65535 u.octets
  unfolding unit_of image_of rest_octets
  octets_cut =
      let k = cut 65535 u.octets in
      let h : get_or im 616 0 ≡ k / 256 = number 14 in
      let l : get_or im 617 0 ≡ k % 256 = number 15 in
      rw (h, l) (div-add-mod k 256)

  -- WHATEVER UNIT: its image stands for it, or for a unit that is unsound where it is unsound itself
  pub alike : Alike w u
  alike = go (sound_of u) refl (sound_of w) refl
    where
      go : (x : Bool) → x ≡ sound_of u → (y : Bool) → y ≡ sound_of w → Alike w u
      go true p y q =
          let l = letters_bound u (sym p) in
          let n = count_bound u (sym p) in
          let k = octets_bound u (sym p) in
          same (fitting_back u wide eight long (omega arith) (omega arith) (omega arith))
      go false p true q =
          let l = letters_bound w (sym q) in
          let n = count_bound w (sym q) in
          let k = octets_bound w (sym q) in
          same
          (fitting_back u wide eight long (cut_small 255 u.letters (omega (arith, letters_cut))) (cut_small 255 u.count (omega (arith, count_cut)))
          (cut_small 65535 u.octets (omega (arith, octets_cut))))
      go false p false q = unsound (sym q) (sym p)

  outcome_is : (room : ℕ) (ev : List ℕ) → outcome_on room (image_of u) ev ≡ step room u ev
  unfolding outcome_on step
  outcome_is room ev = rw (eq-eqb (length (image_of u)) 618 image_long) (go (ltb room 1024) _ ∙ alike_step room w u ev alike)
    where
      go : (t : Bool) (x : Outcome) → pick t (refused NoRoom) (pick t (refused NoRoom) x) ≡ pick t (refused NoRoom) x
      go true x = refl
      go false x = refl

  -- the same soundness, before and after
  pub same_soundness : sound_of w ≡ sound_of u
  same_soundness = go alike
    where
      go : Alike w u → sound_of w ≡ sound_of u
      go (same e) = ap sound_of e
      go (unsound a b) = a ∙ sym b

  -- ---- BOTH AGREE, for every event and buffer

  pub agree : (ev out : List ℕ) {t : Turn} {v : Result Done Refusal} {after out₁ out₂ : List ℕ} → Turned u (step (length out) u ev) out t out₁
      → Handled (image_of u) ev out v after out₂ → (v ≡ t.verdict) × ((after ≡ image_of t.unit) × (out₂ ≡ out₁))
  agree ev out {t} {v} {after} {out₁} {out₂} g h =
      let o = outcome_is (length out) ev in
      let a : v ≡ (turn_of w (step (length out) u ev)).verdict = rw o at h.verdict in
      let i : after ≡ image_after (image_of u) (turn_of w (step (length out) u ev)).unit (turn_of w (step (length out) u ev)).verdict = rw o at h.image in
      let z : out₂ ≡ out₁ = h.buffer ∙ ap (λ x. sets out 0 (octets_of x)) o ∙ sym g.buffer in (
        a ∙ alike_verdict (length out) w u ev alike ∙ ap (λ x. x.verdict) (sym g.result),
        (i ∙ alike_image (length out) w u ev alike ∙ ap (λ x. image_of x.unit) (sym g.result), z),
      )
