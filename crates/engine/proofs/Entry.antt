-- What a turn of the unit says of the image and the buffer. Closed by `image_back`.
use Rattle.std.specs.Prelude.{Result, Err}
use Prim.Native.Nat.{ℕ, ◌<◌, ◌≤◌}
use mathlib.Core.Path.{◌≡◌, ap, sym, ◌∙◌}
use mathlib.Core.List.{List}
use borrow.Author.Tests.{lt-ltb, le-ltb, eq-eqb, ne_eqb}
use lib.ListN.{length, get_or}
use Rattle.book.specs.declared.Turn.{Turn}
use Rattle.book.specs.declared.Done.{Done}
use Rattle.book.specs.declared.Refusal.{Refusal}
use Rattle.book.specs.declared.Refusal.TheVariants.{NoRoom, Unsound}
use Rattle.book.specs.Book.{Outcome, refused, done}
use Rattle.book.specs.Step.{step, turn_of, octets_of, set_up}
use Rattle.image.specs.Image.{unit_of, image_of}
use Rattle.image.specs.Answer.{outcome_on, image_after, Handled, SetsUp}
use Rattle.image.proofs.RoundTrip.{image_back}
use Rattle.turn.specs.Acts.{Acted, SetTo}

module _ (image ev out : List ℕ) where
  pub short_buffer : length out < 1024 → Handled image ev out (Err NoRoom) image out
  unfolding outcome_on turn_of image_after octets_of
  short_buffer h = record { verdict = rw (lt-ltb (length out) 1024 h); image = rw (lt-ltb (length out) 1024 h); buffer = rw (lt-ltb (length out) 1024 h) }

  pub no_image : 1024 ≤ length out → (length image ≡ 618 → ⊥) → Handled image ev out (Err Unsound) image out
  unfolding outcome_on turn_of image_after octets_of
  no_image h n = record {
    verdict = rw (le-ltb (length out) 1024 h, ne_eqb (length image) 618 n);
    image = rw (le-ltb (length out) 1024 h, ne_eqb (length image) 618 n);
    buffer = rw (le-ltb (length out) 1024 h, ne_eqb (length image) 618 n);
  }

  outcome_is : 1024 ≤ length out → length image ≡ 618 → outcome_on (length out) image ev ≡ step (length out) (unit_of image) ev
  unfolding outcome_on
  outcome_is h e = rw (le-ltb (length out) 1024 h, eq-eqb (length image) 618 e)

  module _ (h : 1024 ≤ length out) (e : length image ≡ 618) (small : (i : ℕ) → get_or image i 0 < 256) {after : List ℕ} (long : length after ≡ 618) (small' : (i : ℕ) → get_or after i 0 < 256) where
    -- the image after a turn
    settled : (o : Outcome) {r : Result Done Refusal} → record { unit = unit_of after; verdict = r } ≡ turn_of (unit_of image) o
        → (r ≡ (turn_of (unit_of image) o).verdict) × (after ≡ image_after image (turn_of (unit_of image) o).unit (turn_of (unit_of image) o).verdict)
    unfolding turn_of image_after
    settled (refused n) q = (
      ap (λ (t : Turn). t.verdict) q,
      sym (image_back after long small') ∙ ap (λ (t : Turn). image_of t.unit) q ∙ image_back image e small,
    )
    settled (done st os) q = (
      ap (λ (t : Turn). t.verdict) q,
      sym (image_back after long small') ∙ ap (λ (t : Turn). image_of t.unit) q,
    )

    pub handled : {lent : List ℕ} → lent ≡ image → {r : Result Done Refusal} {out' : List ℕ} → Acted (unit_of lent) (step (length out) (unit_of lent) ev) out r (unit_of after) out'
        → Handled image ev out r after out'
    handled same lent_turn =
        let t : Acted (unit_of image) (step (length out) (unit_of image) ev) out _ (unit_of after) _ = rw same at lent_turn in
        let a = settled (step (length out) (unit_of image) ev) t.result in
        record { verdict = rw (outcome_is h e) a.0; image = rw (outcome_is h e) a.1; buffer = rw (outcome_is h e) t.buffer }

-- ---- setup

module _ (start end inactivity : ℕ) (name image : List ℕ) where
  pub none_set : (length image ≡ 618 → ⊥) → SetsUp start end inactivity name image (Err Unsound) image
  none_set n = record { verdict = rw (ne_eqb (length image) 618 n); image = rw (ne_eqb (length image) 618 n) }

  pub was_set : length image ≡ 618 → {after : List ℕ} {r : Result Done Refusal} → length after ≡ 618 → ((i : ℕ) → get_or after i 0 < 256)
      → SetTo (unit_of after) r (set_up start end inactivity name) → SetsUp start end inactivity name image r after
  was_set e {after} long small t = record {
    verdict = rw (eq-eqb (length image) 618 e) (ap (λ (y : Turn). y.verdict) t);
    image = rw (eq-eqb (length image) 618 e) (sym (image_back after long small) ∙ ap (λ (y : Turn). image_of y.unit) t);
  }
