-- Laws of the by-value engine over an image: each way out of an event, and the number of its answer.
use Rattle.std.specs.Prelude.{Result, Ok, Err, is_ok}
use Prim.Native.Nat.{ℕ, ◌<◌, ◌≤◌}
use mathlib.Core.Path.{◌≡◌, refl, sym}
use mathlib.Core.Bool.{true, false}
use mathlib.Core.List.{List}
use borrow.Author.Tests.{lt-ltb, le-ltb, eq-eqb, ne_eqb}
use lib.ListN.{length}
use Rattle.book.specs.Step.{step, octets_of, turn_of, Turned}
use Rattle.book.specs.declared.Unit.{Unit as Value}
use Rattle.book.specs.declared.Turn.{Turn}
use Rattle.book.specs.declared.Done.{Done}
use Rattle.book.specs.declared.Refusal.{Refusal}
use Rattle.book.specs.declared.Refusal.TheVariants.{NoRoom, Unsound}
use Rattle.turn_laws.proofs.Moved.{not_taken}
use Rattle.image.specs.Image.{unit_of, image_of}
use Rattle.image.specs.Answer.{outcome_on, image_after, Handled}
use Rattle.by_value.specs.Numbered.{refusal_in, Numbered}

-- ---- the image

pub settled : (v : Result Done Refusal) (image : List ℕ) (u : Value) {after : List ℕ} → is_ok v ≡ true → after ≡ image_of u → after ≡ image_after image u v
unfolding image_after
settled (Ok d) image u e h = h
settled (Err r) image u e h = not_taken e

pub left_as_was : (v : Result Done Refusal) (image : List ℕ) (u : Value) → is_ok v ≡ false → image ≡ image_after image u v
unfolding image_after
left_as_was (Ok d) image u e = not_taken (sym e)
left_as_was (Err r) image u e = refl

-- ---- an event

module _ (image ev out : List ℕ) where
  -- 6
  pub event_short : length out < 1024 → Handled image ev out (Err NoRoom) image out
  unfolding outcome_on turn_of image_after octets_of
  event_short h = record {
    verdict = rw (lt-ltb (length out) 1024 h);
    image = rw (lt-ltb (length out) 1024 h);
    buffer = rw (lt-ltb (length out) 1024 h);
  }

  -- 9
  pub event_none : 1024 ≤ length out → (length image ≡ 618 → ⊥) → Handled image ev out (Err Unsound) image out
  unfolding outcome_on turn_of image_after octets_of
  event_none h n = record {
    verdict = rw (le-ltb (length out) 1024 h, ne_eqb (length image) 618 n);
    image = rw (le-ltb (length out) 1024 h, ne_eqb (length image) 618 n);
    buffer = rw (le-ltb (length out) 1024 h, ne_eqb (length image) 618 n);
  }

  outcome_is : 1024 ≤ length out → length image ≡ 618 → step (length out) (unit_of image) ev ≡ outcome_on (length out) image ev
  unfolding outcome_on
  outcome_is h n = rw (le-ltb (length out) 1024 h, eq-eqb (length image) 618 n)

  -- the unit's own answer
  pub event_answers : 1024 ≤ length out → length image ≡ 618 → {u : Value} {t : Turn} {after out' : List ℕ} → u ≡ unit_of image
      → Turned u (step (length out) u ev) out t out' → after ≡ image_after image t.unit t.verdict → Handled image ev out t.verdict after out'
  event_answers h n {u} {t} {after} {out'} e d i =
      let g : Turned (unit_of image) (outcome_on (length out) image ev) out t out' = rw (e, outcome_is h n) at d in
      record {
        verdict = rw g.result;
        image = rw g.result at i;
        buffer = g.buffer;
      }

  -- ---- the number of an answer

  pub numbered : {v : Result Done Refusal} {r : ℕ} {after out' : List ℕ} → Handled image ev out v after out' → r ≡ refusal_in v → Numbered image ev out r after out'
  numbered h e = record { number = rw h.verdict at e; image = h.image; buffer = h.buffer }
