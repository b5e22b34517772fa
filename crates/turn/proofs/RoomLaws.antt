-- The first 1,024 octets of the lent buffer, and the buffer: an event's lines find room in them (room_laws), so what is laid there is laid in the whole.
use Prim.Native.Nat.{ℕ, suc, ◌+◌, ◌≤◌}
use mathlib.Core.Path.{◌≡◌, refl, ap, sym, ◌∙◌}
use mathlib.Core.List.{List, [], ◌∷◌, ◌++◌}
use native.Mathlib.Omega.{arith}
use lib.ListN.{length, take, drop, set, length-set, take-append-drop}
use lib.Seq.{sets, length-take-le}
use Rattle.std.proofs.lemmas.List.{set-append_left}
use Rattle.book.specs.declared.Unit.{Unit as Value}
use Rattle.book.specs.declared.Turn.{Turn}
use Rattle.book.specs.declared.Refusal.{Refusal}
use Rattle.book.specs.Book.{Outcome, refused, done}
use Rattle.book.specs.Step.{octets_of, Turned}
use Rattle.room_laws.proofs.Bounds.{Fits, fits_done}

front : (vs l rest : List ℕ) (i : ℕ) → i + length vs ≤ length l → sets l i vs ++ rest ≡ sets (l ++ rest) i vs
front [] l rest i h = refl
front (v ∷ vs) l rest i h =
    front vs (set l i v) rest (suc i) (omega (arith, length-set l i v)) ∙ ap (λ x. sets x (suc i) vs) (sym (set-append_left l rest i v (omega arith)))

pub fits_short : {o : Outcome} → Fits o → length (octets_of o) ≤ 1024
unfolding octets_of
fits_short {o = refused r} f = omega arith
fits_short {o = done st os} f = (fits_done f st os refl).0

pub refused_short : {o : Outcome} {r : Refusal} → o ≡ refused r → length (octets_of o) ≤ 1024
unfolding octets_of
refused_short e = rw e (omega arith)

pub in_front : {u : Value} (out : List ℕ) {o : Outcome} {r : Turn} {lines after : List ℕ} → 1024 ≤ length out → lines ≡ take 1024 out → length (octets_of o) ≤ 1024
    → Turned u o lines r after → Turned u o out r (after ++ drop 1024 out)
in_front out {o} h e k t = record {
  result = t.result;
  buffer =
      ap (λ l. l ++ drop 1024 out) (t.buffer ∙ ap (λ l. sets l 0 (octets_of o)) e)
      ∙ front (octets_of o) (take 1024 out) (drop 1024 out) 0 (omega (arith, length-take-le 1024 out h))
      ∙ ap (λ l. sets l 0 (octets_of o)) (take-append-drop 1024 out);
}
