-- Laws of a page: what is written one after the other. Closed by the laws of `Put`.
use Prim.Native.Nat.{ℕ, ◌+◌, ◌≤◌}
use mathlib.Core.Path.{◌≡◌, refl, ap, sym, ◌∙◌}
use mathlib.Core.List.{List, [], ◌++◌, append_assoc}
use native.Mathlib.Omega.{arith}
use lib.ListN.{length, take, drop}
use lib.Seq.{length-sets, sets, sets-eq, drop-drop}
use borrow.Rule.Slice.PartMut.{put_mid}
use Rattle.octets.specs.Put.{Put}
use Rattle.octets.proofs.Puts as Puts
use Rattle.phrases.specs.Page.{Writes}
use Rattle.phrases.specs.declared.spelling.Page.{Page}

pub then : {p q r : Page} {x y : List ℕ} {m n : ℕ} → Writes p x m q → Writes q y n r → Writes p (x ++ y) (m + n) r
then v w = record { same = w.same ∙ v.same; wide = w.wide ∙ v.wide; put = Puts.then v.put w.put; small = omega (arith, v.small, w.small) }

pub nothing : (p : Page) → Writes p [] 0 p
nothing p = record { same = refl; wide = refl; put = Puts.none p.out.now p.at; small = omega arith }

pub within : {p q : Page} {x : List ℕ} {m k : ℕ} → Writes p x m q → m ≤ k → Writes p x k q
within w h = record { same = w.same; wide = w.wide; put = w.put; small = omega (arith, w.small) }

pub writes_as : {p q : Page} {x y : List ℕ} {k : ℕ} → x ≡ y → Writes p x k q → Writes p y k q
writes_as e w = record { same = w.same; wide = w.wide; put = Puts.put_as e w.put; small = w.small }

-- by other means than the page's own
pub written : {p : Page} {x b : List ℕ} {j : ℕ} → Put p.out.now p.at x b j → Writes p x (length x) (record { out = record p.out { now = b }; at = j })
written {p} {x} w = record { same = refl; wide = ap length w.held ∙ length-sets p.out.now p.at x; put = w; small = omega (arith, w.place) }

-- a word that was copied into a loan of its own length
pub copied : (l s ys : List ℕ) (at k : ℕ) → at + length s ≤ length l → k ≡ length s → ys ≡ s → put_mid at k l ys ≡ sets l at s
copied l s ys at k h e f =
    let d : drop k (drop at l) ≡ drop (at + length s) l = rw e (drop-drop (length s) at l) in
    rw (f, d) (sym (sets-eq s l at h ∙ append_assoc (take at l) s (drop (at + length s) l)))
