-- The line at the front of an input, by its three answers, and the octets that were put: laws of `line_in`, for those who read lines. Closed by the tests
-- of a line.
use Rattle.std.specs.Prelude.{None, Option, Some, IfSome}
use Rattle.std.specs.Option.{option_map}
use Prim.Native.Nat.{ℕ, ◌+◌, ◌*◌, ◌<◌, ◌≤◌}
use mathlib.Core.Path.{◌≡◌, refl, ap, sym, ◌∙◌}
use mathlib.Core.Bool.{Bool, true, false}
use mathlib.Core.List.{List}
use native.Mathlib.Omega.{arith}
use borrow.Author.Tests.{ltb-true, ltb-false, leb-true, eqb-true}
use lib.Dec.{ltb, leb, eqb}
use lib.ListN.{length, take}
use lib.Seq.{sets, sets-eq, take-append_seam}
use Rattle.octets.specs.Choice.{pick, both}
use Rattle.text.specs.Reading.{leading, to_feed, event_in, said, line_in}
use Rattle.text.specs.declared.Line.{Line}
use Rattle.text.proofs.FeedLaws.{leading_cut}

-- the octets of a line that is an event
pub event_is : (line o : List ℕ) → event_in line ≡ Some o → (o ≡ leading line) × (length o ≤ 2048)
unfolding event_in
event_is line o = go (ltb 0 (length line)) (leb (length line) 4096) refl (eqb (2 * length (leading line)) (length line)) refl
  where
    go : (x y : Bool) → y ≡ leb (length line) 4096 → (z : Bool) → z ≡ eqb (2 * length (leading line)) (length line)
        → pick (both x (both y z)) (Some (leading line)) None ≡ Some o → (o ≡ leading line) × (length o ≤ 2048)
    go true true p true q e =
        let k : leading line ≡ o = cc in
        let l = ap length k in
        (sym k, omega (arith, leb-true (length line) 4096 (sym p), eqb-true (2 * length (leading line)) (length line) (sym q)))
    go false y p z q e = let w : ◌≡◌ {A = ℕ} 0 1 = cc in absurd (omega arith)
    go true false p z q e = let w : ◌≡◌ {A = ℕ} 0 1 = cc in absurd (omega arith)
    go true true p false q e = let w : ◌≡◌ {A = ℕ} 0 1 = cc in absurd (omega arith)

-- the line's own answer
pub data Found (i : List ℕ) : Option Line → Type 0 where
  octets : (o : List ℕ) → to_feed i < length i → event_in (take (to_feed i) i) ≡ Some o → Found i (Some (record { octets = Some (length o); next = to_feed i + 1 }))
  refused : to_feed i < length i → event_in (take (to_feed i) i) ≡ None → Found i (Some (record { octets = None; next = to_feed i + 1 }))
  unended : length i ≤ to_feed i → Found i None

pub found : (i : List ℕ) → Found i (line_in i)
unfolding line_in
found i = go (ltb (to_feed i) (length i)) refl (event_in (take (to_feed i) i)) refl
  where
    go : (x : Bool) → x ≡ ltb (to_feed i) (length i) → (e : Option (List ℕ)) → e ≡ event_in (take (to_feed i) i) → Found i (pick x (Some (said e (to_feed i + 1))) None)
    go true p (Some o) q = octets o (ltb-true (to_feed i) (length i) (sym p)) (sym q)
    go true p None q = refused (ltb-true (to_feed i) (length i) (sym p)) (sym q)
    go false p e q = unended (ltb-false (to_feed i) (length i) (sym p))

-- the octets that were put are the line's
pub found_octets : (i : List ℕ) (l : Option Line) → Found i l → (r : Line) (n : ℕ) → l ≡ Some r → r.octets ≡ Some n → (e₀ e : List ℕ) → length e₀ ≡ 2048
    → e ≡ sets e₀ 0 (leading i) → take n e ≡ leading i
found_octets i l (octets o h f) r n q p e₀ e w g =
    let k = event_is (take (to_feed i) i) o f in
    let m : o ≡ leading i = k.0 ∙ leading_cut i in
    let z : record { octets = Some (length o); next = to_feed i + 1 } ≡ r = cc in
    let y : Some (length o) ≡ Some n = ap (λ (x : Line). x.octets) z ∙ p in
    let c : n ≡ length o = cc in
    rw (g, c, sets-eq (leading i) e₀ 0 (omega (arith, k.1, ap length m)), m) (take-append_seam (leading i) _)
found_octets i l (refused h f) r n q p e₀ e w g =
    let z : record { octets = None; next = to_feed i + 1 } ≡ r = cc in
    let y : None ≡ Some n = ap (λ (x : Line). x.octets) z ∙ p in
    let x : ◌≡◌ {A = ℕ} 0 1 = cc in absurd (omega arith)
found_octets i l (unended h) r n q p e₀ e w g = let z : ◌≡◌ {A = ℕ} 0 1 = cc in absurd (omega arith)

-- ---- the line as the code reads it: where it ends, and the octets that it stands for

pub record Read (i : List ℕ) (r : Line) (e : List ℕ) : Type 0 where
  pub ended : to_feed i < length i
  pub next : r.next ≡ to_feed i + 1
  pub event : option_map (λ k. take k e) r.octets ≡ event_in (take (to_feed i) i)
  pub few : IfSome r.octets (λ k. k ≤ 2048)

reads_line : (i : List ℕ) (l : Option Line) → Found i l → (r : Line) → l ≡ Some r → (e : List ℕ) → ((n : ℕ) → r.octets ≡ Some n → take n e ≡ leading i) → Read i r e
reads_line i l (octets o h f) r q e g =
    let z : record { octets = Some (length o); next = to_feed i + 1 } ≡ r = cc in
    let k = event_is (take (to_feed i) i) o f in
    let t : take (length o) e ≡ o = g (length o) (ap (λ (x : Line). x.octets) (sym z)) ∙ sym (k.0 ∙ leading_cut i) in
    record { ended = h; next = ap (λ (x : Line). x.next) (sym z); event = rw (← z, f) (ap Some t); few = rw (← z) k.1 }
reads_line i l (refused h f) r q e g =
    let z : record { octets = None; next = to_feed i + 1 } ≡ r = cc in
    record { ended = h; next = ap (λ (x : Line). x.next) (sym z); event = rw (← z) (sym f); few = rw (← z) tt }
reads_line i l (unended h) r q e g = let z : ◌≡◌ {A = ℕ} 0 1 = cc in absurd (omega arith)

pub line_read : (i : List ℕ) (l : Option Line) (r : Line) (e₀ e : List ℕ) → l ≡ line_in i → l ≡ Some r → e ≡ sets e₀ 0 (leading i) → length e₀ ≡ 2048 → Read i r e
line_read i l r e₀ e p q g w =
    let k = sym p ∙ q in
    reads_line i (line_in i) (found i) r k e (λ n f. found_octets i (line_in i) (found i) r n k f e₀ e w g)

open_of : (i : List ℕ) (l : Option Line) → Found i l → l ≡ None → length i ≤ to_feed i
open_of i l (octets o h f) q = let z : ◌≡◌ {A = ℕ} 0 1 = cc in absurd (omega arith)
open_of i l (refused h f) q = let z : ◌≡◌ {A = ℕ} 0 1 = cc in absurd (omega arith)
open_of i l (unended h) q = h

pub line_unended : (i : List ℕ) (l : Option Line) → l ≡ line_in i → l ≡ None → length i ≤ to_feed i
line_unended i l p q = open_of i (line_in i) (found i) (sym p ∙ q)
