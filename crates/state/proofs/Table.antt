-- A rule of a table of rows, proved at all of its entries by one test that antt computes.
use mathlib.Core.Path.{◌≡◌, refl, ◌∙◌, subst, sym}
use mathlib.Core.Bool.{Bool, true, false}
use mathlib.Core.List.{List, [], ◌∷◌}
use Prim.Native.Nat.{ℕ, zero, suc, ◌+◌, ◌<◌}
use native.Mathlib.Nat.{add-zero, zero-add, add-suc, suc-add, le_of_suc-le-suc, not-suc-le-zero}
use lib.Dec.{T, eqb, eqb→eq}
use lib.ListN.{length, get_or}
use Rattle.octets.specs.Choice.{both}

both_left : (a b : Bool) → T (both a b) → T a
both_left true b t = tt
both_left false b t = t

both_right : (a b : Bool) → T (both a b) → T b
both_right true b t = t
both_right false b t = absurd t

abbrev pub alike : Bool → Bool → Bool
alike true b = b
alike false true = false
alike false false = true

alike_eq : (a b : Bool) → T (alike a b) → a ≡ b
alike_eq true true t = refl
alike_eq true false t = absurd t
alike_eq false true t = absurd t
alike_eq false false t = refl

module _ {A : Type 0} (f : ℕ → A → Bool) (d : A) where
  -- the test f passes at each entry of the list and its place, counted from i
  abbrev pub every : ℕ → List A → Bool
  every i [] = true
  every i (x ∷ xs) = both (f i x) (every (suc i) xs)

  from : (xs : List A) (i : ℕ) → T (every i xs) → (k : ℕ) → k < length xs → T (f (i + k) (get_or xs k d))
  from [] i t k h = absurd (not-suc-le-zero h)
  from (x ∷ xs) i t zero h = subst (λ (m : ℕ). T (f m x)) (sym (add-zero i)) (both_left (f i x) (every (suc i) xs) t)
  from (x ∷ xs) i t (suc k) h =
      subst (λ (m : ℕ). T (f m (get_or xs k d))) (suc-add i k ∙ sym (add-suc i k))
      (from xs (suc i) (both_right (f i x) (every (suc i) xs) t) k (le_of_suc-le-suc h))

  at : (xs : List A) → T (every 0 xs) → (k : ℕ) → k < length xs → T (f k (get_or xs k d))
  at xs t k h = subst (λ (m : ℕ). T (f m (get_or xs k d))) (zero-add k) (from xs 0 t k h)

-- a table of rows of n entries is right where each entry passes the test at its row and its place
module _ (g : ℕ → ℕ → Bool) (n : ℕ) where
  abbrev pub entry : ℕ → ℕ → ℕ → Bool
  entry s k x = alike (eqb x 1) (g s k)

  abbrev pub row : ℕ → List ℕ → Bool
  row s xs = both (eqb (length xs) n) (every (entry s) 0 0 xs)

  pub table : (rows : List (List ℕ)) → T (every row [] 0 rows) → (s k : ℕ) → s < length rows → k < n → eqb (get_or (get_or rows s []) k 0) 1 ≡ g s k
  table rows t s k hs hk =
      let r = at row [] rows t s hs in
      let xs = get_or rows s [] in
      let e : length xs ≡ n = eqb→eq (length xs) n (both_left (eqb (length xs) n) (every (entry s) 0 0 xs) r) in
      alike_eq (eqb (get_or xs k 0) 1) (g s k)
      (at (entry s) 0 xs (both_right (eqb (length xs) n) (every (entry s) 0 0 xs) r) k (subst (λ (m : ℕ). k < m) (sym e) hk))
