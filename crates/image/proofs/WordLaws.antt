-- A tail of zeros by the number that octets are: shifted by n octets it is what the octets from the place n on are, and 0 just where they all are.
use Rattle.std.proofs.Common.{ℕ, zero, suc, ◌+◌, ◌-◌, ◌*◌, ◌/◌, ◌^◌, ◌<◌, ◌≤◌, ◌≡◌, refl, ap, sym, ◌∙◌, Bool, true, false, List, [], ◌∷◌, ◌++◌, length, take, drop, get_or, arith, cond, min, length-drop}
use Rattle.std.specs.Int.{w64, from_le_bytes, sum_through, byte_worth}
use Rattle.std.specs.Simd.{first_chunks}
use Rattle.std.proofs.lemmas.List.{drop_min, take-append-drop}
use Rattle.std.proofs.lemmas.Nat.{pow-add}
use Rattle.std.proofs.Math.Nat.{zero-div, div-one, div-div-eq-div-mul, pow-suc}
use borrow.Author.Tests.{eq-eqb, ne_eqb, ltb-false}
use lib.Dec.{eqb, ltb}
use lib.ListN.{drop_of_length-le}
use lib.Seq.{drop-cons, drop-drop, drop-nil, length-take-le, take_all, get_or-drop}
use Rattle.octets.specs.Choice.{both}
use Rattle.book.specs.Sound.{zeros}
use Rattle.image.specs.Image.{two, waiting_in, unit_of}
use Rattle.image.proofs.ReaderLaws.{waiting_of_lem}

-- ---- a word

-- the number that octets are, the first one lowest
abbrev pub number : List ℕ → ℕ
number [] = 0
number (x ∷ xs) = x + 256 * number xs

worth : (i b : ℕ) → byte_worth (suc i) b ≡ 256 * byte_worth i b
worth zero b = omega arith
worth (suc i) b = let e : 256 ^ suc (suc i) ≡ 256 ^ suc i * 256 = pow-suc 256 (suc i) in rw e (omega arith)

-- what holds of each term holds of the sum
sum-ext : (f g : ℕ → ℕ) → ((i : ℕ) → f i ≡ 256 * g i) → (k : ℕ) → sum_through f k ≡ 256 * sum_through g k
sum-ext f g e zero = e 0
sum-ext f g e (suc k) = rw (sum-ext f g e k, e (suc k)) (omega arith)

sum_from : (f : ℕ → ℕ) (k : ℕ) → sum_through f (suc k) ≡ f 0 + sum_through (λ i. f (suc i)) k
sum_from f zero = refl
sum_from f (suc k) = let h = sum_from f k in omega arith

sum_none : (k : ℕ) → sum_through (λ i. byte_worth i 0) k ≡ 0
sum_none zero = refl
sum_none (suc k) = let h = sum_none k in omega arith

word_is : (k : ℕ) (s : List ℕ) → length s ≤ suc k → sum_through (λ i. byte_worth i (get_or s i 0)) k ≡ number s
word_is zero [] h = refl
word_is zero (x ∷ []) h = omega arith
word_is zero (x ∷ y ∷ s) h = absurd (omega arith)
word_is (suc k) [] h = sum_none (suc k)
word_is (suc k) (x ∷ s) h =
    sum_from (λ i. byte_worth i (get_or (x ∷ s) i 0)) k
    ∙ ap (λ n. x + n) (sum-ext (λ i. byte_worth (suc i) (get_or s i 0)) (λ i. byte_worth i (get_or s i 0)) (λ i. worth i (get_or s i 0)) k ∙ ap (λ n. 256 * n) (word_is k s (omega arith)))

-- the word at a place
word_at : (k i : ℕ) (s : List ℕ) → i < k → get_or (first_chunks 8 k s) i [] ≡ take 8 (drop (8 * i) s)
word_at zero i s h = absurd (omega arith)
word_at (suc k) zero s h = refl
word_at (suc k) (suc i) s h =
    let e : 8 + 8 * i ≡ 8 * suc i = omega arith in
    word_at k i (drop 8 s) (omega arith) ∙ ap (take 8) (drop-drop (8 * i) 8 s ∙ ap (λ m. drop m s) e)

-- ---- the test

-- a power of two for n octets
octets_more : (n : ℕ) → 2 ^ (8 * suc n) ≡ 256 * 2 ^ (8 * n)
octets_more n =
    let e : 8 * suc n ≡ 8 + 8 * n = omega arith in
    ap (λ k. 2 ^ k) e ∙ pow-add 2 8 (8 * n)

-- the last power for places of a word: below 8 and none of 0 to 6, so 7 octets (named by docs/PORT.md)
pub power_7 : (n : ℕ) → n < 8 → (n ≡ 0 → ⊥) → (n ≡ 1 → ⊥) → (n ≡ 2 → ⊥) → (n ≡ 3 → ⊥) → (n ≡ 4 → ⊥) → (n ≡ 5 → ⊥) → (n ≡ 6 → ⊥) → 72057594037927936 ≡ 2 ^ (8 * n)
power_7 n h z0 z1 z2 z3 z4 z5 z6 =
    let e : 7 ≡ n = omega arith in
    ap (λ k. 2 ^ (8 * k)) e

-- the number shifted by n octets is that of the octets from the place n on
shifted : (n : ℕ) (s : List ℕ) → ((j : ℕ) → get_or s j 0 < 256) → number s / 2 ^ (8 * n) ≡ number (drop n s)
shifted zero s h = div-one (number s)
shifted (suc n) [] h = zero-div (2 ^ (8 * suc n))
shifted (suc n) (x ∷ s) h =
    let l : x < 256 = h 0 in
    let q : (x + 256 * number s) / 256 ≡ number s = omega arith in
    ap (λ p. (x + 256 * number s) / p) (octets_more n) ∙ sym (div-div-eq-div-mul (x + 256 * number s) 256 (2 ^ (8 * n)))
    ∙ ap (λ m. m / 2 ^ (8 * n)) q ∙ shifted n s (λ j. h (suc j))

first : (x v : ℕ) → eqb (x + 256 * v) 0 ≡ both (eqb x 0) (eqb v 0)
first zero zero = refl
first zero (suc v) = ne_eqb (zero + 256 * suc v) 0 (λ z. omega arith) ∙ sym (ne_eqb (suc v) 0 (λ z. omega arith))
first (suc x) v = ne_eqb (suc x + 256 * v) 0 (λ z. omega arith) ∙ ap (λ b. both b (eqb v 0)) (sym (ne_eqb (suc x) 0 (λ z. omega arith)))

none_left : (s : List ℕ) → eqb (number s) 0 ≡ zeros s
none_left [] = refl
none_left (x ∷ s) = first x (number s) ∙ ap (both (eqb x 0)) (none_left s)

-- what is left of eight octets' number, shifted by n octets: 0 just where the octets from the place n on are
tail_is : (s : List ℕ) (n : ℕ) {w r : ℕ} → length s ≡ 8 → ((j : ℕ) → get_or s j 0 < 256) → w ≡ from_le_bytes w64 s
    → r ≡ cond (ltb (8 * n) 64) (w / 2 ^ (8 * n)) 0 → eqb r 0 ≡ zeros (drop n s)
tail_is s n {w} {r} e h ew er = go (ltb (8 * n) 64) refl
  where
    go : (b : Bool) → b ≡ ltb (8 * n) 64 → eqb r 0 ≡ zeros (drop n s)
    go true p =
        let q : r ≡ w / 2 ^ (8 * n) = er ∙ rw (← p) in
        ap (λ m. eqb m 0) (q ∙ ap (λ m. m / 2 ^ (8 * n)) (ew ∙ word_is 7 s (omega arith)) ∙ shifted n s h) ∙ none_left (drop n s)
    go false p =
        let q : r ≡ 0 = er ∙ rw (← p) in
        let l = ltb-false (8 * n) 64 (sym p) in
        ap (λ m. eqb m 0) q ∙ ap zeros (sym (drop_of_length-le s {i = n} (omega arith)))

-- ---- words joined

assoc : (a b c : Bool) → both a (both b c) ≡ both (both a b) c
assoc true b c = refl
assoc false b c = refl

zeros_join : (s t : List ℕ) → zeros (s ++ t) ≡ both (zeros s) (zeros t)
zeros_join [] t = refl
zeros_join (x ∷ s) t = ap (both (eqb x 0)) (zeros_join s t) ∙ assoc (eqb x 0) (zeros s) (zeros t)

zeros-drop : (n : ℕ) (s t : List ℕ) → zeros (drop n (s ++ t)) ≡ both (zeros (drop n s)) (zeros (drop (n - length s) t))
zeros-drop n [] t =
    let e : n ≡ n - 0 = omega arith in
    ap (λ k. zeros (drop k t)) e ∙ ap (λ l. both (zeros l) (zeros (drop (n - 0) t))) (sym (drop-nil {A = ℕ} n))
zeros-drop zero (x ∷ s) t =
    let e : 0 ≡ 0 - length (x ∷ s) = omega arith in
    zeros_join (x ∷ s) t ∙ ap (λ k. both (zeros (x ∷ s)) (zeros (drop k t))) e
zeros-drop (suc n) (x ∷ s) t =
    let e : n - length s ≡ suc n - length (x ∷ s) = omega arith in
    zeros-drop n s t ∙ ap (λ k. both (zeros (drop n s)) (zeros (drop k t))) e

-- the octets of a part are octets
pub take_small : (n : ℕ) (s : List ℕ) → ((i : ℕ) → get_or s i 0 < 256) → (i : ℕ) → get_or (take n s) i 0 < 256
take_small zero s h i = omega arith
take_small (suc n) [] h i = omega arith
take_small (suc n) (x ∷ s) h zero = h 0
take_small (suc n) (x ∷ s) h (suc i) = take_small n s (λ j. h (suc j)) i

pub part_small : (n i : ℕ) (s : List ℕ) → ((j : ℕ) → get_or s j 0 < 256) → (j : ℕ) → get_or (take n (drop i s)) j 0 < 256
part_small n i s h = take_small n (drop i s) (λ j. rw (get_or-drop i s j 0) (h (i + j)))

-- ---- along the words: what is left to test says what the whole says

module _ (s : List ℕ) (n i : ℕ) (words : List (List ℕ)) {o : Bool} {w r : ℕ} (small : (j : ℕ) → get_or s j 0 < 256)
    (are : words ≡ first_chunks 8 (length s / 8) s) (h : i < length s / 8) (number : w ≡ from_le_bytes w64 (get_or words i []))
    (past : r ≡ cond (ltb (8 * n) 64) (w / 2 ^ (8 * n)) 0) (inv : zeros (drop n (drop (8 * i) s)) ≡ o) where
  abbrev word : List ℕ
  word = take 8 (drop (8 * i) s)

  abbrev rest : List ℕ
  rest = drop (8 * (i + 1)) s

  wide : length word ≡ 8
  wide = length-take-le 8 (drop (8 * i) s) (omega (arith, length-drop (8 * i) s))

  split : drop (8 * i) s ≡ word ++ rest
  split =
      let e : 8 * i + 8 ≡ 8 * (i + 1) = omega arith in
      sym (take-append-drop 8 (drop (8 * i) s)) ∙ ap (λ l. word ++ l) (drop-drop 8 (8 * i) s ∙ ap (λ m. drop m s) e)

  tested : eqb r 0 ≡ zeros (drop n word)
  tested = tail_is word n wide (part_small 8 (8 * i) s small) (number ∙ ap (from_le_bytes w64) (ap (λ l. get_or l i []) are ∙ word_at (length s / 8) i s h)) past

  step : both (eqb r 0) (zeros (drop (n - 8) rest)) ≡ o
  step =
      ap (λ b. both b (zeros (drop (n - 8) rest))) tested ∙ ap (λ k. both (zeros (drop n word)) (zeros (drop (n - k) rest))) (sym wide)
      ∙ sym (zeros-drop n word rest) ∙ sym (ap (λ l. zeros (drop n l)) split) ∙ inv

  pub tail_stop : (r ≡ 0 → ⊥) → false ≡ o
  tail_stop z = ap (λ b. both b (zeros (drop (n - 8) rest))) (sym (ne_eqb r 0 z)) ∙ step

  pub tail_on : {m : ℕ} → r ≡ 0 → m ≡ n - 8 → zeros (drop m rest) ≡ o
  tail_on {m} z e = ap (λ k. zeros (drop k rest)) e ∙ ap (λ b. both b (zeros (drop (n - 8) rest))) (sym (eq-eqb r 0 z)) ∙ step

-- ---- the waiting list

abbrev pairs : List ℕ → List ℕ
pairs [] = []
pairs (x ∷ []) = []
pairs (x ∷ y ∷ s) = (256 * x + y) ∷ pairs s

both_none : (x y : ℕ) → eqb (256 * x + y) 0 ≡ both (eqb x 0) (eqb y 0)
both_none zero zero = refl
both_none zero (suc y) = ne_eqb (256 * zero + suc y) 0 (λ z. omega arith) ∙ sym (ne_eqb (suc y) 0 (λ z. omega arith))
both_none (suc x) y = ne_eqb (256 * suc x + y) 0 (λ z. omega arith) ∙ ap (λ b. both b (eqb y 0)) (sym (ne_eqb (suc x) 0 (λ z. omega arith)))

all_pairs : (m : ℕ) (s : List ℕ) → length s ≡ 2 * m → zeros (pairs s) ≡ zeros s
all_pairs m [] e = refl
all_pairs m (x ∷ []) e = absurd (omega arith)
all_pairs m (x ∷ y ∷ s) e =
    ap (λ b. both b (zeros (pairs s))) (both_none x y) ∙ ap (both (both (eqb x 0) (eqb y 0))) (all_pairs (m - 1) s (omega arith))
    ∙ sym (assoc (eqb x 0) (eqb y 0) (zeros s))

zeros_pairs : (n m : ℕ) (s : List ℕ) → length s ≡ 2 * m → zeros (drop n (pairs s)) ≡ zeros (drop (2 * n) s)
zeros_pairs zero m s e = all_pairs m s e ∙ ap (λ k. zeros (drop k s)) (let z : 0 ≡ 2 * 0 = omega arith in z)
zeros_pairs (suc n) m [] e = ap zeros (sym (drop-nil {A = ℕ} (2 * suc n)))
zeros_pairs (suc n) m (x ∷ []) e = absurd (omega arith)
zeros_pairs (suc n) m (x ∷ y ∷ s) e =
    let z : suc (suc (2 * n)) ≡ 2 * suc n = omega arith in
    zeros_pairs n (m - 1) s (omega arith) ∙ ap (λ k. zeros (drop k (x ∷ y ∷ s))) z

pair_step : (s : List ℕ) (i m : ℕ) → suc i < length s → pairs (take (suc (suc m)) (drop i s)) ≡ (256 * get_or s i 0 + get_or s (suc i) 0) ∷ pairs (take m (drop (suc (suc i)) s))
pair_step s i m h =
    ap (λ l. pairs (take (suc (suc m)) l)) (drop-cons s i 0 (omega arith) ∙ ap (λ l. get_or s i 0 ∷ l) (drop-cons s (suc i) 0 h))

waiting_pairs : (s : List ℕ) → length s ≡ 618 → waiting_in s ≡ pairs (take 16 (drop 32 s))
unfolding waiting_in
waiting_pairs s e =
    sym (pair_step s 32 14 (omega arith) ∙ ap (λ l. two s 32 ∷ l) (pair_step s 34 12 (omega arith) ∙ ap (λ l. two s 34 ∷ l)
    (pair_step s 36 10 (omega arith) ∙ ap (λ l. two s 36 ∷ l) (pair_step s 38 8 (omega arith) ∙ ap (λ l. two s 38 ∷ l)
    (pair_step s 40 6 (omega arith) ∙ ap (λ l. two s 40 ∷ l) (pair_step s 42 4 (omega arith) ∙ ap (λ l. two s 42 ∷ l)
    (pair_step s 44 2 (omega arith) ∙ ap (λ l. two s 44 ∷ l) (pair_step s 46 0 (omega arith)))))))))

-- the octets of the waiting list
pub list_is : (s : List ℕ) {n : ℕ} {r : Bool} → length s ≡ 618 → n ≡ (unit_of s).count → r ≡ zeros (drop (2 * n) (take 16 (drop 32 s)))
    → r ≡ zeros (drop (unit_of s).count (unit_of s).waiting)
list_is s {n} e count q =
    q ∙ sym (ap (λ l. zeros (drop n l)) (waiting_of_lem s ∙ waiting_pairs s e)
    ∙ zeros_pairs n 8 (take 16 (drop 32 s)) (length-take-le 16 (drop 32 s) (omega (arith, length-drop 32 s))))
    ∙ ap (λ k. zeros (drop k (unit_of s).waiting)) count

-- ---- the kept frame

-- what is free of m places: the part after n of them, or none
pub free_places : (s : List ℕ) (n m : ℕ) {k : ℕ} {r : Bool} → length s ≡ m → k ≡ min n m → r ≡ zeros (take (m - k) (drop k s)) → r ≡ zeros (drop n s)
free_places s n m {k} e h q =
    let whole : take (m - k) (drop k s) ≡ drop k s = take_all (m - k) (drop k s) (omega (arith, length-drop k s)) in
    let past : k ≡ min n (length s) = h ∙ ap (min n) (sym e) in
    q ∙ ap zeros (whole ∙ ap (λ i. drop i s) past ∙ drop_min n s)

pub kept_small : (s : List ℕ) → ((i : ℕ) → get_or s i 0 < 256) → (i : ℕ) → get_or (unit_of s).kept i 0 < 256
unfolding unit_of
kept_small s h = part_small 554 48 s h
