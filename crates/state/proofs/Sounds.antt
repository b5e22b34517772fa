-- A sound unit is the picture of a state of the rule book. Closed by taking the test of soundness apart.
use Prim.Native.Nat.{ℕ, zero, suc, ◌-◌, ◌<◌, ◌≤◌}
use mathlib.Core.Path.{◌≡◌, refl, ap, sym, ◌∙◌}
use mathlib.Core.Bool.{Bool, true, false}
use mathlib.Core.List.{List, [], ◌∷◌, ◌++◌}
use native.Mathlib.Omega.{arith}
use native.Mathlib.Nat.{sub-zero}
use borrow.Author.Tests.{ne_eqb, eq-eqb, ltb-true, leb-true, eqb-true}
use lib.Dec.{eqb, ltb, leb}
use lib.ListN.{length, take, drop, get_or, replicate, take-append-drop, length-drop}
use lib.Seq.{length-take-le, take-suc}
use Rattle.octets.specs.Choice.{pick, both}
use Rattle.frame.specs.Writing.{Allowed}
use Rattle.book.specs.Sound.{sound_of, within_limits, setup_sound, ids_sound, state_sound, idle_sound, busy_sound, kept_none, kept_sound, kept_good, kept_reads, zeros, differ, limit_of}
use Rattle.book.specs.Book.{plain, sure, msg, note, Reading, good, bad, ids_of, idle, multi}
use Rattle.book.specs.Picture.{padded, pictured, picture, setup_of, state_of, state_at, ids_in, no_terms, kept_of}
use Rattle.book.specs.View.{reading_in, msg_octets, msg_message, frame_octets, frame_message}
use Rattle.book.specs.declared.Terms.{Terms}
use Rattle.book.specs.declared.Unit.{Unit as Value}
use Rattle.book.proofs.Views.{read_whole, read_allowed}
use Rattle.book.specs.Ready.{Ready}

left : (a b : Bool) → both a b ≡ true → a ≡ true
left true b e = refl
left false b e = e

right : (a b : Bool) → both a b ≡ true → b ≡ true
right true b e = e
right false true e = refl
right false false e = e

-- ---- zeros

zeros_are : (s : List ℕ) → zeros s ≡ true → s ≡ replicate (length s) 0
zeros_are [] e = refl
zeros_are (x ∷ s) e =
    let a : x ≡ 0 = eqb-true x 0 (left (eqb x 0) (zeros s) e) in
    let b : s ≡ replicate (length s) 0 = zeros_are s (right (eqb x 0) (zeros s) e) in
    ap (λ y. y ∷ s) a ∙ ap (λ l. 0 ∷ l) b

-- an array whose places from n on are 0
padded_is : (m n : ℕ) (s : List ℕ) → length s ≡ m → n ≤ m → zeros (drop n s) ≡ true → s ≡ padded m (take n s)
unfolding padded
padded_is m n s e h z =
    let a = zeros_are (drop n s) z in
    let b : length (drop n s) ≡ m - length (take n s) = omega (arith, length-drop n s, length-take-le n s (omega arith)) in
    sym (take-append-drop n s) ∙ ap (λ l. take n s ++ l) (a ∙ ap (λ k. replicate {A = ℕ} k 0) b)

none_kept : (m : ℕ) (s : List ℕ) → length s ≡ m → zeros s ≡ true → s ≡ padded m []
unfolding padded
none_kept m s e z = zeros_are s z ∙ ap (λ k. replicate {A = ℕ} k 0) (e ∙ sym (sub-zero m))

-- ---- the parts of the test

terms_of : (t : Terms) {a b c : ℕ} → t.class ≡ a → t.priority ≡ b → t.rer ≡ c → t ≡ record { class = a; priority = b; rer = c }
terms_of t e₁ e₂ e₃ = rw (← e₁, ← e₂, ← e₃)

module _ (u : Value) (s : sound_of u ≡ true) where
  abbrev r₁ : Bool
  r₁ = both (kept_sound u) (state_sound u)

  abbrev r₂ : Bool
  r₂ = both (ids_sound u.waiting u.count) r₁

  setup : setup_sound u ≡ true
  unfolding sound_of
  setup = left (setup_sound u) r₂ s

  ids : ids_sound u.waiting u.count ≡ true
  unfolding sound_of
  ids = left (ids_sound u.waiting u.count) r₁ (right (setup_sound u) r₂ s)

  kept_sound_lem : kept_sound u ≡ true
  unfolding sound_of
  kept_sound_lem = left (kept_sound u) (state_sound u) (right (ids_sound u.waiting u.count) r₁ (right (setup_sound u) r₂ s))

  state : state_sound u ≡ true
  unfolding sound_of
  state = right (kept_sound u) (state_sound u) (right (ids_sound u.waiting u.count) r₁ (right (setup_sound u) r₂ s))

  abbrev n₁ : Bool
  n₁ = both (ltb 0 u.letters) (leb u.letters 32)

  abbrev n₂ : Bool
  n₂ = both (ltb 0 u.inactivity) n₁

  abbrev n₃ : Bool
  n₃ = both (ltb 0 u.end) n₂

  abbrev z₁ : Bool
  z₁ = zeros (drop u.letters u.name)

  letters : u.letters ≤ 32
  unfolding setup_sound within_limits
  letters =
      leb-true u.letters 32
      (right (ltb 0 u.letters) (leb u.letters 32)
      (right (ltb 0 u.inactivity) n₁ (right (ltb 0 u.end) n₂ (right (ltb 0 u.start) n₃ (left (both (ltb 0 u.start) n₃) z₁ setup)))))

  name_zero : z₁ ≡ true
  unfolding setup_sound
  name_zero = right (within_limits u.start u.end u.inactivity u.letters) z₁ setup

  abbrev i₁ : Bool
  i₁ = zeros (drop u.count u.waiting)

  abbrev i₂ : Bool
  i₂ = both (differ (take u.count u.waiting)) i₁

  few : u.count ≤ 8
  unfolding ids_sound
  few = leb-true u.count 8 (left (leb u.count 8) i₂ ids)

  rest_zero : i₁ ≡ true
  unfolding ids_sound
  rest_zero = right (differ (take u.count u.waiting)) i₁ (right (leb u.count 8) i₂ ids)

  kept_none_lem : (u.state ≡ 2 → ⊥) → kept_none u ≡ true
  unfolding kept_sound
  kept_none_lem n = rw (ne_eqb u.state 2 n) at kept_sound_lem

  kept_good_lem : u.state ≡ 2 → kept_good u ≡ true
  unfolding kept_sound
  kept_good_lem n = rw (eq-eqb u.state 2 n) at kept_sound_lem

  abbrev by : Bool
  by = pick (eqb u.state 0) (idle_sound u) (busy_sound u)

  known : u.state < 5
  unfolding state_sound
  known = ltb-true u.state 5 (left (ltb u.state 5) by state)

  by_state : by ≡ true
  unfolding state_sound
  by_state = right (ltb u.state 5) by state

  busy : (u.state ≡ 0 → ⊥) → busy_sound u ≡ true
  busy n = rw (ne_eqb u.state 0 n) at by_state

  resting : u.state ≡ 0 → idle_sound u ≡ true
  resting e = rw (eq-eqb u.state 0 e) at by_state

  early : (u.state ≡ 0 → ⊥) → u.elapsed < limit_of u
  unfolding busy_sound
  early n = ltb-true u.elapsed (limit_of u) (left (ltb u.elapsed (limit_of u)) _ (busy n))

  abbrev t₁ : Bool
  t₁ = both (eqb u.terms.priority 0) (eqb u.terms.rer 0)

  abbrev t₂ : Bool
  t₂ = both (eqb u.terms.class 0) t₁

  abbrev t₃ : Bool
  t₃ = both (eqb u.count 0) t₂

  module _ (e : u.state ≡ 0) where
    no_ticks : u.elapsed ≡ 0
    unfolding idle_sound
    no_ticks = eqb-true u.elapsed 0 (left (eqb u.elapsed 0) t₃ (resting e))

    idle_rest : t₃ ≡ true
    unfolding idle_sound
    idle_rest = right (eqb u.elapsed 0) t₃ (resting e)

    none_waits : u.count ≡ 0
    none_waits = eqb-true u.count 0 (left (eqb u.count 0) t₂ idle_rest)

    no_terms_lem : u.terms ≡ no_terms
    no_terms_lem =
        let a = right (eqb u.count 0) t₂ idle_rest in
        let b = right (eqb u.terms.class 0) t₁ a in
        let e₁ : u.terms.class ≡ 0 = eqb-true u.terms.class 0 (left (eqb u.terms.class 0) t₁ a) in
        let e₂ : u.terms.priority ≡ 0 = eqb-true u.terms.priority 0 (left (eqb u.terms.priority 0) (eqb u.terms.rer 0) b) in
        let e₃ : u.terms.rer ≡ 0 = eqb-true u.terms.rer 0 (right (eqb u.terms.priority 0) (eqb u.terms.rer 0) b) in
        terms_of u.terms e₁ e₂ e₃

-- ---- the kept frame, of a reading that may be kept: a message without extension fields, whose identifiers are those that wait

kept_msg : (u : Value) → length u.waiting ≡ 8 → (r : Reading) → kept_reads u r ≡ true → reading_in (take u.octets u.kept) ≡ r
    → (reading_in (take u.octets u.kept) ≡ good (msg (kept_of u)) 0) × (ids_of (kept_of u) ≡ ids_in u)
unfolding ids_of
kept_msg u l (bad n) e q = let z : ◌≡◌ {A = ℕ} 0 1 = cc in absurd (omega arith)
kept_msg u l (good f (suc n)) e q = let z : ◌≡◌ {A = ℕ} 0 1 = cc in absurd (omega arith)
kept_msg u l (good (note k r i o b) zero) e q = let z : ◌≡◌ {A = ℕ} 0 1 = cc in absurd (omega arith)
kept_msg u l (good (msg (plain i r o b)) zero) e q =
    let c : u.count ≡ 0 = eqb-true u.count 0 (right b.maintained (eqb u.count 0) e) in
    (rw q, rw (q, c))
kept_msg u l (good (msg (sure i r o b)) zero) e q =
    let w = right b.maintained (both (eqb u.count 1) (eqb (get_or u.waiting 0 0) i)) e in
    let c : u.count ≡ 1 = eqb-true u.count 1 (left (eqb u.count 1) (eqb (get_or u.waiting 0 0) i) w) in
    let d : get_or u.waiting 0 0 ≡ i = eqb-true (get_or u.waiting 0 0) i (right (eqb u.count 1) (eqb (get_or u.waiting 0 0) i) w) in
    let t : take 1 u.waiting ≡ get_or u.waiting 0 0 ∷ [] = take-suc u.waiting 0 0 (omega arith) in
    (rw q, rw (q, c) (sym (t ∙ ap (λ k. k ∷ []) d)))

small_part : (n : ℕ) (s : List ℕ) → ((i : ℕ) → get_or s i 0 < 256) → (i : ℕ) → get_or (take n s) i 0 < 256
small_part zero s h i = omega arith
small_part (suc n) [] h i = omega arith
small_part (suc n) (x ∷ s) h zero = h 0
small_part (suc n) (x ∷ s) h (suc i) = small_part n s (λ j. h (suc j)) i

-- a unit from its fields
built : (u : Value) {n w f : List ℕ} {a : Terms} {k t l m o : ℕ} → u.name ≡ n → u.waiting ≡ w → u.kept ≡ f → u.state ≡ k → u.elapsed ≡ t → u.terms ≡ a
    → u.letters ≡ l → u.count ≡ m → u.octets ≡ o
    → u ≡ record { name = n; waiting = w; kept = f; state = k; start = u.start; end = u.end; inactivity = u.inactivity; elapsed = t; terms = a; letters = l; count = m; octets = o }
built u e₁ e₂ e₃ e₄ e₅ e₆ e₇ e₈ e₉ = rw (← e₁, ← e₂, ← e₃, ← e₄, ← e₅, ← e₆, ← e₇, ← e₈, ← e₉)

module _ (u : Value) (s : sound_of u ≡ true) (wide : length u.name ≡ 32) (eight : length u.waiting ≡ 8) (long : length u.kept ≡ 554)
    (small : (i : ℕ) → get_or u.kept i 0 < 256) where
  name_is : u.name ≡ padded 32 (take u.letters u.name)
  name_is = padded_is 32 u.letters u.name wide (letters u s) (name_zero u s)

  waiting_is : u.waiting ≡ padded 8 (ids_in u)
  waiting_is = padded_is 8 u.count u.waiting eight (few u s) (rest_zero u s)

  letters_are : u.letters ≡ length (take u.letters u.name)
  letters_are = sym (length-take-le u.letters u.name (omega (arith, letters u s)))

  count_is : u.count ≡ length (ids_in u)
  count_is = sym (length-take-le u.count u.waiting (omega (arith, few u s)))

  -- no frame is kept
  module _ (n : u.state ≡ 2 → ⊥) where
    kept_is : u.kept ≡ padded 554 []
    unfolding kept_none
    kept_is = none_kept 554 u.kept long (right (eqb u.octets 0) (zeros u.kept) (kept_none_lem u s n))

    octets_0 : u.octets ≡ 0
    unfolding kept_none
    octets_0 = eqb-true u.octets 0 (left (eqb u.octets 0) (zeros u.kept) (kept_none_lem u s n))

  -- the kept frame
  abbrev frame : List ℕ
  frame = take u.octets u.kept

  abbrev g₁ : Bool
  g₁ = both (zeros (drop u.octets u.kept)) (kept_reads u (reading_in frame))

  module _ (e : u.state ≡ 2) where
    frame_octets_lem : u.octets ≤ 554
    unfolding kept_good
    frame_octets_lem = leb-true u.octets 554 (left (leb u.octets 554) g₁ (kept_good_lem u s e))

    frame_rest : g₁ ≡ true
    unfolding kept_good
    frame_rest = right (leb u.octets 554) g₁ (kept_good_lem u s e)

    frame_kept : u.kept ≡ padded 554 frame
    frame_kept = padded_is 554 u.octets u.kept long frame_octets_lem (left (zeros (drop u.octets u.kept)) (kept_reads u (reading_in frame)) frame_rest)

    frame_is : (reading_in frame ≡ good (msg (kept_of u)) 0) × (ids_of (kept_of u) ≡ ids_in u)
    frame_is = kept_msg u eight (reading_in frame) (right (zeros (drop u.octets u.kept)) (kept_reads u (reading_in frame)) frame_rest) refl

    -- the kept frame is one that may be written, and its octets are those that are kept
    pub kept_allowed : Allowed (msg_message (kept_of u))
    unfolding frame_message
    kept_allowed = read_allowed frame (msg (kept_of u)) 0 (small_part u.octets u.kept small) frame_is.0

    kept_octets : msg_octets (kept_of u) ≡ frame
    unfolding msg_octets frame_octets frame_message
    kept_octets = read_whole frame (msg (kept_of u)) (small_part u.octets u.kept small) frame_is.0

    multi_picture : u ≡ picture (setup_of u) (multi u.terms (kept_of u) u.elapsed)
    multi_picture =
        let l : u.octets ≡ length frame = sym (length-take-le u.octets u.kept (omega (arith, frame_octets_lem))) in
        built u name_is (waiting_is ∙ ap (padded 8) (sym frame_is.1)) (frame_kept ∙ ap (padded 554) (sym kept_octets)) e refl refl letters_are
        (count_is ∙ ap length (sym frame_is.1)) (l ∙ ap length (sym kept_octets))

  busy_picture : (k : ℕ) → (k ≡ 2 → ⊥) → u.state ≡ k → u ≡ pictured (setup_of u) k u.terms (ids_in u) [] u.elapsed
  busy_picture k n e =
      let m : u.state ≡ 2 → ⊥ = λ z. n (sym e ∙ z) in
      built u name_is waiting_is (kept_is m) e refl refl letters_are count_is (octets_0 m)

  idle_picture : u.state ≡ 0 → u ≡ picture (setup_of u) idle
  idle_picture e =
      let m : u.state ≡ 2 → ⊥ = λ z. omega arith in
      built u name_is (waiting_is ∙ ap (λ k. padded 8 (take k u.waiting)) (none_waits u s e)) (kept_is m) e (no_ticks u s e) (no_terms_lem u s e) letters_are
      (none_waits u s e) (octets_0 m)

  by_which : (k : ℕ) → k < 5 → u.state ≡ k → u ≡ picture (setup_of u) (state_at k u)
  by_which zero h e = idle_picture e
  by_which (suc zero) h e = busy_picture 1 (λ z. omega arith) e
  by_which (suc (suc zero)) h e = multi_picture e
  by_which (suc (suc (suc zero))) h e = busy_picture 3 (λ z. omega arith) e
  by_which (suc (suc (suc (suc zero)))) h e = busy_picture 4 (λ z. omega arith) e
  by_which (suc (suc (suc (suc (suc k))))) h e = absurd (omega arith)

  whole : u ≡ picture (setup_of u) (state_of u)
  unfolding state_of
  whole = by_which u.state (known u s) refl

  held : (k : ℕ) → u.state ≡ k → u.octets ≤ 554
  held zero e = omega (arith, octets_0 (λ z. omega arith))
  held (suc zero) e = omega (arith, octets_0 (λ z. omega arith))
  held (suc (suc zero)) e = frame_octets_lem e
  held (suc (suc (suc k))) e = omega (arith, octets_0 (λ z. omega arith))

  pub ready : Ready u
  ready = record {
    whole = whole;
    named = letters u s;
    few = few u s;
    known = known u s;
    early = early u s;
    wide = wide;
    eight = eight;
    held = held u.state refl;
  }
