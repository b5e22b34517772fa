-- THE EXPLANATION IN PARTS IS THE WHOLE: however the input is cut into reads, whatever room is lent and however many lines there are, what a run of
-- the program writes is `explanation` of its input. Closed by induction on the run; each step by what the output still to come is (`whole`).
use Rattle.std.specs.Prelude.{None, Some}
use Prim.Native.Nat.{ℕ, zero, suc, ◌+◌, ◌-◌, ◌<◌, ◌≤◌}
use mathlib.Core.Path.{◌≡◌, refl, ap, sym, subst, ◌∙◌}
use mathlib.Core.Bool.{Bool, true, false}
use mathlib.Core.List.{List, [], ◌∷◌, ◌++◌, append-nil, append_assoc}
use native.Mathlib.Numerals.{add-one}
use native.Mathlib.Omega.{arith}
use borrow.Author.Tests.{le-ltb, lt-ltb, lt-leb, ltb-true}
use lib.Dec.{T, ltb, eqb}
use lib.ListN.{length, take, drop, length-append, length-drop}
use lib.Seq.{drop-drop, drop-length}
use Rattle.octets.specs.Choice.{pick, both, either}
use Rattle.text.specs.Reading.{leading, to_feed, event_in}
use Rattle.text.specs.Hearing as Hearing
use Rattle.text.specs.Hearing.{Standing, Taken, Feeding, resting, then}
use Rattle.text.proofs.HearingLaws as Laws
use Rattle.text.proofs.HearingLaws.{fed as ended, over, left}
use Rattle.words.specs.Lines.{no_digits, begins, frame_word, explained}
use Rattle.words.specs.Feeding.{fresh, standing, longest, answer, line_text, explanation_from, explanation, line_taken, most, feeding, finishing}
use Rattle.words.specs.Runs.{Run, read, fed, finished}

-- ---- what is still to come

-- what follows a line that is passed over
abbrev pub passed : (indented : Bool) → List ℕ → List ℕ
passed m [] = line_text m no_digits
passed m (c ∷ s) = pick (eqb c 10) (line_text m no_digits ++ explanation_from m [] s) (passed m s)

abbrev pub coming : (indented passing : Bool) → List ℕ → List ℕ
coming m false i = explanation_from m [] i
coming m true i = passed m i

-- the output of a reader whose input is still to come
abbrev pub whole : Standing Bool → List ℕ → List ℕ
whole s i = coming s.state s.passing i

-- the three ways of a line
abbrev How : Standing Bool → List ℕ → Taken Bool → Type 0
How = Laws.How longest answer

how : (s : Standing Bool) (i : List ℕ) → How s i (line_taken s i)
how = Laws.how longest answer

-- ---- a line's end

module _ (m : Bool) where
  -- up to its line feed it is a line
  split : (line i more : List ℕ) → to_feed i < length i
      → explanation_from m line (i ++ more) ≡ line_text m (explained (line ++ take (to_feed i) i)) ++ explanation_from m [] (drop (to_feed i + 1) i ++ more)
  unfolding explanation_from to_feed
  split line [] more h = absurd (omega arith)
  split line (c ∷ i) more h = go (split (line ++ (c ∷ [])) i more) (eqb c 10) h
    where
      go : (to_feed i < length i → explanation_from m (line ++ (c ∷ [])) (i ++ more)
          ≡ line_text m (explained (line ++ (c ∷ []) ++ take (to_feed i) i)) ++ explanation_from m [] (drop (to_feed i + 1) i ++ more))
          → (x : Bool) → pick x 0 (suc (to_feed i)) < suc (length i)
          → pick x (line_text m (explained line) ++ explanation_from m [] (i ++ more)) (explanation_from m (line ++ (c ∷ [])) (i ++ more))
          ≡ line_text m (explained (line ++ take (pick x 0 (suc (to_feed i))) (c ∷ i))) ++ explanation_from m [] (drop (pick x 0 (suc (to_feed i)) + 1) (c ∷ i) ++ more)
      go f true k = rw append-nil
      go f false k = f (omega arith) ∙ rw (append_assoc line (c ∷ []) (take (to_feed i) i), add-one (suc (to_feed i)), add-one (to_feed i))

  over_split : (i more : List ℕ) → to_feed i < length i → passed m (i ++ more) ≡ line_text m no_digits ++ explanation_from m [] (drop (to_feed i + 1) i ++ more)
  unfolding to_feed
  over_split [] more h = absurd (omega arith)
  over_split (c ∷ i) more h = go (over_split i more) (eqb c 10) h
    where
      go : (to_feed i < length i → passed m (i ++ more) ≡ line_text m no_digits ++ explanation_from m [] (drop (to_feed i + 1) i ++ more))
          → (x : Bool) → pick x 0 (suc (to_feed i)) < suc (length i)
          → pick x (line_text m no_digits ++ explanation_from m [] (i ++ more)) (passed m (i ++ more))
          ≡ line_text m no_digits ++ explanation_from m [] (drop (pick x 0 (suc (to_feed i)) + 1) (c ∷ i) ++ more)
      go f true k = refl
      go f false k = f (omega arith) ∙ rw (add-one (suc (to_feed i)), add-one (to_feed i))

  -- without a line feed it goes on
  joined : (line i more : List ℕ) → length i ≤ to_feed i → explanation_from m line (i ++ more) ≡ explanation_from m (line ++ i) more
  unfolding explanation_from to_feed
  joined line [] more h = rw append-nil
  joined line (c ∷ i) more h = go (joined (line ++ (c ∷ [])) i more) (eqb c 10) h
    where
      go : (length i ≤ to_feed i → explanation_from m (line ++ (c ∷ [])) (i ++ more) ≡ explanation_from m (line ++ (c ∷ []) ++ i) more)
          → (x : Bool) → suc (length i) ≤ pick x 0 (suc (to_feed i))
          → pick x (line_text m (explained line) ++ explanation_from m [] (i ++ more)) (explanation_from m (line ++ (c ∷ [])) (i ++ more))
          ≡ explanation_from m (line ++ (c ∷ i)) more
      go f true k = absurd (omega arith)
      go f false k = f (omega arith) ∙ ap (λ l. explanation_from m l more) (append_assoc line (c ∷ []) i)

  over_joined : (i more : List ℕ) → length i ≤ to_feed i → passed m (i ++ more) ≡ passed m more
  unfolding to_feed
  over_joined [] more h = refl
  over_joined (c ∷ i) more h = go (over_joined i more) (eqb c 10) h
    where
      go : (length i ≤ to_feed i → passed m (i ++ more) ≡ passed m more) → (x : Bool) → suc (length i) ≤ pick x 0 (suc (to_feed i))
          → pick x (line_text m no_digits ++ explanation_from m [] (i ++ more)) (passed m (i ++ more)) ≡ passed m more
      go f true k = absurd (omega arith)
      go f false k = f (omega arith)

-- more than 4,096 digits are no event
too_many : (line : List ℕ) → 4096 < length line → event_in line ≡ None
unfolding event_in
too_many line h = rw (lt-leb (length line) 4096 h) (never (ltb 0 (length line)))
  where
    never : (x : Bool) → pick (both x false) (Some (leading line)) None ≡ None
    never true = refl
    never false = refl

-- a line that is too long is none, whatever follows
too_long : (line : List ℕ) → 4102 < length line → explained line ≡ no_digits
unfolding explained
too_long line h =
    rw (too_many (drop 6 line) (omega (arith, length-drop 6 line)), too_many line (omega arith)) (same (begins frame_word line))
  where
    same : (x : Bool) → pick x no_digits no_digits ≡ no_digits
    same true = refl
    same false = refl

long_passed : (m : Bool) (line more : List ℕ) → 4102 < length line → explanation_from m line more ≡ passed m more
unfolding explanation_from
long_passed m [] [] h = absurd (omega arith)
long_passed m (c ∷ line) [] h = refl
long_passed m line (c ∷ more) h = go (long_passed m (line ++ (c ∷ [])) more) (eqb c 10)
  where
    go : (4102 < length (line ++ (c ∷ [])) → explanation_from m (line ++ (c ∷ [])) more ≡ passed m more) → (x : Bool)
        → pick x (line_text m (explained line) ++ explanation_from m [] more) (explanation_from m (line ++ (c ∷ [])) more)
        ≡ pick x (line_text m no_digits ++ explanation_from m [] more) (passed m more)
    go f true = rw (too_long line h)
    go f false = f (omega (arith, length-append line (c ∷ [])))

-- ---- one line

-- what a line prints, and then what is still to come, is what was to come
pub line_whole : (s : Standing Bool) (i more : List ℕ) (t : Taken Bool) → How s i t → whole s (i ++ more) ≡ t.text ++ whole t.reader (drop t.taken i ++ more)
line_whole s i more t (ended h) = go s.passing refl
  where
    answered : Bool → List ℕ
    answered p =
        (answer s.state (pick p None (Some (take (to_feed i) i)))).text
        ++ explanation_from (answer s.state (pick p None (Some (take (to_feed i) i)))).state [] (drop (to_feed i + 1) i ++ more)

    go : (p : Bool) → p ≡ s.passing → coming s.state s.passing (i ++ more) ≡ answered s.passing
    go true e = rw (← e, over_split s.state i more h)
    go false e = rw (← e, split s.state [] i more h)
line_whole s i more t (over h e) = go s.passing refl
  where
    go : (p : Bool) → p ≡ s.passing → coming s.state s.passing (i ++ more) ≡ passed s.state (drop (length i) i ++ more)
    go true q = rw (← q, drop-length i, over_joined s.state i more h)
    go false q =
        let l = ltb-true 4102 (length i) (rw (← q) at e) in
        rw (← q, drop-length i, joined s.state [] i more h, long_passed s.state i more l)
line_whole s i more t (left h e k) = refl

-- ---- all lines for which there is room

feeding_whole : (n room : ℕ) (s : Standing Bool) (i more : List ℕ)
    → whole s (i ++ more) ≡ (feeding n room s i).written ++ whole (feeding n room s i).reader (drop (feeding n room s i).taken i ++ more)
unfolding Hearing.feeding
feeding_whole zero room s i more = refl
feeding_whole (suc n) room s i more = go (ltb room most) (λ r. feeding_whole n r (line_taken s i).reader (drop (line_taken s i).taken i) more)
  where
    t : Taken Bool
    t = line_taken s i

    f : Feeding Bool
    f = feeding n (room - length (line_taken s i).text) (line_taken s i).reader (drop (line_taken s i).taken i)

    go : (x : Bool) → ((r : ℕ) → whole t.reader (drop t.taken i ++ more)
        ≡ (feeding n r t.reader (drop t.taken i)).written
        ++ whole (feeding n r t.reader (drop t.taken i)).reader (drop (feeding n r t.reader (drop t.taken i)).taken (drop t.taken i) ++ more))
        → whole s (i ++ more) ≡ (pick x (resting s) (then t f)).written ++ whole (pick x (resting s) (then t f)).reader (drop (pick x (resting s) (then t f)).taken i ++ more)
    go true again = refl
    go false again =
        line_whole s i more t (how s i) ∙ ap (λ l. t.text ++ l) (again (room - length t.text))
        ∙ sym (append_assoc t.text f.written _)
        ∙ ap (λ l. t.text ++ f.written ++ whole f.reader (l ++ more)) (drop-drop f.taken t.taken i)

-- ---- the end

-- what `finish` prints, where there is room
abbrev last : Standing Bool → (held : List ℕ) → List ℕ
last s held = pick (either s.passing (ltb 0 (length held))) (line_text s.state no_digits) []

-- a line that takes nothing is open, and is the last
left_last : (s : Standing Bool) (held : List ℕ) (t : Taken Bool) → How s held t → t.taken ≡ 0 → whole s held ≡ last s held
unfolding explanation_from
left_last s held t (ended h) e = absurd (omega arith)
left_last s [] t (over h o) e = go s.passing o
  where
    go : (p : Bool) → either p (ltb 4102 0) ≡ true → coming s.state p [] ≡ pick (either p (ltb 0 0)) (line_text s.state no_digits) []
    go true k = refl
    go false k = absurd (subst T (sym k) tt)
left_last s (c ∷ held) t (over h o) e = absurd (omega arith)
left_last s [] t (left h p k) e = rw p
left_last s (c ∷ held) t (left h p k) e =
    let j = joined s.state [] (c ∷ held) [] h in
    rw (p, lt-ltb 0 (suc (length held)) (omega arith)) (ap (explanation_from s.state []) (sym (append-nil (c ∷ held))) ∙ j)

none_last : (s : Standing Bool) (held : List ℕ) (room : ℕ) → most ≤ room → (feeding (length held) room s held).taken ≡ 0 → whole s held ≡ last s held
unfolding Hearing.feeding explanation_from
none_last s [] room h e = go s.passing
  where
    go : (p : Bool) → coming s.state p [] ≡ pick (either p (ltb 0 0)) (line_text s.state no_digits) []
    go true = refl
    go false = refl
none_last s (c ∷ held) room h e =
    let f = rw (le-ltb room most h) at e in
    left_last s (c ∷ held) (line_taken s (c ∷ held)) (how s (c ∷ held)) (omega arith)

finished_whole : (s : Standing Bool) (held : List ℕ) (room end : ℕ) → most ≤ room → (feeding (length held) room s held).taken ≡ 0 → most ≤ end
    → finishing end s held ≡ whole s held
unfolding finishing
finished_whole s held room end h e k = rw (le-ltb end most k) (sym (none_last s held room h e))

-- ---- the theorem

pub run_whole : {s : Standing Bool} {held input output : List ℕ} → Run s held input output → output ≡ whole s (held ++ input)
run_whole (read {s} {held} {input} {output} block r) = run_whole r ∙ ap (whole s) (append_assoc held block input)
run_whole (fed {s} {held} {input} {output} room r) =
    ap (λ l. (feeding (length held) room s held).written ++ l) (run_whole r) ∙ sym (feeding_whole (length held) room s held input)
run_whole (finished {s} {held} room end h e k) = finished_whole s held room end h e k ∙ ap (whole s) (sym (append-nil held))

-- any run of the program from its start writes the explanation of its input
pub runs : (m : Bool) (input output : List ℕ) → Run (standing (fresh m)) [] input output → output ≡ explanation m input
unfolding explanation
runs m input output r = run_whole r

-- ---- and a run there is, for every input: the theorem is not empty

pub record Ran (s : Standing Bool) (held input : List ℕ) : Type 0 where
  pub output : List ℕ
  pub run : Run s held input output

drains : (n : ℕ) (s : Standing Bool) (held : List ℕ) → length held ≤ n → Ran s held []
unfolding Hearing.feeding
drains zero s [] h = record { output = finishing most s []; run = finished most most (omega arith) refl (omega arith) }
drains zero s (c ∷ held) h = absurd (omega arith)
drains (suc n) s held h = go (feeding (length held) most s held).taken refl (drains n)
  where
    go : (k : ℕ) → (feeding (length held) most s held).taken ≡ k → ((t : Standing Bool) (l : List ℕ) → length l ≤ n → Ran t l []) → Ran s held []
    go zero e f = record { output = finishing most s held; run = finished most most (omega arith) e (omega arith) }
    go (suc k) e f =
        let r = f (feeding (length held) most s held).reader (drop (feeding (length held) most s held).taken held)
        (omega (arith, length-drop (feeding (length held) most s held).taken held)) in
        record { output = (feeding (length held) most s held).written ++ r.output; run = fed most r.run }

pub every_input : (m : Bool) (input : List ℕ) → Ran (standing (fresh m)) [] input
every_input m input = begun (drains (length input) (standing (fresh m)) input (omega arith))
  where
    -- all is read at once
    begun : Ran (standing (fresh m)) input [] → Ran (standing (fresh m)) [] input
    begun r = record { output = r.output; run = subst (λ l. Run (standing (fresh m)) [] l r.output) (append-nil input) (read input r.run) }
