-- THE LISTING IN PARTS IS THE WHOLE: however the input is cut into reads, whatever room is lent and however many lines there are, what a run of the
-- program writes is `listing` of its input. Closed by induction on the run; each step by what the output still to come is (`whole`).
use Rattle.std.specs.Prelude.{None, Option, Some}
use Prim.Native.Nat.{ℕ, zero, suc, ◌+◌, ◌-◌, ◌<◌, ◌≤◌}
use mathlib.Core.Path.{◌≡◌, refl, ap, sym, subst, ◌∙◌}
use mathlib.Core.Bool.{Bool, true, false}
use mathlib.Core.List.{List, [], ◌∷◌, ◌++◌, append-nil, append_assoc}
use native.Mathlib.Numerals.{add-one}
use native.Mathlib.Omega.{arith}
use borrow.Author.Tests.{le-ltb, lt-ltb, lt-leb, ltb-true}
use lib.Dec.{T, ltb, eqb}
use lib.ListN.{length, take, drop, length-append, length-drop}
use lib.Seq.{drop-drop, drop-length}
use Rattle.octets.specs.Choice.{pick, both, either}
use Rattle.text.specs.Reading.{leading, to_feed, event_in}
use Rattle.book.specs.Step.{blank}
use Rattle.book.specs.declared.Unit.{Unit as Value}
use Rattle.image.specs.Image.{unit_of}
use Rattle.text.specs.Hearing as Hearing
use Rattle.text.specs.Hearing.{Taken, Feeding, resting, then}
use Rattle.text.proofs.HearingLaws as Lines
use Rattle.text.proofs.HearingLaws.{How, over, left, how}
use Rattle.session.specs.Listing.{text, events_from, answer_to, listed, listing}
use Rattle.session.specs.Feeding.{State, Standing, standing, fresh, unheard, event_of, answer, longest, line_taken, most, feeding, last_events, finishing}
use Rattle.session.specs.Runs.{Run, read, fed, finished, stopped}
use Rattle.session.specs.declared.Phase.TheVariants.{First, Stopped}

-- ---- what is still to come

-- the events of what follows a line that is passed over
abbrev pub passed : List ℕ → List (Option (List ℕ))
passed [] = None ∷ []
passed (c ∷ s) = pick (eqb c 10) (None ∷ events_from [] s) (passed s)

abbrev pub coming : (passing : Bool) → List ℕ → List (Option (List ℕ))
coming false i = events_from [] i
coming true i = passed i

-- the output of a session whose input is still to come
abbrev pub whole : Standing → List ℕ → List ℕ
whole s i = listed s.state.phase s.state.unit (coming s.passing i)

-- ---- a line's end

-- up to its line feed it is a line
split : (line i more : List ℕ) → to_feed i < length i
    → events_from line (i ++ more) ≡ event_in (line ++ take (to_feed i) i) ∷ events_from [] (drop (to_feed i + 1) i ++ more)
unfolding events_from to_feed
split line [] more h = absurd (omega arith)
split line (c ∷ i) more h = go (split (line ++ (c ∷ [])) i more) (eqb c 10) h
  where
    go : (to_feed i < length i → events_from (line ++ (c ∷ [])) (i ++ more)
        ≡ event_in (line ++ (c ∷ []) ++ take (to_feed i) i) ∷ events_from [] (drop (to_feed i + 1) i ++ more))
        → (x : Bool) → pick x 0 (suc (to_feed i)) < suc (length i)
        → pick x (event_in line ∷ events_from [] (i ++ more)) (events_from (line ++ (c ∷ [])) (i ++ more))
        ≡ event_in (line ++ take (pick x 0 (suc (to_feed i))) (c ∷ i)) ∷ events_from [] (drop (pick x 0 (suc (to_feed i)) + 1) (c ∷ i) ++ more)
    go f true k = rw append-nil
    go f false k = f (omega arith) ∙ rw (append_assoc line (c ∷ []) (take (to_feed i) i), add-one (suc (to_feed i)), add-one (to_feed i))

over_split : (i more : List ℕ) → to_feed i < length i → passed (i ++ more) ≡ None ∷ events_from [] (drop (to_feed i + 1) i ++ more)
unfolding to_feed
over_split [] more h = absurd (omega arith)
over_split (c ∷ i) more h = go (over_split i more) (eqb c 10) h
  where
    go : (to_feed i < length i → passed (i ++ more) ≡ None ∷ events_from [] (drop (to_feed i + 1) i ++ more))
        → (x : Bool) → pick x 0 (suc (to_feed i)) < suc (length i)
        → pick x (None ∷ events_from [] (i ++ more)) (passed (i ++ more)) ≡ None ∷ events_from [] (drop (pick x 0 (suc (to_feed i)) + 1) (c ∷ i) ++ more)
    go f true k = refl
    go f false k = f (omega arith) ∙ rw (add-one (suc (to_feed i)), add-one (to_feed i))

-- without a line feed it goes on
joined : (line i more : List ℕ) → length i ≤ to_feed i → events_from line (i ++ more) ≡ events_from (line ++ i) more
unfolding events_from to_feed
joined line [] more h = rw append-nil
joined line (c ∷ i) more h = go (joined (line ++ (c ∷ [])) i more) (eqb c 10) h
  where
    go : (length i ≤ to_feed i → events_from (line ++ (c ∷ [])) (i ++ more) ≡ events_from (line ++ (c ∷ []) ++ i) more)
        → (x : Bool) → suc (length i) ≤ pick x 0 (suc (to_feed i))
        → pick x (event_in line ∷ events_from [] (i ++ more)) (events_from (line ++ (c ∷ [])) (i ++ more)) ≡ events_from (line ++ (c ∷ i)) more
    go f true k = absurd (omega arith)
    go f false k = f (omega arith) ∙ ap (λ l. events_from l more) (append_assoc line (c ∷ []) i)

over_joined : (i more : List ℕ) → length i ≤ to_feed i → passed (i ++ more) ≡ passed more
unfolding to_feed
over_joined [] more h = refl
over_joined (c ∷ i) more h = go (over_joined i more) (eqb c 10) h
  where
    go : (length i ≤ to_feed i → passed (i ++ more) ≡ passed more) → (x : Bool) → suc (length i) ≤ pick x 0 (suc (to_feed i))
        → pick x (None ∷ events_from [] (i ++ more)) (passed (i ++ more)) ≡ passed more
    go f true k = absurd (omega arith)
    go f false k = f (omega arith)

-- a line that is too long is no event, whatever follows
too_long : (line : List ℕ) → 4096 < length line → event_in line ≡ None
unfolding event_in
too_long line h = rw (lt-leb (length line) 4096 h) (never (ltb 0 (length line)))
  where
    never : (x : Bool) → pick (both x false) (Some (leading line)) None ≡ None
    never true = refl
    never false = refl

long_passed : (line more : List ℕ) → 4096 < length line → events_from line more ≡ passed more
unfolding events_from
long_passed [] [] h = absurd (omega arith)
long_passed (c ∷ line) [] h = refl
long_passed line (c ∷ more) h = go (long_passed (line ++ (c ∷ [])) more) (eqb c 10)
  where
    go : (4096 < length (line ++ (c ∷ [])) → events_from (line ++ (c ∷ [])) more ≡ passed more) → (x : Bool)
        → pick x (event_in line ∷ events_from [] more) (events_from (line ++ (c ∷ [])) more) ≡ pick x (None ∷ events_from [] more) (passed more)
    go f true = rw (too_long line h)
    go f false = f (omega (arith, length-append line (c ∷ [])))

-- ---- one line

-- what a line prints, and then what is still to come, is what was to come
pub line_whole : (s : Standing) (i more : List ℕ) (t : Taken State) → How longest answer s i t → whole s (i ++ more) ≡ t.text ++ whole t.reader (drop t.taken i ++ more)
unfolding listed text
line_whole s i more t (Lines.fed h) = go s.passing refl
  where
    answered : Bool → List ℕ
    answered p = listed s.state.phase s.state.unit (event_of (pick p None (Some (take (to_feed i) i))) ∷ events_from [] (drop (to_feed i + 1) i ++ more))

    go : (p : Bool) → p ≡ s.passing → listed s.state.phase s.state.unit (coming s.passing (i ++ more)) ≡ answered s.passing
    go true e = rw (← e, over_split i more h)
    go false e = rw (← e, split [] i more h)
line_whole s i more t (over h e) = go s.passing refl
  where
    go : (p : Bool) → p ≡ s.passing → listed s.state.phase s.state.unit (coming s.passing (i ++ more)) ≡ listed s.state.phase s.state.unit (passed (drop (length i) i ++ more))
    go true q = rw (← q, drop-length i, over_joined i more h)
    go false q =
        let l = ltb-true 4096 (length i) (rw (← q) at e) in
        rw (← q, drop-length i, joined [] i more h, long_passed i more l)
line_whole s i more t (left h e k) = refl

-- ---- all lines for which there is room

feeding_whole : (n room : ℕ) (s : Standing) (i more : List ℕ)
    → whole s (i ++ more) ≡ (feeding n room s i).written ++ whole (feeding n room s i).reader (drop (feeding n room s i).taken i ++ more)
unfolding Hearing.feeding
feeding_whole zero room s i more = refl
feeding_whole (suc n) room s i more = go (ltb room most) (λ r. feeding_whole n r (line_taken s i).reader (drop (line_taken s i).taken i) more)
  where
    t : Taken State
    t = line_taken s i

    f : Feeding State
    f = feeding n (room - length (line_taken s i).text) (line_taken s i).reader (drop (line_taken s i).taken i)

    go : (x : Bool) → ((r : ℕ) → whole t.reader (drop t.taken i ++ more)
        ≡ (feeding n r t.reader (drop t.taken i)).written
        ++ whole (feeding n r t.reader (drop t.taken i)).reader (drop (feeding n r t.reader (drop t.taken i)).taken (drop t.taken i) ++ more))
        → whole s (i ++ more) ≡ (pick x (resting s) (then t f)).written ++ whole (pick x (resting s) (then t f)).reader (drop (pick x (resting s) (then t f)).taken i ++ more)
    go true again = refl
    go false again =
        line_whole s i more t (how longest answer s i) ∙ ap (λ l. t.text ++ l) (again (room - length t.text))
        ∙ sym (append_assoc t.text f.written _)
        ∙ ap (λ l. t.text ++ f.written ++ whole f.reader (l ++ more)) (drop-drop f.taken t.taken i)

-- ---- the end

no_more : (u : Value) (es : List (Option (List ℕ))) → listed Stopped u es ≡ []
unfolding listed text answer_to
no_more u [] = refl
no_more u (e ∷ es) = no_more u es

stopped_whole : (s : Standing) (i : List ℕ) → s.state.phase ≡ Stopped → whole s i ≡ []
stopped_whole s i e = rw e (no_more s.state.unit (coming s.passing i))

-- a line that takes nothing is open, and is the last
left_events : (s : Standing) (held : List ℕ) (t : Taken State) → How longest answer s held t → t.taken ≡ 0 → coming s.passing held ≡ last_events s held
unfolding events_from
left_events s held t (Lines.fed h) e = absurd (omega arith)
left_events s [] t (over h o) e = go s.passing o
  where
    go : (p : Bool) → either p (ltb 4096 0) ≡ true → coming p [] ≡ pick (either p (ltb 0 0)) (None ∷ []) []
    go true k = refl
    go false k = absurd (subst T (sym k) tt)
left_events s (c ∷ held) t (over h o) e = absurd (omega arith)
left_events s [] t (left h p k) e = rw p
left_events s (c ∷ held) t (left h p k) e =
    let j = joined [] (c ∷ held) [] h in
    rw (p, lt-ltb 0 (suc (length held)) (omega arith)) (ap (events_from []) (sym (append-nil (c ∷ held))) ∙ j)

none_events : (s : Standing) (held : List ℕ) (room : ℕ) → most ≤ room → (feeding (length held) room s held).taken ≡ 0 → coming s.passing held ≡ last_events s held
unfolding Hearing.feeding events_from
none_events s [] room h e = go s.passing
  where
    go : (p : Bool) → coming p [] ≡ pick (either p (ltb 0 0)) (None ∷ []) []
    go true = refl
    go false = refl
none_events s (c ∷ held) room h e =
    let f = rw (le-ltb room most h) at e in
    left_events s (c ∷ held) (line_taken s (c ∷ held)) (how longest answer s (c ∷ held)) (omega arith)

finished_whole : (s : Standing) (held : List ℕ) (room last : ℕ) → most ≤ room → (feeding (length held) room s held).taken ≡ 0 → most ≤ last
    → finishing last s held ≡ whole s held
unfolding finishing
finished_whole s held room last h e k = rw (le-ltb last most k) (ap (listed s.state.phase s.state.unit) (sym (none_events s held room h e)))

-- ---- the theorem

pub run_whole : {s : Standing} {held input output : List ℕ} → Run s held input output → output ≡ whole s (held ++ input)
run_whole (read {s} {held} {input} {output} block r) = run_whole r ∙ ap (whole s) (append_assoc held block input)
run_whole (fed {s} {held} {input} {output} room r) =
    ap (λ l. (feeding (length held) room s held).written ++ l) (run_whole r) ∙ sym (feeding_whole (length held) room s held input)
run_whole (finished {s} {held} room last h e k) = finished_whole s held room last h e k ∙ ap (whole s) (sym (append-nil held))
run_whole (stopped {s} {held} {input} e) = sym (stopped_whole s (held ++ input) e)

-- "The listing program reads standard input …": any run of the program from its start writes the listing of its input
pub runs : (input output : List ℕ) → Run fresh [] input output → output ≡ listing input
unfolding listing
runs input output r = run_whole r

-- and so whatever image is lent to it at first: its first line writes a new one
first_any : (u v : Value) (es : List (Option (List ℕ))) → listed First u es ≡ listed First v es
unfolding listed answer_to
first_any u v [] = refl
first_any u v (e ∷ es) = refl

pub runs_over : (image input output : List ℕ) → Run (standing unheard image) [] input output → output ≡ listing input
unfolding listing
runs_over image input output r = run_whole r ∙ first_any (unit_of image) blank (events_from [] input)

-- ---- and a run there is, for every input: the theorem is not empty

pub record Ran (s : Standing) (held input : List ℕ) : Type 0 where
  pub output : List ℕ
  pub run : Run s held input output

drains : (n : ℕ) (s : Standing) (held : List ℕ) → length held ≤ n → Ran s held []
unfolding Hearing.feeding
drains zero s [] h = record { output = finishing most s []; run = finished most most (omega arith) refl (omega arith) }
drains zero s (c ∷ held) h = absurd (omega arith)
drains (suc n) s held h = go (feeding (length held) most s held).taken refl (drains n)
  where
    go : (k : ℕ) → (feeding (length held) most s held).taken ≡ k → ((t : Standing) (l : List ℕ) → length l ≤ n → Ran t l []) → Ran s held []
    go zero e f = record { output = finishing most s held; run = finished most most (omega arith) e (omega arith) }
    go (suc k) e f =
        let r = f (feeding (length held) most s held).reader (drop (feeding (length held) most s held).taken held)
        (omega (arith, length-drop (feeding (length held) most s held).taken held)) in
        record { output = (feeding (length held) most s held).written ++ r.output; run = fed most r.run }

pub every_input : (input : List ℕ) → Ran fresh [] input
every_input input = begun (drains (length input) fresh input (omega arith))
  where
    -- all is read at once
    begun : Ran fresh input [] → Ran fresh [] input
    begun r = record { output = r.output; run = subst (λ l. Run fresh [] l r.output) (append-nil input) (read input r.run) }
