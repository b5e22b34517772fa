-- Laws of lines heard one after the other: one line taken, and all for which there is room. Closed by the tests of a line, and by induction on the lines.
use Rattle.std.specs.Prelude.{None, Option, Some}
use Prim.Native.Nat.{ℕ, zero, suc, ◌+◌, ◌-◌, ◌<◌, ◌≤◌}
use mathlib.Core.Path.{◌≡◌, refl, ap, sym, ◌∙◌}
use mathlib.Core.Bool.{Bool, true, false}
use mathlib.Core.List.{List, [], ◌++◌, append-nil, append_assoc}
use native.Mathlib.Nat.{add-zero}
use native.Mathlib.Omega.{arith}
use borrow.Author.Tests.{ltb-true, ltb-false, le-ltb, lt-ltb}
use lib.Dec.{ltb}
use lib.ListN.{length, take, drop, length-drop}
use lib.Seq.{drop-drop, take_all, length-sets}
use Rattle.octets.specs.Choice.{pick, either}
use Rattle.octets.specs.Put.{Put}
use Rattle.octets.proofs.Puts as Puts
use Rattle.text.specs.Reading.{to_feed, feed_from}
use Rattle.text.specs.Hearing.{Answer, Standing, Taken, heard, passing_over, not_ended, line_taken, Feeding, resting, then, feeding, left_at, standing, Heard, Hears, ended, unended, Takes, Feeds}
use Rattle.text.specs.declared.hearing.Fed.{Fed}
use Rattle.text.specs.declared.hearing.Reader.{Reader}

-- ---- one line

module _ {S : Type 0} where
  -- nothing was taken
  abbrev pub untaken : Standing S → Taken S
  untaken s = record { reader = s; taken = 0; text = [] }

module _ {S : Type 0} (longest : ℕ) (answer : S → Option (List ℕ) → Answer S) where
  -- the three ways of a line: it has its line feed; it is passed over, as far as it stands; it is left for later
  pub data How (s : Standing S) (i : List ℕ) : Taken S → Type 0 where
    fed : to_feed i < length i → How s i (heard (to_feed i + 1) (answer s.state (pick s.passing None (Some (take (to_feed i) i)))))
    over : length i ≤ to_feed i → either s.passing (ltb longest (length i)) ≡ true → How s i (record { reader = passing_over s; taken = length i; text = [] })
    left : length i ≤ to_feed i → s.passing ≡ false → length i ≤ longest → How s i (untaken s)

  pub how : (s : Standing S) (i : List ℕ) → How s i (line_taken longest answer s i)
  unfolding line_taken
  how s i = go (ltb (to_feed i) (length i)) refl s.passing refl (ltb longest (length i)) refl
    where
      go : (x : Bool) → x ≡ ltb (to_feed i) (length i) → (p : Bool) → p ≡ s.passing → (y : Bool) → y ≡ ltb longest (length i)
          → How s i (pick x (heard (to_feed i + 1) (answer s.state (pick s.passing None (Some (take (to_feed i) i)))))
          (pick (either p y) (record { reader = passing_over s; taken = length i; text = [] }) (untaken s)))
      go true e p q y r = fed (ltb-true (to_feed i) (length i) (sym e))
      go false e true q y r = over (ltb-false (to_feed i) (length i) (sym e)) (ap (λ b. either b (ltb longest (length i))) (sym q))
      go false e false q true r = over (ltb-false (to_feed i) (length i) (sym e)) (rw (← q, ← r))
      go false e false q false r = left (ltb-false (to_feed i) (length i) (sym e)) (sym q) (ltb-false longest (length i) (sym r))

  -- no more is taken than is there
  within : (s : Standing S) (i : List ℕ) (t : Taken S) → How s i t → t.taken ≤ length i
  within s i t (fed h) = omega arith
  within s i t (over h e) = omega arith
  within s i t (left h e k) = omega arith

  pub taken_within : (s : Standing S) (i : List ℕ) → (line_taken longest answer s i).taken ≤ length i
  taken_within s i = within s i (line_taken longest answer s i) (how s i)

  -- what takes nothing changes nothing
  none_left : (s : Standing S) (i : List ℕ) (t : Taken S) → How s i t → t.taken ≡ 0 → t ≡ untaken s
  none_left s i t (fed h) z = absurd (omega arith)
  none_left s i t (over h e) z = go s.passing refl e
    where
      go : (p : Bool) → p ≡ s.passing → either p (ltb longest (length i)) ≡ true → record { reader = passing_over s; taken = length i; text = [] } ≡ untaken s
      go true q g = rw (z, q)
      go false q g = let l = ltb-true longest (length i) g in absurd (omega arith)
  none_left s i t (left h e k) z = refl

  pub taken_none : (s : Standing S) (i : List ℕ) → (line_taken longest answer s i).taken ≡ 0 → line_taken longest answer s i ≡ untaken s
  taken_none s i = none_left s i (line_taken longest answer s i) (how s i)

  -- ---- one line after the other

  module _ (most : ℕ) where
    idle_feeding : (n room : ℕ) (s : Standing S) (i : List ℕ) → line_taken longest answer s i ≡ untaken s → feeding longest most answer n room s i ≡ resting s
    unfolding feeding
    idle_feeding zero room s i e = refl
    idle_feeding (suc n) room s i e = go (idle_feeding n (room - 0) s i e) (ltb room most)
      where
        go : feeding longest most answer n (room - 0) s i ≡ resting s → (x : Bool) → pick x (resting s)
            (then (line_taken longest answer s i)
            (feeding longest most answer n (room - length (line_taken longest answer s i).text) (line_taken longest answer s i).reader
            (drop (line_taken longest answer s i).taken i))) ≡ resting s
        go again true = refl
        go again false = rw (e, again)

    full_feeding : (n room : ℕ) (s : Standing S) (i : List ℕ) → room < most → feeding longest most answer n room s i ≡ resting s
    unfolding feeding
    full_feeding zero room s i h = refl
    full_feeding (suc n) room s i h = rw (lt-ltb room most h)

    next_feeding : (n room : ℕ) (s : Standing S) (i : List ℕ) → 0 < n → most ≤ room
        → feeding longest most answer n room s i
        ≡ then (line_taken longest answer s i)
        (feeding longest most answer (n - 1) (room - length (line_taken longest answer s i).text) (line_taken longest answer s i).reader
        (drop (line_taken longest answer s i).taken i))
    unfolding feeding
    next_feeding zero room s i h e = absurd (omega arith)
    next_feeding (suc n) room s i h e = let z : suc n - 1 ≡ n = omega arith in rw (le-ltb room most e, z)

-- some lines are taken: those that are left make up the whole
pub record Going {H U S : Type 0} (state : H → U → S) (longest most : ℕ) (answer : S → Option (List ℕ) → Answer S) (s : Standing S) (i out₀ : List ℕ)
    (r : Fed (Reader H)) (u : U) (out : List ℕ) (left : ℕ) : Type 0 where
  pub shown : List ℕ
  pub put : Put out₀ 0 shown out r.written
  pub whole : feeding longest most answer (length i) (length out₀) s i
      ≡ record {
        reader = (feeding longest most answer left (length out₀ - r.written) (standing state r.state u) (drop r.taken i)).reader;
        taken = r.taken + (feeding longest most answer left (length out₀ - r.written) (standing state r.state u) (drop r.taken i)).taken;
        written = shown ++ (feeding longest most answer left (length out₀ - r.written) (standing state r.state u) (drop r.taken i)).written;
      }
  pub inside : r.taken ≤ length i
  pub room : r.written ≤ length out₀
  pub wide : length out ≡ length out₀

module _ {H U S : Type 0} (state : H → U → S) (longest most : ℕ) (answer : S → Option (List ℕ) → Answer S) where
  -- ---- the line at the front

  module _ (s : Reader H) (u : U) (i out : List ℕ) (at : ℕ) where
    -- a line without its line feed prints nothing
    stays : (x : Bool) → Takes state (pick x (record { reader = passing_over (standing state s u); taken = length i; text = [] }) (untaken (standing state s u))) most out at u out
        (pick x (record { state = record { hearer = s.hearer; passing = true }; taken = length i; written = at }) (record { state = s; taken = 0; written = at }))
    stays true = record { reader = refl; taken = refl; put = Puts.none out at; small = omega arith }
    stays false = record { reader = refl; taken = refl; put = Puts.none out at; small = omega arith }

    left_takes : (r : Fed (Reader H)) → line_taken longest answer (standing state s u) i ≡ not_ended longest (standing state s u) i
        → r ≡ left_at longest s (length i) at → Takes state (line_taken longest answer (standing state s u) i) most out at u out r
    left_takes r e f = rw (e, f) (stays (either s.passing (ltb longest (length i))))

    -- the end of a line that is passed over
    pub pass_ends : (e : ℕ) → true ≡ s.passing → e ≡ feed_from i 0 → e < length i → (unit : U) (after : List ℕ) (r : Fed H) (q : Fed (Reader H))
        → Heard state (answer (state s.hearer u) None) (e + 1) most out at unit after r
        → q ≡ record { state = record { hearer = r.state; passing = false }; taken = r.taken; written = r.written }
        → Takes state (line_taken longest answer (standing state s u) i) most out at unit after q
    unfolding feed_from line_taken
    pass_ends e p h k unit after r q t f =
        let z : e ≡ to_feed i = omega arith in
        rw (f, lt-ltb (to_feed i) (length i) (omega arith), ← p) (record { reader = rw t.state_is; taken = t.taken ∙ ap (λ n. n + 1) z; put = t.put; small = t.small })

    pub pass_open : (e : ℕ) → e ≡ feed_from i 0 → length i ≤ e → (r : Fed (Reader H)) → r ≡ left_at longest s (length i) at
        → Takes state (line_taken longest answer (standing state s u) i) most out at u out r
    unfolding feed_from line_taken
    pass_open e h k r f = left_takes r (rw (le-ltb (to_feed i) (length i) (omega arith))) f

    -- the line that stands at the front
    pub line_ends : (o : Option (Fed H)) (unit : U) (after : List ℕ) → Hears state answer most s.hearer u i out at unit after o → false ≡ s.passing
        → (r : Fed H) (q : Fed (Reader H)) → o ≡ Some r
        → q ≡ record { state = record { hearer = r.state; passing = false }; taken = r.taken; written = r.written }
        → Takes state (line_taken longest answer (standing state s u) i) most out at unit after q
    unfolding line_taken
    line_ends o unit after (ended k h t) p r q e f =
        let z : k ≡ r = cc in
        rw (f, ← z, lt-ltb (to_feed i) (length i) h, ← p) (record { reader = rw t.state_is; taken = t.taken; put = t.put; small = t.small })
    line_ends o unit after (unended h v w) p r q e f = let z : ◌≡◌ {A = ℕ} 0 1 = cc in absurd (omega arith)

    pub line_open : (o : Option (Fed H)) (unit : U) (after : List ℕ) → Hears state answer most s.hearer u i out at unit after o → o ≡ None
        → (r : Fed (Reader H)) → r ≡ left_at longest s (length i) at
        → Takes state (line_taken longest answer (standing state s u) i) most out at unit after r
    unfolding line_taken
    line_open o unit after (ended k h t) e r f = let z : ◌≡◌ {A = ℕ} 0 1 = cc in absurd (omega arith)
    line_open o unit after (unended h v w) e r f = rw (v, w) (left_takes r (rw (le-ltb (to_feed i) (length i) h)) f)

-- ---- all for which there is room

stands : (i : List ℕ) (from : ℕ) → take (length i - from) (drop from i) ≡ drop from i
stands i from = take_all (length i - from) (drop from i) (omega (arith, length-drop from i))

alike : {S : Type 0} {f : Standing S} {w : List ℕ} (a b : ℕ) → a ≡ b → ◌≡◌ {A = Feeding S} (record { reader = f; taken = a; written = w }) (record { reader = f; taken = b; written = w })
alike a b e = rw e

pub going_start : {H U S : Type 0} (state : H → U → S) (longest most : ℕ) (answer : S → Option (List ℕ) → Answer S) (s : Reader H) (u : U) (i out : List ℕ)
    → Going state longest most answer (standing state s u) i out (record { state = s; taken = 0; written = 0 }) u out (length i - 0)
going_start state longest most answer s u i out =
    let y : length i - 0 ≡ length i = omega arith in
    let z : length out - 0 ≡ length out = omega arith in
    record { shown = []; put = Puts.none out 0; whole = rw (y, z) (alike _ _ (omega arith)); inside = omega arith; room = omega arith; wide = refl }

module _ {H U S : Type 0} {state : H → U → S} {longest most : ℕ} {answer : S → Option (List ℕ) → Answer S} {s : Standing S} {i out₀ out : List ℕ}
    {r : Fed (Reader H)} {u : U} {left : ℕ} (g : Going state longest most answer s i out₀ r u out left) where
  abbrev rest : Feeding S
  rest = feeding longest most answer left (length out₀ - r.written) (standing state r.state u) (drop r.taken i)

  -- nothing more comes
  stops : rest ≡ resting (standing state r.state u)
      → Feeds state (feeding longest most answer (length i) (length out₀) s i) i out₀ u out r
  stops e =
      rw (g.whole, e) (record {
        reader = refl;
        taken = sym (add-zero r.taken);
        put = Puts.put_as (sym (append-nil g.shown)) g.put;
        within = g.inside;
        fits = g.room;
      })

  pub going_end : left ≤ 0 → Feeds state (feeding longest most answer (length i) (length out₀) s i) i out₀ u out r
  unfolding feeding
  going_end h = let z : left ≡ 0 = omega arith in stops (rw z)

  pub going_full : length out - r.written < most → Feeds state (feeding longest most answer (length i) (length out₀) s i) i out₀ u out r
  going_full h = stops (full_feeding longest answer most left (length out₀ - r.written) (standing state r.state u) (drop r.taken i) (omega (arith, g.wide)))

  module _ {unit : U} {after : List ℕ} {next : Fed (Reader H)} (t₀ : Takes state
      (line_taken longest answer (standing state r.state u) (take (length i - r.taken) (drop r.taken i))) most out r.written unit after next) where
    abbrev line : Taken S
    line = line_taken longest answer (standing state r.state u) (drop r.taken i)

    t : Takes state line most out r.written unit after next
    t = rw (stands i r.taken) at t₀

    abbrev on : Fed (Reader H)
    on = record { state = next.state; taken = r.taken + next.taken; written = next.written }

    pub going_within : r.taken + next.taken ≤ length i
    going_within = omega (arith, t.taken, g.inside, taken_within longest answer (standing state r.state u) (drop r.taken i), length-drop r.taken i)

    -- a line that takes nothing is the last
    pub going_none : next.taken ≡ 0 → Feeds state (feeding longest most answer (length i) (length out₀) s i) i out₀ unit after on
    going_none e =
        let idle : line ≡ untaken (standing state r.state u) = taken_none longest answer (standing state r.state u) (drop r.taken i) (omega (arith, t.taken)) in
        let f = stops (idle_feeding longest answer most left (length out₀ - r.written) (standing state r.state u) (drop r.taken i) idle) in
        let p : Put out r.written [] after next.written = rw idle at t.put in
        record {
          reader = t.reader ∙ ap (λ (x : Taken S). x.reader) idle ∙ f.reader;
          taken = omega (arith, f.taken);
          put = Puts.put_as (append-nil (feeding longest most answer (length i) (length out₀) s i).written) (Puts.then f.put p);
          within = omega (arith, g.inside);
          fits = omega (arith, g.room, p.place);
        }

    module _ (more : 0 < left) (roomy : most ≤ length out - r.written) where
      -- what is left after this line
      onward : feeding longest most answer (left - 1) (length out₀ - r.written - length line.text) line.reader (drop line.taken (drop r.taken i))
          ≡ feeding longest most answer (left - 1) (length out₀ - next.written) (standing state next.state unit) (drop (r.taken + next.taken) i)
      onward =
          let a : length out₀ - r.written - length line.text ≡ length out₀ - next.written = omega (arith, t.put.place) in
          rw (a, drop-drop line.taken r.taken i, t.taken, t.reader)

      now_next : rest ≡ then line (feeding longest most answer (left - 1) (length out₀ - next.written) (standing state next.state unit) (drop (r.taken + next.taken) i))
      now_next =
          next_feeding longest answer most left (length out₀ - r.written) (standing state r.state u) (drop r.taken i) more (omega (arith, g.wide)) ∙ ap (then line) onward

      pub going_step : (k : ℕ) → k ≡ left - 1 → Going state longest most answer s i out₀ on unit after k
      going_step k e = rw e (record {
        shown = g.shown ++ line.text;
        put = Puts.then g.put t.put;
        whole = g.whole ∙ rw (now_next, append_assoc g.shown line.text _) (alike _ _ (omega (arith, t.taken)));
        inside = going_within;
        room = omega (arith, t.small, g.room, g.wide);
        wide = ap length t.put.held ∙ length-sets out r.written line.text ∙ g.wide;
      })
