-- Laws of the line at the front of the input, as the code finds it; and of the input's end. Closed by the tests of a line.
use Rattle.std.specs.Prelude.{None, Option, Some}
use Rattle.std.specs.Option.{option_map}
use Rattle.std.specs.Borrow.{Bor}
use Prim.Native.Nat.{ℕ, suc, ◌+◌, ◌<◌, ◌≤◌}
use mathlib.Core.Path.{◌≡◌, refl, ap, sym, ◌∙◌}
use mathlib.Core.Bool.{Bool, true, false, not}
use mathlib.Core.List.{List, [], ◌∷◌}
use native.Mathlib.Omega.{arith}
use borrow.Author.Tests.{le-ltb, lt-ltb, eqb-true}
use lib.Dec.{ltb, eqb}
use lib.ListN.{length, take, drop}
use Rattle.octets.specs.Choice.{pick, both, either}
use Rattle.octets.specs.Put.{Put}
use Rattle.octets.proofs.Puts as Puts
use Rattle.text.specs.Reading.{to_feed, event_in, held_in}
use Rattle.text.specs.Hearing.{Hears, ended, unended}
use Rattle.text.specs.declared.Line.{Line}
use Rattle.text.specs.declared.hearing.Fed.{Fed}
use Rattle.text.specs.declared.hearing.Reader.{Reader}
use Rattle.text.proofs.Found.{Read}
use Rattle.words.specs.Lines.{no_digits, words_of, begins, frame_word, frame_line, explained}
use Rattle.words.specs.Feeding.{indented_of, standing, answer, most, finishing}
use Rattle.words.specs.Taking.{Explains, Digits, read, waits}
use Rattle.words.specs.declared.Explainer.{Explainer}

-- ---- the word for a bare frame

abbrev no_feed : List ℕ → Bool
no_feed [] = true
no_feed (c ∷ w) = both (not (eqb c 10)) (no_feed w)

-- a word without a line feed stands at the front of the line where it stands at the front of the input
begins_cut : (w i : List ℕ) → no_feed w ≡ true → begins w (take (to_feed i) i) ≡ begins w i
unfolding to_feed
begins_cut [] i f = refl
begins_cut (c ∷ w) [] f = refl
begins_cut (c ∷ w) (d ∷ i) f = go (eqb d 10) refl (eqb c 10) refl f (begins_cut w i)
  where
    differs : (b : Bool) → b ≡ eqb d c → eqb d 10 ≡ true → eqb c 10 ≡ false → false ≡ both b (begins w i)
    differs false e p q = refl
    differs true e p q = let k : d ≡ c = eqb-true d c (sym e) in let z : true ≡ false = sym p ∙ ap (λ n. eqb n 10) k ∙ q in let y : ◌≡◌ {A = ℕ} 0 1 = cc in absurd (omega arith)

    go : (x : Bool) → x ≡ eqb d 10 → (y : Bool) → y ≡ eqb c 10 → both (not y) (no_feed w) ≡ true
        → (no_feed w ≡ true → begins w (take (to_feed i) i) ≡ begins w i)
        → begins (c ∷ w) (take (pick x 0 (suc (to_feed i))) (d ∷ i)) ≡ both (eqb d c) (begins w i)
    go true e true q g h = let z : ◌≡◌ {A = ℕ} 0 1 = cc in absurd (omega arith)
    go true e false q g h = differs (eqb d c) refl (sym e) (sym q)
    go false e true q g h = let z : ◌≡◌ {A = ℕ} 0 1 = cc in absurd (omega arith)
    go false e false q g h = ap (both (eqb d c)) (h g)

-- what follows such a word: its line is the rest of the line
record After (n : ℕ) (i : List ℕ) : Type 0 where
  feed : to_feed i ≡ n + to_feed (drop n i)
  size : length i ≡ n + length (drop n i)
  rest : drop n (take (to_feed i) i) ≡ take (to_feed (drop n i)) (drop n i)

after_word : (w i : List ℕ) → no_feed w ≡ true → begins w i ≡ true → After (length w) i
unfolding to_feed
after_word [] i f b = record { feed = omega arith; size = omega arith; rest = refl }
after_word (c ∷ w) [] f b = let z : ◌≡◌ {A = ℕ} 0 1 = cc in absurd (omega arith)
after_word (c ∷ w) (d ∷ i) f b = go (eqb d c) refl (eqb c 10) refl f b (after_word w i)
  where
    step : eqb d 10 ≡ false → After (length w) i → After (suc (length w)) (d ∷ i)
    step e a = record {
      feed = rw e (let h = a.feed in omega arith);
      size = let h = a.size in omega arith;
      rest = rw e a.rest;
    }

    go : (x : Bool) → x ≡ eqb d c → (y : Bool) → y ≡ eqb c 10 → both (not y) (no_feed w) ≡ true → both x (begins w i) ≡ true
        → (no_feed w ≡ true → begins w i ≡ true → After (length w) i) → After (suc (length w)) (d ∷ i)
    go true e true q g k h = let z : ◌≡◌ {A = ℕ} 0 1 = cc in absurd (omega arith)
    go true e false q g k h = let j : d ≡ c = eqb-true d c (sym e) in step (ap (λ n. eqb n 10) j ∙ sym q) (h g k)
    go false e y q g k h = let z : ◌≡◌ {A = ℕ} 0 1 = cc in absurd (omega arith)

-- ---- what is said of digits

pub words_framed : {framed : Bool} {e : Option (List ℕ)} {s : List ℕ} → framed ≡ true → e ≡ Some s → frame_line s ≡ words_of framed e
words_framed p q = rw (p, q)

pub words_none : (framed : Bool) {e : Option (List ℕ)} → e ≡ None → no_digits ≡ words_of framed e
words_none true q = rw q
words_none false q = rw q

module _ (h : Explainer) (framed : Bool) (n : ℕ) (d out : List ℕ) (at : ℕ) where
  pub digits_wait : length d ≤ to_feed d → (o : Option (Fed Explainer)) → o ≡ None → Digits h framed n d out at out o
  digits_wait f o e = rw e (waits f refl)

  pub digits_read : {l : Line} {buffer after : List ℕ} (octets : Option (Bor (List ℕ))) {r : Fed Explainer} → Read d l buffer
      → held_in octets ≡ option_map (λ k. take k buffer) l.octets → Explains h (words_of framed (held_in octets)) (n + l.next) out at after r
      → Digits h framed n d out at after (Some r)
  digits_read octets l e t = read _ l.ended (rw (e, l.event, l.next) at t)

-- ---- what is said of a line

module _ (i : List ℕ) where
  plain_words : begins frame_word i ≡ false → explained (take (to_feed i) i) ≡ words_of false (event_in (take (to_feed i) i))
  unfolding explained
  plain_words b = rw (begins_cut frame_word i refl ∙ b)

  module _ (b : begins frame_word i ≡ true) where
    abbrev d : List ℕ
    d = drop 6 i

    cut : After 6 i
    cut = after_word frame_word i refl b

    framed_words : explained (take (to_feed i) i) ≡ words_of true (event_in (take (to_feed d) d))
    unfolding explained
    framed_words = rw (begins_cut frame_word i refl ∙ b, cut.rest)

  module _ (h : Explainer) (out : List ℕ) (at : ℕ) {after : List ℕ} where
    pub hears_plain : begins frame_word i ≡ false → (o : Option (Fed Explainer)) → Digits h false 0 i out at after o → Hears indented_of answer most h tt i out at tt after o
    hears_plain b o (read r f t) = ended r f (record { state_is = t.state_is; taken = omega (arith, t.taken); put = rw (plain_words b) t.put; small = t.small })
    hears_plain b o (waits f e) = unended f refl e

    pub hears_framed : (b : begins frame_word i ≡ true) (s : List ℕ) → s ≡ drop 6 i → (o : Option (Fed Explainer)) → Digits h true 6 s out at after o
        → Hears indented_of answer most h tt i out at tt after o
    hears_framed b s e o x = go o (rw e at x)
      where
        go : (p : Option (Fed Explainer)) → Digits h true 6 (drop 6 i) out at after p → Hears indented_of answer most h tt i out at tt after p
        go p (read r f t) =
            let k = cut b in
            ended r (omega (arith, k.feed, k.size))
            (record { state_is = t.state_is; taken = omega (arith, t.taken, k.feed); put = rw (framed_words b) t.put; small = t.small })
        go p (waits f g) = let k = cut b in unended (omega (arith, k.feed, k.size)) refl g

-- the word as the code looks for it
module _ (i : List ℕ) {r : Option (Bor (List ℕ))} (e : held_in r ≡ pick (begins frame_word i) (Some (drop 6 i)) None) where
  pub bare_some : {d : Bor (List ℕ)} → r ≡ Some d → (begins frame_word i ≡ true) × (d.now ≡ drop 6 i)
  bare_some {d} q = go (begins frame_word i) (sym (ap held_in q) ∙ e)
    where
      go : (b : Bool) → Some d.now ≡ pick b (Some (drop 6 i)) None → (b ≡ true) × (d.now ≡ drop 6 i)
      go true h = (refl, cc)
      go false h = let z : ◌≡◌ {A = ℕ} 0 1 = cc in absurd (omega arith)

  pub bare_none : r ≡ None → begins frame_word i ≡ false
  bare_none q = go (begins frame_word i) (sym (ap held_in q) ∙ e)
    where
      go : (b : Bool) → None ≡ pick b (Some (drop 6 i)) None → b ≡ false
      go true h = let z : ◌≡◌ {A = ℕ} 0 1 = cc in absurd (omega arith)
      go false h = refl

-- ---- the input's end

module _ (s : Reader Explainer) (held out : List ℕ) where
  pub finish_full : length out < most → (Put out 0 (finishing (length out) (standing s) held) out 0) × (0 ≤ length out)
  unfolding finishing
  finish_full h = (rw (lt-ltb (length out) most h) (Puts.none out 0), omega arith)

  pub finish_open : most ≤ length out → {after : List ℕ} {r : Fed Explainer} → either s.passing (ltb 0 (length held)) ≡ true → Explains s.hearer no_digits 0 out 0 after r
      → (Put out 0 (finishing (length out) (standing s) held) after r.written) × (r.written ≤ length out)
  unfolding finishing
  finish_open h o t = (rw (le-ltb (length out) most h, o) t.put, omega (arith, t.small))

  pub finish_shut : most ≤ length out → either s.passing (ltb 0 (length held)) ≡ false → (Put out 0 (finishing (length out) (standing s) held) out 0) × (0 ≤ length out)
  unfolding finishing
  finish_shut h o = (rw (le-ltb (length out) most h, o) (Puts.none out 0), omega arith)
