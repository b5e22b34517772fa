-- Laws of what is printed: a line with room, the lines that lie in a buffer, and a unit's answer. Closed by induction on the lines.
use Rattle.std.specs.Prelude.{Result, Ok, Err}
use Prim.Native.Nat.{ℕ, zero, suc, ◌+◌, ◌-◌, ◌*◌, ◌/◌, ◌%◌, ◌<◌, ◌≤◌}
use mathlib.Core.Path.{◌≡◌, refl, ap, sym, ◌∙◌}
use mathlib.Core.List.{List, [], ◌∷◌, ◌++◌, map, append-nil, append_assoc}
use native.Mathlib.Omega.{arith}
use borrow.Author.Tests.{le-leb}
use lib.ListN.{length, take, drop, length-append, length-drop, length-take, length-map}
use lib.Seq.{sets, sets-eq, length-sets, drop-drop, take-append_seam, drop-append_seam, length-take-le}
use Rattle.std.proofs.lemmas.List.{take_rest}
use Rattle.octets.specs.Put.{Put}
use Rattle.octets.proofs.Puts as Puts
use Rattle.text.specs.Printing.{digits_of, printed, fits, printed_in}
use Rattle.text.proofs.PrintLaws.{digits_long}
use Rattle.book.specs.Book.{Outcome, refused, done}
use Rattle.book.specs.Lines.{line_of, laid, laid_out}
use Rattle.book.specs.Step.{turn_of, octets_of}
use Rattle.book.specs.declared.Unit.{Unit as Value}
use Rattle.book.specs.declared.Done.{Done}
use Rattle.book.specs.declared.Refusal.{Refusal}
use Rattle.image.specs.Image.{unit_of}
use Rattle.session.specs.Listing.{text, refusal_line}
use Rattle.session.specs.Walking.{length_at, lines_in, size_of, verdict_lines, verdict_size, Lays}

-- ---- one line

pub printed_long : (l : List ℕ) → length (printed l) ≡ 2 * length l + 1
unfolding printed
printed_long l = let a = length-append (digits_of l) (10 ∷ []) in let b = digits_long l in omega arith

pub text_one : (l : List ℕ) → text (l ∷ []) ≡ printed l
unfolding text
text_one l = append-nil (printed l)

-- a line that has room is printed whole
pub print_put : (out line : List ℕ) (at r : ℕ) (after : List ℕ) → at + (2 * length line + 1) ≤ length out
    → r ≡ at + length (printed_in (length out) at line) → after ≡ sets out at (printed_in (length out) at line)
    → Put out at (printed line) after r
unfolding printed_in fits
print_put out line at r after h p q =
    let e = le-leb (at + (2 * length line + 1)) (length out) h in
    record { held = rw e at q; place = rw e at p }

pub text-append : (ls ks : List (List ℕ)) → text (ls ++ ks) ≡ text ls ++ text ks
unfolding text
text-append [] ks = refl
text-append (l ∷ ls) ks = rw (text-append ls ks) (sym (append_assoc (printed l) (text ls) (text ks)))

-- ---- the lines that lie in a buffer

-- some are printed: those that are left make up the whole
pub record Walked (out₀ : List ℕ) (at : ℕ) (s : List ℕ) (n : ℕ) (out : List ℕ) (place : ℕ) (rest : List ℕ) (left : ℕ) : Type 0 where
  pub shown : List ℕ
  pub put : Put out₀ at shown out place
  pub whole : shown ++ text (lines_in left rest) ≡ text (lines_in n s)
  pub inside : size_of left rest ≤ length rest
  pub room : place + 2 * size_of left rest ≤ length out₀
  pub wide : length out ≡ length out₀

pub walk_start : (out : List ℕ) (at : ℕ) (s : List ℕ) (n : ℕ) → size_of n s ≤ length s → at + 2 * size_of n s ≤ length out → Walked out at s n out at s (n - 0)
walk_start out at s n h k =
    let z : n - 0 ≡ n = omega arith in
    rw z (record { shown = []; put = Puts.none out at; whole = refl; inside = h; room = k; wide = refl })

module _ {out₀ s out rest : List ℕ} {at n place left : ℕ} (w : Walked out₀ at s n out place rest left) where
  pub walk_end : left ≤ 0 → Put out₀ at (text (lines_in n s)) out place
  unfolding lines_in text
  walk_end h =
      let z : left ≡ 0 = omega arith in
      let e : w.shown ++ [] ≡ text (lines_in n s) = rw z at w.whole in
      Puts.put_as (sym (append-nil w.shown) ∙ e) w.put

  -- the line at the front of those that are left
  size_left : 0 < left → size_of left rest ≡ 2 + length_at rest + size_of (left - 1) (drop (2 + length_at rest) rest)
  unfolding size_of
  size_left h = go left h
    where
      go : (k : ℕ) → 0 < k → size_of k rest ≡ 2 + length_at rest + size_of (k - 1) (drop (2 + length_at rest) rest)
      go zero l = absurd (omega arith)
      go (suc k) l = let e : suc k - 1 ≡ k = omega arith in rw e

  text_left : 0 < left → text (lines_in left rest) ≡ printed (take (length_at rest) (drop 2 rest)) ++ text (lines_in (left - 1) (drop (2 + length_at rest) rest))
  unfolding lines_in text
  text_left h = go left h
    where
      go : (k : ℕ) → 0 < k → text (lines_in k rest) ≡ printed (take (length_at rest) (drop 2 rest)) ++ text (lines_in (k - 1) (drop (2 + length_at rest) rest))
      go zero l = absurd (omega arith)
      go (suc k) l = let e : suc k - 1 ≡ k = omega arith in rw e

  pub walk_has : 0 < left → 2 ≤ length rest
  walk_has h = omega (arith, w.inside, size_left h)

  module _ (more : 0 < left) (long : ℕ) (is : long ≡ length_at rest) where
    pub walk_within : 2 + long ≤ length rest
    walk_within = omega (arith, w.inside, size_left more, is)

    line_long : length (take long (drop 2 rest)) ≡ long
    line_long = length-take-le long (drop 2 rest) (omega (arith, walk_within, length-drop 2 rest))

    pub walk_room : (line : List ℕ) → line ≡ take long (drop 2 rest) → place + (2 * length line + 1) ≤ length out
    walk_room line e =
        let l : length line ≡ long = ap length e ∙ line_long in
        omega (arith, w.room, size_left more, is, w.wide)

    pub walk_step : (line next : List ℕ) (r : ℕ) (after : List ℕ) → line ≡ take long (take (length rest - 2) (drop 2 rest))
        → next ≡ drop long (take (length rest - 2) (drop 2 rest)) → r ≡ place + length (printed_in (length out) place line) → after ≡ sets out place (printed_in (length out) place line)
        → (k : ℕ) → k ≡ left - 1 → Walked out₀ at s n after r next k
    walk_step line next r after e₀ f₀ p q m i =
        let b : take (length rest - 2) (drop 2 rest) ≡ drop 2 rest = take_rest rest 2 in
        let e : line ≡ take long (drop 2 rest) = e₀ ∙ ap (take long) b in
        let f : next ≡ drop (2 + long) rest = f₀ ∙ ap (drop long) b ∙ drop-drop long 2 rest in
        let l : length line ≡ long = ap length e ∙ line_long in
        let k = print_put out line place r after (walk_room line e) p q in
        let j : r ≡ place + (2 * long + 1) = omega (arith, k.place, printed_long line) in
        let z : size_of left rest ≡ 2 + long + size_of (left - 1) next = rw (← is, ← f) at (size_left more) in
        let t : text (lines_in left rest) ≡ printed line ++ text (lines_in (left - 1) next) = rw (← is, ← f, ← e) at (text_left more) in
        let d : length next ≡ length rest - (2 + long) = ap length f ∙ length-drop (2 + long) rest in
        rw i (record {
          shown = w.shown ++ printed line;
          put = Puts.then w.put k;
          whole = append_assoc w.shown (printed line) _ ∙ ap (λ x. w.shown ++ x) (sym t) ∙ w.whole;
          inside = omega (arith, w.inside);
          room = omega (arith, w.room);
          wide = ap length q ∙ length-sets out place (printed_in (length out) place line) ∙ w.wide;
        })

-- ---- the lines that were laid lie there

half_whole : (n : ℕ) → 256 * (n / 256) + n % 256 ≡ n
half_whole n = omega arith

past : (a b : ℕ) (l rest : List ℕ) → drop (2 + length l) (a ∷ (b ∷ (l ++ rest))) ≡ rest
past a b l rest = let e : 2 + length l ≡ suc (suc (length l)) = omega arith in rw e (drop-append_seam l rest)

pub lines_laid : (ls : List (List ℕ)) (rest : List ℕ) → lines_in (length ls) (laid ls ++ rest) ≡ ls
unfolding lines_in
lines_laid [] rest = refl
lines_laid (l ∷ ls) rest =
    rw (append_assoc l (laid ls) rest, half_whole (length l), take-append_seam l (laid ls ++ rest), past (length l / 256) (length l % 256) l (laid ls ++ rest), lines_laid ls rest)

pub size_laid : (ls : List (List ℕ)) (rest : List ℕ) → size_of (length ls) (laid ls ++ rest) ≡ length (laid ls)
unfolding size_of
size_laid [] rest = refl
size_laid (l ∷ ls) rest =
    rw (append_assoc l (laid ls) rest, half_whole (length l), past (length l / 256) (length l % 256) l (laid ls ++ rest), size_laid ls rest, length-append l (laid ls)) (omega arith)

lies : (ls : List (List ℕ)) (before after : List ℕ) → after ≡ sets before 0 (laid ls) → length (laid ls) ≤ length before
    → (lines_in (length ls) after ≡ ls) × (size_of (length ls) after ≡ length (laid ls))
lies ls before after e h =
    let a = e ∙ sets-eq (laid ls) before 0 (omega arith) in
    (rw a (lines_laid ls (drop (0 + length (laid ls)) before)), rw a (size_laid ls (drop (0 + length (laid ls)) before)))

-- twice the octets have room for what is printed
pub text_short : (n : ℕ) (s : List ℕ) → length (text (lines_in n s)) ≤ 2 * size_of n s
unfolding text lines_in size_of
text_short zero s = omega arith
text_short (suc n) s =
    let l : List ℕ = take (length_at s) (drop 2 s) in
    let a = length-append (printed l) (text (lines_in n (drop (2 + length_at s) s))) in
    let b = printed_long l in
    let c = length-take (length_at s) (drop 2 s) in
    let d = text_short n (drop (2 + length_at s) s) in
    omega arith

-- ---- a unit's answer

module _ (v : Result Done Refusal) (s : List ℕ) (d : Done) (is : v ≡ Ok d) (size : verdict_size v s ≤ 1024) where
  verdict_size_lem : size_of d.lines s ≤ 1024
  verdict_size_lem = rw is at size

  pub verdict_room : (room at : ℕ) → verdict_size v s ≤ length s → at + 2048 ≤ room → (size_of d.lines s ≤ length s) × (at + 2 * size_of d.lines s ≤ room)
  verdict_room room at h k = (rw is at h, omega (arith, verdict_size_lem))

  pub verdict_laid : {out after : List ℕ} {at r : ℕ} → Put out at (text (lines_in d.lines s)) after r
      → (Put out at (text (verdict_lines v s)) after r) × (r ≤ at + 2048)
  verdict_laid p = (rw is p, omega (arith, p.place, text_short d.lines s, verdict_size_lem))

pub verdict_refused : (v : Result Done Refusal) (s : List ℕ) {n : Refusal} {out after : List ℕ} {at r : ℕ} → v ≡ Err n
    → Put out at (text (refusal_line n ∷ [])) after r → r ≡ at + 5 → (Put out at (text (verdict_lines v s)) after r) × (r ≤ at + 2048)
verdict_refused v s is p q = (rw is p, omega arith)

pub shows : (u : Value) (o : Outcome) (before after image : List ℕ) (r : Result Done Refusal) → r ≡ (turn_of u o).verdict → unit_of image ≡ (turn_of u o).unit
    → after ≡ sets before 0 (octets_of o) → 1024 ≤ length before → length (octets_of o) ≤ 1024 → Lays u o r image after
unfolding turn_of octets_of laid_out
shows u (refused n) before after image r e f b w h = rw e (record { lines = refl; size = omega arith; unit = f })
shows u (done st os) before after image r e f b w h =
    let l = lies (map line_of os) before after b (omega arith) in
    rw e (record { lines = rw (length-map os line_of) at l.0; size = let z = rw (length-map os line_of) at l.1 in omega arith; unit = f })
