-- Laws of octets passed from a reader to a teller. Closed by what is known of lists, and by induction on the calls.
use Rattle.std.proofs.Common.{◌≡◌, ℕ, ◌+◌, ◌-◌, ◌≤◌, List, [], ◌++◌, length, take, drop, refl, ap, sym, subst, ◌∙◌, arith, append_assoc, append-nil, Option, IfSome, Result, Ok, Err, MatchResult, Bool, true, false}
use Rattle.std.proofs.lemmas.List.{take-append-drop, take-append-le, take_at, take_rest, drop-take, length-append, length-take-le, length-drop}
use Rattle.std.proofs.lemmas.List.Edits.{take-paste}
use Rattle.std.proofs.Math.Seq.{paste, take-append-add}
use Rattle.std.specs.Io.KnownBytes.{Consumes, Keeps, ReadConsumes}
use Rattle.std.specs.Io.{ReadsAtMost}
use Rattle.std.specs.Bool.{then_some}
use Rattle.std.proofs.KnownBytes.{Consumes-nil, Consumes-trans, Consumes-kept}
use borrow.Rule.Slice.PartMut.{put_mid}
use Rattle.blocks.specs.Passing.{Chain, none, more, Passed}

-- ---- one call after the other

pub Chain-append : {S : Type 0} {takes : S → List ℕ → S → Type 0} {s t u : S} {xs ys : List ℕ} → Chain takes s xs t → Chain takes t ys u → Chain takes s (xs ++ ys) u
Chain-append {takes = takes} {s = s} {t = t} {xs = xs} a none = subst (λ l. Chain takes s l t) (sym (append-nil xs)) a
Chain-append {takes = takes} {s = s} {u = u} {xs = xs} a (more {xs = x} {ys = y} b h) =
    subst (λ l. Chain takes s l u) (append_assoc xs x y) (more (Chain-append a b) h)

-- some of a block was told, and the rest is left
pub record Going {S : Type 0} (takes : S → List ℕ → S → Type 0) (s : S) (block rest : List ℕ) (t : S) : Type 0 where
  pub told : List ℕ
  pub split : block ≡ told ++ rest
  pub chain : Chain takes s told t

module _ {S : Type 0} {takes : S → List ℕ → S → Type 0} {s : S} where
  pub going_start : (block : List ℕ) → Going takes s block block s
  going_start block = record { told = []; split = refl; chain = none }

  pub going_step : {block rest : List ℕ} {t u : S} (n : ℕ) → Going takes s block rest t → takes t (take n rest) u
      → Going takes s block (take (length rest - n) (drop n rest)) u
  going_step {block} {rest} n g h = record {
    told = g.told ++ take n rest;
    split = g.split ∙ ap (λ l. g.told ++ l) (sym (take-append-drop n rest) ∙ ap (λ l. take n rest ++ l) (sym (take_rest rest n))) ∙ sym (append_assoc g.told (take n rest) _);
    chain = more g.chain h;
  }

  pub going_end : {block rest : List ℕ} {t : S} → Going takes s block rest t → Chain takes s (take (length block - length rest) block) t
  going_end {block} {rest} {t} g =
      let e : length block ≡ length g.told + length rest = ap length g.split ∙ length-append g.told rest in
      let k : take (length block - length rest) block ≡ g.told = ap (take (length block - length rest)) g.split ∙ take_at g.told rest (length block - length rest) (omega arith) in
      subst (λ l. Chain takes s l t) (sym k) g.chain

-- ---- a read, and what is left of a block

-- what a read puts behind the octets that are held
pub read_behind : (block part : List ℕ) (held n : ℕ) → held ≤ length block → length part ≡ length block - held → n ≤ length part
    → take (held + n) (put_mid held (length block - held) block part) ≡ take held block ++ take n part
read_behind block part held n a b c =
    let l : length (take held block) ≡ held = length-take-le held block a in
    let rest : List ℕ = part ++ drop (length block - held) (drop held block) in
    ap (λ k. take (k + n) (take held block ++ rest)) (sym l) ∙ take-append-add (take held block) rest n
    ∙ ap (λ k. take held block ++ k) (take-append-le n part (drop (length block - held) (drop held block)) c)

pub reads : {E : Type 0} (a b : Option (List ℕ)) (block part : List ℕ) (held : ℕ) (r : Result ℕ E) → held ≤ length block → length part ≡ length block - held
    → ReadsAtMost r part → ReadConsumes a b r part
    → MatchResult r
    (λ n. (held + n ≤ length (put_mid held (length block - held) block part)) × ((read : List ℕ) × Consumes a b read
    × (take (held + n) (put_mid held (length block - held) block part) ≡ take held block ++ read))) (λ _. Keeps a b)
reads a b block part held (Ok n) w l h k =
    let m : length (put_mid held (length block - held) block part) ≡ held + length part + length (drop (length block - held) (drop held block)) =
    length-append (take held block) (part ++ drop (length block - held) (drop held block))
    ∙ omega (arith, length-take-le held block w, length-append part (drop (length block - held) (drop held block))) in
    (omega (arith, m), (take n part, k.0, read_behind block part held n w l h.0))
reads a b block part held (Err e) w l h k = k

-- what is moved to the front
pub rest_in_front : (block after : List ℕ) (from n : ℕ) → from ≤ n → n ≤ length block → after ≡ paste block 0 (drop from block) (n - from)
    → take (n - from) after ≡ drop from (take n block)
rest_in_front block after from n a b e =
    let h : n - from ≤ length (drop from block) = omega (arith, length-drop from block) in
    let z : 0 + (n - from) ≡ n - from = omega arith in
    let k : from + (n - from) ≡ n = omega arith in
    let p : take (n - from) (paste block 0 (drop from block) (n - from)) ≡ take (n - from) (drop from block) =
    ap (λ m. take m (paste block 0 (drop from block) (n - from))) (sym z) ∙ take-paste block 0 (drop from block) (n - from) (omega arith) h in
    ap (take (n - from)) e ∙ p ∙ sym (drop-take from (n - from) block) ∙ ap (λ m. drop from (take m block)) k

-- ---- a turn

module _ {S : Type 0} {takes : S → List ℕ → S → Type 0} {s : S} {before after : Option (List ℕ)} where
  -- nothing could be read
  pub passed_none : (front : List ℕ) → Keeps before after → Passed takes s front before s after front
  passed_none front k = record {
    told = [];
    read = [];
    chain = none;
    consumed = Consumes-kept before before after [] (Consumes-nil before) k;
    whole = append-nil front;
  }

  -- what was read and held is told as far as it was taken
  pub passed_told : {t : S} (front read block : List ℕ) (taken : ℕ) → Consumes before after read → block ≡ front ++ read → Chain takes s (take taken block) t
      → Passed takes s front before t after (drop taken block)
  passed_told front read block taken c e h = record {
    told = take taken block;
    read = read;
    chain = h;
    consumed = c;
    whole = sym e ∙ sym (take-append-drop taken block);
  }

-- two turns
pub passed_then : {S : Type 0} {takes : S → List ℕ → S → Type 0} {s t u : S} {a b c : Option (List ℕ)} {front held left : List ℕ}
    → Passed takes s front a t b held → Passed takes t held b u c left → Passed takes s front a u c left
passed_then {a = a} {b = b} {c = c} {front = front} {held = held} {left = left} p q = record {
  told = p.told ++ q.told;
  read = p.read ++ q.read;
  chain = Chain-append p.chain q.chain;
  consumed = Consumes-trans a b c p.read q.read p.consumed q.consumed;
  whole =
      sym (append_assoc front p.read q.read) ∙ ap (λ l. l ++ q.read) p.whole ∙ append_assoc p.told held q.read ∙ ap (λ l. p.told ++ l) q.whole
      ∙ sym (append_assoc p.told q.told left);
}

-- what a turn answers
pub some_rest : (left block : List ℕ) (b : Bool) (m : ℕ) (r : Option ℕ) → r ≡ then_some b m → m ≤ length block → left ≡ take m block
    → IfSome r (λ n. (n ≤ length block) × (left ≡ take n block))
some_rest left block true m r e h k = rw e (h, k)
some_rest left block false m r e h k = rw e tt
