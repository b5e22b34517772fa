-- Lines as the code lays them: a head with its length in front, then a body. Closed by `then` of Puts, and the length computed.
use Rattle.std.specs.Prelude.{None, Option, Some}
use Prim.Native.Nat.{ℕ, zero, suc, ◌+◌, ◌<◌, ◌≤◌, ◌/◌, ◌%◌}
use mathlib.Core.Path.{◌≡◌, refl, ap, sym, ◌∙◌}
use mathlib.Core.Bool.{Bool}
use mathlib.Core.List.{List, [], ◌∷◌, ◌++◌, append_assoc, append-nil, map, map-append}
use native.Mathlib.Omega.{arith}
use native.Mathlib.Numerals.{add-one}
use lib.ListN.{length, take, get_or, length-append}
use lib.Seq.{sets, take-suc}
use Rattle.octets.specs.Put.{Put}
use Rattle.octets.proofs.Puts.{then, put_as}
use Rattle.octets.proofs.Puts as Puts
use Rattle.frame.specs.Message.{present}
use Rattle.frame.specs.Encoding.{weight, type_octets, first_octet}
use Rattle.frame.specs.Stripping.{bare_to}
use Rattle.frame.proofs.WriterLaws.{encode_is}
use Rattle.frame.proofs.BareLaws.{bare-length}
use Rattle.book.specs.View.{frame_octets, frame_message, kind_number, kind_for}
use Rattle.book.specs.Lines.{laid}
use Rattle.said.specs.Pens.{Laid}
use Rattle.said.specs.Notes.{note_frame, note_octets}
use Rattle.said.specs.declared.Pen.{Pen}
use Rattle.said.specs.declared.Note.{Note}

-- ---- lines after lines

pub laid-append : (a b : List (List ℕ)) → laid (a ++ b) ≡ laid a ++ laid b
laid-append [] b = refl
laid-append (l ∷ a) b = rw (laid-append a b, append_assoc)

pub and_then : {b0 b1 b2 : List ℕ} {p q r : Pen} {xs ys : List (List ℕ)} → Laid b0 p xs b1 q → Laid b1 q ys b2 r → Laid b0 p (xs ++ ys) b2 r
and_then {xs = xs} {ys = ys} l m = record {
  put = put_as (sym (laid-append xs ys)) (then l.put m.put);
  count = omega (arith, l.count, m.count, length-append xs ys);
}

pub laid_none : (b : List ℕ) (p : Pen) → Laid b p [] b p
laid_none b p = record { put = Puts.none b p.at; count = omega arith }

pub laid_as : {b a : List ℕ} {p q : Pen} {xs ys : List (List ℕ)} → xs ≡ ys → Laid b p xs a q → Laid b p ys a q
laid_as e l = rw e at l

-- ---- one line: a head with the line's length in front, then the rest of it

pub head_put : (head : List ℕ) (n at : ℕ) {b b1 a : List ℕ} {j r : ℕ} → length head + n < 65536 →
    Put b at ((length head + n) / 256 % 256 ∷ (length head + n) % 256 ∷ []) b1 j → Put b1 j head a r →
    Put b at ((length head + n) / 256 ∷ (length head + n) % 256 ∷ head) a r
head_put head n at h p q = let e : (length head + n) / 256 % 256 ≡ (length head + n) / 256 = omega arith in rw e at (then p q)

line_octets : (head body : List ℕ) (n : ℕ) → length body ≡ n → ((length head + n) / 256 ∷ (length head + n) % 256 ∷ head) ++ body ≡ laid ((head ++ body) ∷ [])
line_octets head body n e = let l : length (head ++ body) ≡ length head + n = omega (arith, length-append head body) in rw (l, append-nil)

pub line_made : (head body : List ℕ) (n lines : ℕ) (p : Pen) {b b1 a : List ℕ} {j r : ℕ} → length body ≡ n →
    Put b p.at ((length head + n) / 256 ∷ (length head + n) % 256 ∷ head) b1 j → Put b1 j body a r →
    Laid b p ((head ++ body) ∷ []) a (record { at = r; lines = p.lines + 1 })
line_made head body n lines p e x y = record { put = put_as (line_octets head body n e) (then x y); count = omega arith }

pub line_head : (head : List ℕ) (p : Pen) {b a : List ℕ} {r : ℕ} →
    Put b p.at ((length head + 0) / 256 ∷ (length head + 0) % 256 ∷ head) a r → Laid b p (head ∷ []) a (record { at = r; lines = p.lines + 1 })
line_head head p x = laid_as (ap (λ l. l ∷ []) (append-nil head)) (line_made head [] 0 0 p refl x (Puts.none _ _))

-- ---- a received frame without its extension fields

pub line_bare : (head s : List ℕ) (end : ℕ) (p : Pen) {b b1 a : List ℕ} {j : ℕ} → 1 ≤ end → end ≤ length s →
    Put b p.at ((length head + end) / 256 ∷ (length head + end) % 256 ∷ head) b1 j → a ≡ sets b1 j (bare_to s end) →
    Laid b p ((head ++ bare_to s end) ∷ []) a (record { at = j + end; lines = p.lines + 1 })
line_bare head s end p {j = j} h l x y =
    let n = bare-length s end h l in
    line_made head (bare_to s end) end 0 p n x (record { held = y; place = ap (λ k. j + k) (sym n) })

-- ---- a note

conf_back : (c : ℕ) → 2 ≤ c → c ≤ 4 → kind_number (kind_for c) ≡ c
conf_back zero h l = absurd (omega arith)
conf_back (suc zero) h l = absurd (omega arith)
conf_back (suc (suc zero)) h l = refl
conf_back (suc (suc (suc zero))) h l = refl
conf_back (suc (suc (suc (suc zero)))) h l = refl
conf_back (suc (suc (suc (suc (suc c))))) h l = absurd (omega arith)

-- its octets, field by field
note_at : (t : Option ℕ) (m : Bool) (c r : ℕ) (name : List ℕ) → 2 ≤ c → c ≤ 4 →
    note_octets (record { multi_shot = m; confirmation = c; message_type = t; reference = r }) name
    ≡ ((weight (present t) 64 + 24 + weight m 1) ∷ c ∷ []) ++ type_octets t ++ (r / 256 ∷ r % 256 ∷ length name ∷ name)
unfolding note_octets frame_octets frame_message first_octet
note_at None m c r name h l =
    encode_is (frame_message (note_frame (record { multi_shot = m; confirmation = c; message_type = None; reference = r }) name))
    ∙ rw (conf_back c h l, append-nil name)
note_at (Some t) m c r name h l =
    encode_is (frame_message (note_frame (record { multi_shot = m; confirmation = c; message_type = Some t; reference = r }) name))
    ∙ rw (conf_back c h l, append-nil name)

pub note_is : (n : Note) (name : List ℕ) → 2 ≤ n.confirmation → n.confirmation ≤ 4 → note_octets n name
    ≡ ((weight (present n.message_type) 64 + 24 + weight n.multi_shot 1) ∷ n.confirmation ∷ [])
    ++ type_octets n.message_type ++ (n.reference / 256 ∷ n.reference % 256 ∷ length name ∷ name)
note_is n name h l = note_at n.message_type n.multi_shot n.confirmation n.reference name h l

module _ (n : Note) (name : List ℕ) (letters shot : ℕ) (h : 2 ≤ n.confirmation) (l : n.confirmation ≤ 4) (e : length name ≡ letters) (m : letters ≤ 32)
    (f : shot ≡ weight n.multi_shot 1) {b b1 a : List ℕ} {i j r : ℕ} where
  pub note_plain : n.message_type ≡ None → n.reference < 65536 →
      Put b i ((24 + shot) ∷ n.confirmation ∷ n.reference / 256 ∷ n.reference % 256 ∷ letters % 256 ∷ []) b1 j → Put b1 j name a r →
      Put b i (note_octets n name) a r
  note_plain z k p q =
      let g : letters % 256 ≡ length name = omega arith in
      put_as (rw (g, f) (sym (note_is n name h l ∙ rw z))) (then p q)

  pub note_typed : (t : ℕ) → n.message_type ≡ Some t → n.reference < 65536 →
      Put b i ((88 + shot) ∷ n.confirmation ∷ t ∷ n.reference / 256 ∷ n.reference % 256 ∷ letters % 256 ∷ []) b1 j → Put b1 j name a r →
      Put b i (note_octets n name) a r
  note_typed t z k p q =
      let g : letters % 256 ≡ length name = omega arith in
      put_as (rw (g, f) (sym (note_is n name h l ∙ rw z))) (then p q)

pub note_length : (n : Note) (name : List ℕ) → 2 ≤ n.confirmation → n.confirmation ≤ 4 →
    length (note_octets n name) ≡ 5 + length (type_octets n.message_type) + length name
note_length n name h l =
    rw (note_is n name h l)
    (omega (arith, length-append (type_octets n.message_type) (n.reference / 256 ∷ n.reference % 256 ∷ length name ∷ name)))

pub line_note : (head : List ℕ) (n : Note) (name : List ℕ) (size : ℕ) (p : Pen) {b b1 a : List ℕ} {j r : ℕ} → 2 ≤ n.confirmation → n.confirmation ≤ 4 →
    size ≡ 5 + length (type_octets n.message_type) + length name →
    Put b p.at ((length head + size) / 256 ∷ (length head + size) % 256 ∷ head) b1 j → Put b1 j (note_octets n name) a r →
    Laid b p ((head ++ note_octets n name) ∷ []) a (record { at = r; lines = p.lines + 1 })
line_note head n name size p h l e x y = line_made head (note_octets n name) size 0 p (note_length n name h l ∙ sym e) x y

-- ---- the answers made locally

pub answers_more : (f : ℕ → List ℕ) (ids : List ℕ) (i : ℕ) → i < length ids → map f (take i ids) ++ (f (get_or ids i 0) ∷ []) ≡ map f (take (i + 1) ids)
answers_more f ids i h = rw (add-one, take-suc ids i 0 h, map-append f)
