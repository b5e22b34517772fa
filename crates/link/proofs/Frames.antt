-- A frame on its way: with any extension fields that a later edition adds it is read as the same message. Closed by the laws of the frame.
use Rattle.std.specs.Prelude.{Option, Some}
use Prim.Native.Nat.{ℕ, ◌+◌}
use mathlib.Core.Path.{◌≡◌, refl, ap, sym, ◌∙◌}
use mathlib.Core.Bool.{Bool, true, false}
use mathlib.Core.List.{List, [], ◌∷◌, ◌++◌, append-nil}
use native.Mathlib.Omega.{arith}
use borrow.Author.Tests.{leb-true}
use lib.Dec.{leb}
use lib.ListN.{length}
use Rattle.octets.specs.Choice.{pick, both}
use Rattle.frame.specs.Message.{Message, Extension, present}
use Rattle.frame.specs.Encoding.{weight, first_octet, type_octets, number_octets, sender_octets, data_octets, extension_octets, valid_extensions, frame_of, encode}
use Rattle.frame.specs.Decoding.{valid, decode}
use Rattle.frame.specs.Writing.{Allowed}
use Rattle.frame.proofs.Laws as Laws
use Rattle.book.specs.Book.{Body, Msg, plain, sure, Kind, ok, not_ok, unknown, Frame, msg, note, good, ids_of}
use Rattle.book.specs.View.{heard, reading_in, msg_message, frame_message, frame_octets}
use Rattle.book.specs.Step.{or_nothing}
use Rattle.book.proofs.Views.{view_back}
use Rattle.sound_laws.proofs.Within.{both_left, both_right}
use Rattle.link.specs.Wire.{octets, follow, extended}
use Rattle.link.specs.Link.{is_message, fields_in, identifier, answers}
use Rattle.link.proofs.Fine.{AllowedFrame}

-- ---- the octets of a frame, after the first two

abbrev rest : Message → List ℕ
rest m = type_octets m.message_type ++ number_octets m.message_identifier ++ number_octets m.message_reference ++ sender_octets m.sender ++ data_octets m.user_data

bare_is : (m : Message) → encode m ≡ first_octet false m ∷ (m.confirmation ∷ rest m)
unfolding encode frame_of
bare_is m = ap (λ l. first_octet false m ∷ (m.confirmation ∷ l)) (append-nil (rest m))

first_is : (m : Message) → first_octet true m ≡ 128 + first_octet false m
unfolding first_octet
first_is m =
    let a = weight (present m.message_type) 64 in
    let b = weight (present m.message_identifier) 32 in
    let c = weight (present m.message_reference) 16 in
    let d = weight (present m.sender) 8 in
    let e = weight (present m.user_data) 4 in
    let f = weight m.multi_shot 1 in
    sums a b c d e f
  where
    sums : (a b c d e f : ℕ) → 128 + a + b + c + d + e + f ≡ 128 + (0 + a + b + c + d + e + f)
    sums a b c d e f = omega arith

-- with extension fields, it is what any edition writes
follow_is : (xs : List Extension) (m : Message) → follow xs (encode m) ≡ frame_of m xs
unfolding frame_of encode
follow_is [] m = refl
follow_is (x ∷ xs) m = rw (first_is m, append-nil (rest m))

-- ---- and is read so

-- how many extension fields are added to a frame
abbrev pub added : List Extension → List ℕ → Bool
added xs f = both (valid_extensions xs) (both (octets (extension_octets xs)) (leb (length (follow xs f)) 1024))

unfoldable pub count : List Extension → Frame → ℕ
count xs f = pick (added xs (frame_octets f)) (length xs) 0

decode_extended : (xs : List Extension) (m : Message) → Allowed m → decode (extended xs (encode m)) ≡ valid m (pick (added xs (encode m)) (length xs) 0)
unfolding extended
decode_extended xs m a = go (added xs (encode m)) refl
  where
    go : (b : Bool) → b ≡ added xs (encode m) → decode (pick b (follow xs (encode m)) (encode m)) ≡ valid m (pick b (length xs) 0)
    go false e = Laws.reads_back m a
    go true e =
        let v = both_left (valid_extensions xs) (both (octets (extension_octets xs)) (leb (length (follow xs (encode m))) 1024)) (sym e) in
        let l = both_right (octets (extension_octets xs)) (leb (length (follow xs (encode m))) 1024)
        (both_right (valid_extensions xs) (both (octets (extension_octets xs)) (leb (length (follow xs (encode m))) 1024)) (sym e)) in
        let h = leb-true (length (follow xs (encode m))) 1024 l in
        rw (follow_is xs m) (Laws.extended m xs a v (rw (follow_is xs m) at h))

module _ (xs : List Extension) (f : Frame) (a : AllowedFrame f) where
  pub decodes : decode (extended xs (frame_octets f)) ≡ valid (frame_message f) (count xs f)
  unfolding frame_octets count
  decodes = decode_extended xs (frame_message f) a

  pub reads : reading_in (extended xs (frame_octets f)) ≡ good f (count xs f)
  unfolding reading_in
  reads = ap heard decodes ∙ ap (λ g. good g (count xs f)) (view_back f)

pub decodes_bare : (f : Frame) → AllowedFrame f → decode (frame_octets f) ≡ valid (frame_message f) 0
unfolding frame_octets
decodes_bare f a = Laws.reads_back (frame_message f) a

-- nothing stays nothing
pub none_extended : (xs : List Extension) → extended xs [] ≡ []
unfolding extended
none_extended [] = refl
none_extended (x ∷ xs) = go (added (x ∷ xs) [])
  where
    go : (b : Bool) → pick {A = List ℕ} b [] [] ≡ []
    go true = refl
    go false = refl

-- ---- its first two octets

record Opens (c : ℕ) (s : List ℕ) : Type 0 where
  first : ℕ
  more : List ℕ
  is : s ≡ first ∷ (c ∷ more)

opens_bare : (m : Message) → Opens m.confirmation (encode m)
opens_bare m = record { first = first_octet false m; more = rest m; is = bare_is m }

opens_follow : (xs : List Extension) (m : Message) → Opens m.confirmation (follow xs (encode m))
opens_follow [] m = opens_bare m
opens_follow (x ∷ xs) m = record { first = 128 + first_octet false m; more = rest m ++ extension_octets (x ∷ xs); is = rw (bare_is m) }

opens : (xs : List Extension) (m : Message) → Opens m.confirmation (extended xs (encode m))
unfolding extended
opens xs m = go (added xs (encode m))
  where
    go : (b : Bool) → Opens m.confirmation (pick b (follow xs (encode m)) (encode m))
    go true = opens_follow xs m
    go false = opens_bare m

opens_frame : (xs : List Extension) (f : Frame) → Opens (frame_message f).confirmation (extended xs (frame_octets f))
unfolding frame_octets
opens_frame xs f = opens xs (frame_message f)

-- it is a frame, and not nothing
pub spoken : (xs : List Extension) (f : Frame) → or_nothing (extended xs (frame_octets f)) ≡ Some (reading_in (extended xs (frame_octets f)))
spoken xs f = let o = opens_frame xs f in rw o.is

-- whether it is a message
pub message_is : (xs : List Extension) (m : Msg) → is_message (extended xs (frame_octets (msg m))) ≡ true
unfolding frame_message msg_message
message_is xs (plain i r q b) = let o = opens_frame xs (msg (plain i r q b)) in rw o.is
message_is xs (sure i r q b) = let o = opens_frame xs (msg (sure i r q b)) in rw o.is

pub note_is_none : (xs : List Extension) (k : Kind) (r : ℕ) (i : Option ℕ) (q : List ℕ) (b : Body) → is_message (extended xs (frame_octets (note k r i q b))) ≡ false
unfolding frame_message
note_is_none xs ok r i q b = let o = opens_frame xs (note ok r i q b) in rw o.is
note_is_none xs not_ok r i q b = let o = opens_frame xs (note not_ok r i q b) in rw o.is
note_is_none xs unknown r i q b = let o = opens_frame xs (note unknown r i q b) in rw o.is

-- ---- what it names

-- the edition 1 fields of a message's frame
pub fields_of_lem : (xs : List Extension) (m : Msg) → AllowedFrame (msg m) → fields_in (extended xs (frame_octets (msg m))) ≡ Some (msg_message m)
unfolding fields_in frame_message
fields_of_lem xs m a = rw (decodes xs (msg m) a)

pub fields_bare : (m : Msg) → AllowedFrame (msg m) → fields_in (frame_octets (msg m)) ≡ Some (msg_message m)
unfolding fields_in frame_message
fields_bare m a = rw (decodes_bare (msg m) a)

pub names_message : (m : Msg) → AllowedFrame (msg m) → identifier (frame_octets (msg m)) ≡ ids_of m
unfolding identifier frame_message msg_message ids_of
names_message (plain i r q b) a = rw (decodes_bare (msg (plain i r q b)) a)
names_message (sure i r q b) a = rw (decodes_bare (msg (sure i r q b)) a)

pub names_answer : (k : Kind) (r : ℕ) (i : Option ℕ) (q : List ℕ) (b : Body) → AllowedFrame (note k r i q b) → answers (frame_octets (note k r i q b)) ≡ r ∷ []
unfolding answers frame_message
names_answer k r i q b a = rw (decodes_bare (note k r i q b) a)
