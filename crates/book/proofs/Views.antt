-- Messages and the rule book's frames are the same thing, said twice: each way gives back what went in. Closed by cases on the confirmation.
use Rattle.std.specs.Prelude.{None, Option, Some, Result, Ok, Err}
use Prim.Native.Nat.{ℕ, zero, suc, ◌≤◌, ◌<◌}
use native.Mathlib.Omega.{arith}
use mathlib.Core.Path.{◌≡◌, refl, ap, sym, ◌∙◌}
use mathlib.Core.Bool.{Bool, true, false}
use mathlib.Core.List.{List}
use lib.ListN.{length}
use Rattle.frame.specs.declared.Header.{Header}
use Rattle.frame.specs.declared.Fault.{Fault}
use Rattle.frame.specs.declared.Whole.{Whole}
use Rattle.frame.specs.Message.{Message, Extension, present, lacks}
use Rattle.frame.specs.Faults.{fault_number}
use Rattle.frame.specs.Encoding.{frame_of, valid_extensions}
use Rattle.frame.specs.Reading.{octet, reading_of}
use Rattle.frame.specs.Decoding.{Decoded, valid, fault, decode, message_at, octets_or}
use Rattle.frame.specs.Writing.{Allowed}
use Rattle.frame.specs.Stripping.{bare_to}
use Rattle.frame.proofs.WriterLaws.{Sound}
use Rattle.frame.proofs.Inversion.{Known, known}
use Rattle.frame.proofs.Laws as Laws
use Rattle.book.specs.Book.{Msg, plain, sure, ok, not_ok, unknown, Frame, msg, note, bad, good}
use Rattle.book.specs.View.{needed, body_in, viewed_as, viewed, frame_at, kind_for, heard, reading_in, msg_message, frame_message, msg_octets, frame_octets}
use Rattle.book.specs.Ready.{Reads}

no_way : {A : Type 0} → true ≡ false → A
no_way e = let z : ◌≡◌ {A = ℕ} 0 1 = cc in absurd (omega arith)

-- ---- from a frame to a message and back

pub view_back : (f : Frame) → viewed (frame_message f) ≡ f
unfolding viewed frame_message msg_message
view_back (msg (plain i r q b)) = refl
view_back (msg (sure i r q b)) = refl
view_back (note ok r i q b) = refl
view_back (note not_ok r i q b) = refl
view_back (note unknown r i q b) = refl

-- ---- from a message that 01 allows to a frame and back

message_at_lem : (c : ℕ) (b : Bool) (t : Option ℕ) (i r : Option ℕ) (q u : Option (List ℕ)) → c ≤ 4 → lacks c (present i) (present r) (present q) ≡ false →
    frame_message (viewed_as c (record { multi_shot = b; confirmation = c; message_type = t; message_identifier = i; message_reference = r; sender = q; user_data = u }))
    ≡ record { multi_shot = b; confirmation = c; message_type = t; message_identifier = i; message_reference = r; sender = q; user_data = u }
unfolding frame_message msg_message lacks
message_at_lem zero b t i r q u h l = refl
message_at_lem (suc zero) b t (Some i) r q u h l = refl
message_at_lem (suc zero) b t None r q u h l = no_way l
message_at_lem (suc (suc zero)) b t i (Some r) (Some q) u h l = refl
message_at_lem (suc (suc zero)) b t i (Some r) None u h l = no_way l
message_at_lem (suc (suc zero)) b t i None q u h l = no_way l
message_at_lem (suc (suc (suc zero))) b t i (Some r) (Some q) u h l = refl
message_at_lem (suc (suc (suc zero))) b t i (Some r) None u h l = no_way l
message_at_lem (suc (suc (suc zero))) b t i None q u h l = no_way l
message_at_lem (suc (suc (suc (suc zero)))) b t i (Some r) (Some q) u h l = refl
message_at_lem (suc (suc (suc (suc zero)))) b t i (Some r) None u h l = no_way l
message_at_lem (suc (suc (suc (suc zero)))) b t i None q u h l = no_way l
message_at_lem (suc (suc (suc (suc (suc c))))) b t i r q u h l = absurd (omega arith)

pub message_back : (m : Message) → Sound m → frame_message (viewed m) ≡ m
unfolding viewed
message_back m w =
    message_at_lem m.confirmation m.multi_shot m.message_type m.message_identifier m.message_reference m.sender m.user_data
    w.confirmation_low w.nothing_lacks

-- ---- octets that are written and read

-- what any edition writes of a frame that 01 allows is read as that frame
pub reads_frame : (f : Frame) (xs : List Extension) → Allowed (frame_message f) → valid_extensions xs ≡ true → length (frame_of (frame_message f) xs) ≤ 1024 →
    reading_in (frame_of (frame_message f) xs) ≡ good f (length xs)
unfolding reading_in
reads_frame f xs a v l = rw (Laws.extended (frame_message f) xs a v l) (ap (λ (g : Frame). good g (length xs)) (view_back f))

pub reads_octets : (f : Frame) → Allowed (frame_message f) → reading_in (frame_octets f) ≡ good f 0
unfolding reading_in frame_octets
reads_octets f a = rw (Laws.reads_back (frame_message f) a) (ap (λ (g : Frame). good g 0) (view_back f))

pub octets_short : (f : Frame) → Allowed (frame_message f) → length (frame_octets f) ≤ 554
unfolding frame_octets
octets_short f a = Laws.short (frame_message f) a

-- ---- a frame that was read by the code, as its header says

pub reads_made : (s : List ℕ) (v : Whole) {x : Result Whole Fault} → x ≡ reading_of s → x ≡ Ok v → ((i : ℕ) → octet s i < 256) → Reads s v.header v.extensions
reads_made s v q e small =
    let k = known s small v (sym q ∙ e) in
    record { reads = sym q ∙ e; small = small; few = k.few; two = k.two; within = k.within; short = k.short }

pub faulty_reading : (s : List ℕ) {x : Result Whole Fault} {f : Fault} → x ≡ reading_of s → x ≡ Err f → reading_in s ≡ bad (fault_number f)
unfolding reading_in decode
faulty_reading s q e = rw (sym q ∙ e)

pub whole_reading : (s : List ℕ) (v : Whole) {x : Result Whole Fault} → x ≡ reading_of s → x ≡ Ok v → reading_in s ≡ good (frame_at s v.header) v.extensions
unfolding reading_in decode
whole_reading s v q e = rw (sym q ∙ e)

module _ (s : List ℕ) (h : Header) {n : ℕ} (w : Reads s h n) where
  pub know : Known s h n
  know = known s w.small (record { header = h; extensions = n }) w.reads

  pub view_octets : frame_octets (frame_at s h) ≡ bare_to s h.end
  unfolding frame_octets
  view_octets = rw (message_back (message_at s h) know.sound) know.writes

-- ---- by confirmation

abbrev pub plain_in : Message → Msg
plain_in m = plain m.message_identifier m.message_reference m.sender (body_in m)

abbrev pub sure_in : Message → Msg
sure_in m = sure (needed m.message_identifier) m.message_reference m.sender (body_in m)

abbrev pub note_in : Message → Frame
note_in m = note (kind_for m.confirmation) (needed m.message_reference) m.message_identifier (octets_or m.sender) (body_in m)

note_at : (c : ℕ) (m : Message) → 2 ≤ c → viewed_as c m ≡ note (kind_for c) (needed m.message_reference) m.message_identifier (octets_or m.sender) (body_in m)
note_at zero m h = absurd (omega arith)
note_at (suc zero) m h = absurd (omega arith)
note_at (suc (suc zero)) m h = refl
note_at (suc (suc (suc zero))) m h = refl
note_at (suc (suc (suc (suc n)))) m h = refl

pub plain_view : (m : Message) → m.confirmation ≡ 0 → viewed m ≡ msg (plain_in m)
unfolding viewed
plain_view m e = ap (λ (c : ℕ). viewed_as c m) e

pub sure_view : (m : Message) → m.confirmation ≡ 1 → viewed m ≡ msg (sure_in m)
unfolding viewed
sure_view m e = ap (λ (c : ℕ). viewed_as c m) e

pub note_view : (m : Message) → 2 ≤ m.confirmation → viewed m ≡ note_in m
unfolding viewed
note_view m l = note_at m.confirmation m l

module _ (s : List ℕ) (h : Header) {n : ℕ} (w : Reads s h n) where
  pub plain_octets : h.confirmation ≡ 0 → msg_octets (plain_in (message_at s h)) ≡ bare_to s h.end
  unfolding frame_octets msg_octets frame_message message_at
  plain_octets c = ap frame_octets (sym (plain_view (message_at s h) c)) ∙ view_octets s h w

  pub sure_octets : h.confirmation ≡ 1 → msg_octets (sure_in (message_at s h)) ≡ bare_to s h.end
  unfolding frame_octets msg_octets frame_message message_at
  sure_octets c = ap frame_octets (sym (sure_view (message_at s h) c)) ∙ view_octets s h w

-- ---- a frame without extension fields is its own octets

read_valid : (s : List ℕ) (d : Decoded) (f : Frame) (n : ℕ) → ((i : ℕ) → octet s i < 256) → decode s ≡ d → heard d ≡ good f n →
    (Allowed (frame_message f)) × (n ≡ 0 → frame_octets f ≡ s)
unfolding frame_octets
read_valid s (fault k) f n small q e = let z : ◌≡◌ {A = ℕ} 0 1 = cc in absurd (omega arith)
read_valid s (valid m k) f n small q e =
    let g : viewed m ≡ f = cc in
    let j : k ≡ n = cc in
    let a = Laws.reads_allowed s small m k q in
    let b : frame_message f ≡ m = ap frame_message (sym g) ∙ message_back m (Rattle.frame.proofs.WriterLaws.sound m a) in
    (rw b a, λ z. rw b (Laws.writes_back s small m (q ∙ ap (valid m) (j ∙ z))))

-- a frame that was read is one that may be written, and without extension fields it is what was read
pub read_allowed : (s : List ℕ) (f : Frame) (n : ℕ) → ((i : ℕ) → octet s i < 256) → reading_in s ≡ good f n → Allowed (frame_message f)
unfolding reading_in
read_allowed s f n small e = (read_valid s (decode s) f n small refl e).0

pub read_whole : (s : List ℕ) (f : Frame) → ((i : ℕ) → octet s i < 256) → reading_in s ≡ good f 0 → frame_octets f ≡ s
unfolding reading_in
read_whole s f small e = (read_valid s (decode s) f 0 small refl e).1 refl
