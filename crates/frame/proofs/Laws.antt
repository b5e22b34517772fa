-- THE LAWS OF THE FRAME, each in one line over `encode`, `decode`, `frame_of` and `bare`. Closed by RoundTrip and Inversion.
use Prim.Native.Nat.{ℕ, ◌≤◌, ◌<◌}
use native.Mathlib.Omega.{arith}
use mathlib.Core.List.{List, []}
use mathlib.Core.Bool.{true}
use mathlib.Core.Path.{◌≡◌, refl, ap, ◌∙◌}
use lib.ListN.{length}
use Rattle.std.specs.Prelude.{Result, Ok, Err}
use Rattle.frame.specs.declared.Fault.{Fault}
use Rattle.frame.specs.declared.Whole.{Whole}
use Rattle.frame.specs.Message.{Message, Extension}
use Rattle.frame.specs.Encoding.{frame_of, encode, valid_extensions}
use Rattle.frame.specs.Reading.{octet, reading_of}
use Rattle.frame.specs.Decoding.{valid, decode, shown, message_at}
use Rattle.frame.specs.Writing.{Allowed}
use Rattle.frame.specs.Stripping.{bare}
use Rattle.frame.proofs.WriterLaws.{sound, allowed}
use Rattle.frame.proofs.Inversion as Inversion
use Rattle.frame.proofs.RoundTrip as RoundTrip

-- octets, as a slice of the code has them
abbrev pub Small : List ℕ → Type 0
Small s = (i : ℕ) → octet s i < 256

-- A later edition's frame: adding extension fields within 1,024 octets changes no edition 1 field, and their number is given.
pub extended : (m : Message) (xs : List Extension) → Allowed m → valid_extensions xs ≡ true → length (frame_of m xs) ≤ 1024 →
    decode (frame_of m xs) ≡ valid m (length xs)
extended = RoundTrip.reads_back

-- "An edition 1 frame has at most 554 octets"
pub short : (m : Message) → Allowed m → length (encode m) ≤ 554
short m a = Inversion.short m (sound m a)

-- Writing a message that 01 allows and reading it back gives that message, with no extension fields.
pub reads_back : (m : Message) → Allowed m → decode (encode m) ≡ valid m 0
unfolding encode
reads_back m a = RoundTrip.reads_back m [] a refl (omega (arith, short m a))

-- ---- of a frame that was read

-- what was read, behind a message that was decoded
record Read (s : List ℕ) (m : Message) (n : ℕ) : Type 0 where
  whole : Whole
  reads : reading_of s ≡ Ok whole
  says : message_at s whole.header ≡ m
  many : whole.extensions ≡ n

read_inv : (s : List ℕ) (r : Result Whole Fault) (m : Message) (n : ℕ) → reading_of s ≡ r → shown s r ≡ valid m n → Read s m n
read_inv s (Ok w) m n q e = record { whole = w; reads = q; says = cc; many = cc }
read_inv s (Err f) m n q e = let z : ◌≡◌ {A = ℕ} 0 1 = cc in absurd (omega arith)

module _ (s : List ℕ) (small : Small s) (m : Message) (n : ℕ) (e : decode s ≡ valid m n) where
  read : Read s m n
  unfolding decode
  read = read_inv s (reading_of s) m n refl e

  known : Inversion.Known s read.whole.header read.whole.extensions
  known = Inversion.known s small read.whole read.reads

  -- a reader's message is one that the writer takes
  pub reads_allowed : Allowed m
  reads_allowed = rw (← read.says) (allowed (message_at s read.whole.header) known.sound)

  -- writing it gives the frame without extensions: bit 7 clear, the extension fields gone
  pub writes_bare : encode m ≡ bare s
  unfolding bare
  writes_bare = rw (← read.says, read.reads) known.writes

  -- 1,024 octets hold at most 511 extension fields
  pub few : n ≤ 511
  few = rw read.many at known.few

-- Reading an edition 1 frame and writing it gives those octets.
pub writes_back : (s : List ℕ) → Small s → (m : Message) → decode s ≡ valid m 0 → encode m ≡ s
writes_back s small m e =
    let r = read s small m 0 e in
    let k = known s small m 0 e in
    rw (← r.says) (k.writes ∙ k.whole r.many)

-- so an edition 1 frame has at most 554 octets, whoever wrote it
pub edition_short : (s : List ℕ) → Small s → (m : Message) → decode s ≡ valid m 0 → length s ≤ 554
edition_short s small m e = rw (ap length (writes_back s small m e)) at (short m (reads_allowed s small m 0 e))
