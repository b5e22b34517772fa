-- How many octets and lines a list of output lines takes: line by line, and the answers made locally. Closed by induction on the list.
use Rattle.std.specs.Prelude.{None, Option, Some}
use Prim.Native.Nat.{ℕ, zero, suc, ◌+◌, ◌*◌, ◌≤◌}
use mathlib.Core.Bool.{Bool, true}
use mathlib.Core.List.{List, [], ◌∷◌, map, append-nil}
use native.Mathlib.Omega.{arith}
use lib.ListN.{length, length-append}
use Rattle.frame.proofs.WriterLaws.{encode_is}
use Rattle.book.specs.Book.{Body, Kind, ok, not_ok, unknown, note, Out, answer, seen, failed, uncertain, Setup, ack, ack_body, local, unsure, refuse_all, with_seen}
use Rattle.book.specs.View.{frame_octets, frame_message}
use Rattle.book.specs.Lines.{laid, line_of, laid_out}

-- at most n octets and k lines
pub record Within (os : List Out) (n k : ℕ) : Type 0 where
  pub size : length (laid_out os) ≤ n
  pub lines : length os ≤ k

pub nothing : Within [] 0 0
unfolding laid_out
nothing = record { size = omega arith; lines = omega arith }

-- a line of at most c octets, with its length in front
pub line : (o : Out) (c : ℕ) {os : List Out} {n k : ℕ} → length (line_of o) ≤ c → Within os n k → Within (o ∷ os) (2 + c + n) (1 + k)
unfolding laid_out
line o c {os} h w = record {
  size = omega (arith, w.size, length-append (line_of o) (laid (map line_of os)));
  lines = omega (arith, w.lines);
}

-- ---- a note made here

note_short : (k : Kind) (r : ℕ) (name : List ℕ) (m : Bool) (t : Option ℕ) → length name ≤ 32 →
    length (frame_octets (note k r None name (record { maintained = m; type = t; user_data = None }))) ≤ 38
unfolding frame_octets frame_message
note_short k r name m None h =
    rw (encode_is (frame_message (note k r None name (record { maintained = m; type = None; user_data = None }))), append-nil name) (omega arith)
note_short k r name m (Some t) h =
    rw (encode_is (frame_message (note k r None name (record { maintained = m; type = Some t; user_data = None }))), append-nil name) (omega arith)

module _ (s : Setup) (named : length s.name ≤ 32) where
  pub local_short : (m : Bool) (k : Kind) (i : ℕ) → length (frame_octets (local s m k i)) ≤ 38
  unfolding local
  local_short m k i = note_short k i s.name m None named

  pub ack_short : (i : ℕ) (b : Body) → length (frame_octets (ack s i b)) ≤ 38
  unfolding ack ack_body
  ack_short i b = note_short ok i s.name b.maintained b.type named

  -- the answers to all who wait, then the rest
  pub unsure_within : (m : Bool) (w : List ℕ) {rest : List Out} {n k : ℕ} → Within rest n k → Within (unsure s m w rest) (length w * 42 + n) (length w + k)
  unfolding unsure
  unsure_within m [] r = record { size = omega (arith, r.size); lines = omega (arith, r.lines) }
  unsure_within m (i ∷ w) {rest} r =
      let h = local_short m unknown i in
      let l = line (answer i uncertain (local s m unknown i)) 40 (omega arith) (unsure_within m w r) in
      record { size = omega (arith, l.size); lines = omega (arith, l.lines) }

  pub refuse_within : (w : List ℕ) {rest : List Out} {n k : ℕ} → Within rest n k → Within (refuse_all s w rest) (length w * 42 + n) (length w + k)
  unfolding refuse_all
  refuse_within [] r = record { size = omega (arith, r.size); lines = omega (arith, r.lines) }
  refuse_within (i ∷ w) {rest} r =
      let h = local_short true not_ok i in
      let l = line (answer i failed (local s true not_ok i)) 40 (omega arith) (refuse_within w r) in
      record { size = omega (arith, l.size); lines = omega (arith, l.lines) }

-- line 25 in front, if there are extensions
pub seen_within : (e : ℕ) {os : List Out} {n k : ℕ} → Within os n k → Within (with_seen e os) (5 + n) (1 + k)
unfolding with_seen
seen_within zero w = record { size = omega (arith, w.size); lines = omega (arith, w.lines) }
seen_within (suc e) w = line (seen (suc e)) 3 (omega arith) w
