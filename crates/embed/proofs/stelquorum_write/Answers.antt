-- `embed::stelquorum_write` meets its contract. Closed by FieldsLaws, one law for each way out.
use mathlib.Core.Path.{◌≡◌}
use mathlib.Core.Bool.{true, false}
use lib.ListN.{length}
use native.Mathlib.Omega.{arith}
use Rattle.octets.specs.Choice.{either}
use Rattle.frame.specs.Encoding.{encode}
use Rattle.frame.specs.Reading.{bit}
use Rattle.frame.specs.Writing.{refusal_of, Wrote}
use Rattle.embed.specs.Fields.{message_in}
use Rattle.embed.proofs.FieldsLaws.{message_is, write_short, write_stray, write_done, write_refused, write_small}
use Rattle.embed.proofs.stelquorum_write.Goals as goal
use Rattle.embed.proofs.stelquorum_write.Goals.{After-write, then-bit-via-then-bit, then-bit-via-else-bit+then-bit-2}

-- what the writer did, said of the message that the caller means
wrote : (c : After-write) → let a = c.args in let m = message_in a.flags a.confirmation a.message_type a.identifier a.reference a.sender.now a.«data».now in
    Wrote (refusal_of (length a.buffer.now) m) (encode m) a.buffer.now c.write.new.out c.write.result
wrote c =
    let a = c.args in
    rw (message_is a.flags a.confirmation a.message_type a.identifier a.reference a.sender a.«data» c.bit-2.ensures c.bit-3.ensures c.then_some.ensures
    c.bit-4.ensures c.then_some-2.ensures c.bit-5.ensures c.then_some-3.ensures c.bit-6.ensures c.then_some-4.ensures c.bit-7.ensures c.then_some-5.ensures)
    at c.write.ensures

clear : (c : After-write) → either (bit c.args.flags 128) (bit c.args.flags 2) ≡ false
clear c = rw (← c.bit.ensures, c.if-bit.false, ← c.bit-else-bit.ensures, c.if-bit-2.false)

pub returns-then-buffer-lt1024 : goal.returns-then-buffer-lt1024
returns-then-buffer-lt1024 c = write_short _ _ _ c.if-buffer-lt1024.true c.from.ensures c.refused.ensures

pub returns-then-bit : goal.returns-then-bit
returns-then-bit c =
    let t : either (bit c.args.flags 128) (bit c.args.flags 2) ≡ true =
    elim c.then-bit.branch [
      | then-bit-via-then-bit w ↦ rw (← c.bit.ensures, w.if-bit.true)
      | then-bit-via-else-bit+then-bit-2 w ↦ rw (← c.bit.ensures, w.if-bit.false, ← w.bit-else-bit.ensures, w.if-bit-2.true)
    ] in
    write_stray _ _ _ c.if-buffer-lt1024.false t c.from-then-bit.ensures c.refused-then-bit.ensures

pub overflow_cast-result : goal.overflow_cast-result
overflow_cast-result c =
    let d = (goal.at.overflow_cast-result c).After-write in
    let n = write_small _ _ _ _ (wrote d) c.in-Ok.is in
    record { fits = omega arith }

pub returns-in-Ok : goal.returns-in-Ok
returns-in-Ok c =
    let d = (goal.at.returns-in-Ok c).After-write in
    write_done _ _ _ c.if-buffer-lt1024.false (clear d) (wrote d) c.in-Ok.is

pub returns-in-Err : goal.returns-in-Err
returns-in-Err c =
    let d = (goal.at.returns-in-Err c).After-write in
    write_refused _ _ _ c.if-buffer-lt1024.false (clear d) (wrote d) c.in-Err.is c.from-in-Err.ensures c.refused-in-Err.ensures
