-- The rule book's lines as the functions of this crate lay them.
-- No public contract speaks of this file, only contracts of functions inside a crate: a reader of 01 may skip it.
use Rattle.std.specs.Prelude.{ℕ, List, [], map, Bool, true, false, Some}
use Rattle.frame.specs.declared.Header.{Header}
use Rattle.book.specs.declared.Terms.{Terms}
use Rattle.book.specs.Book.{Msg, Frame, Setup, Outcome, first_contact, good, Out, State, idle, single, multi, ending, assoc, unsure, with_seen, waiting_of}
use Rattle.book.specs.Lines.{line_of}
use Rattle.book.specs.Picture.{setup_of, state_of, msg_in}
use Rattle.book.specs.declared.Unit.{Unit as Value}
use Rattle.book.specs.View.{frame_at}
use Rattle.said.specs.declared.Pen.{Pen}

abbrev pub said : List Out → List (List ℕ)
said os = map line_of os

-- before any line
abbrev pub fresh : Pen
fresh = record { at = 0; lines = 0 }

-- "multiShot single in state 1 and else maintained"
abbrev pub maintains : State → Bool
maintains idle = true
maintains (single a w t) = false
maintains (multi a k t) = true
maintains (ending a w t) = true
maintains (assoc a w t) = true

-- every waiting identifier of a unit answered uncertain
unfoldable pub doubts : Value → List (List ℕ)
doubts u = said (unsure (setup_of u) (maintains (state_of u)) (waiting_of (state_of u)) [])

-- line 25, where there are extension fields
unfoldable pub seen_lines : ℕ → List (List ℕ)
seen_lines n = said (with_seen n [])

-- the message of a frame that was read
unfoldable pub msg_at : List ℕ → Header → Msg
msg_at s h = msg_in (good (frame_at s h) 0)

-- 10 with a valid frame
unfoldable pub greeted : Setup → Terms → Frame → ℕ → Outcome
greeted s a f n = first_contact s a (Some (good f n))
