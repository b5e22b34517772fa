-- The column of an event in the turn table.
-- No public contract speaks of this file, only the law that the table and the rule book agree (proofs/EntryLaws): a reader of 01 may skip it.
use Rattle.std.specs.Prelude.{ℕ}
use Rattle.book.specs.declared.Event.{Event}
use Rattle.book.specs.declared.Event.TheVariants.{Malformed, Transfer, End, Tick, StartAsked, StartAnswered, Data, EndAsked, EndAnswered, Aborted, Dropped}

-- a request, and a malformed event, are not turned away there
abbrev pub column_of : Event → ℕ
column_of Malformed = 3
column_of (Transfer c a) = 3
column_of End = 2
column_of Tick = 3
column_of (StartAsked a) = 4
column_of (StartAnswered b) = 5
column_of Data = 6
column_of EndAsked = 7
column_of (EndAnswered b) = 8
column_of Aborted = 9
column_of Dropped = 10
