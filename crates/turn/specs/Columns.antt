-- The columns of the turn table, as book's `takes` numbers them.
use Rattle.std.specs.Prelude.{ℕ}
use Rattle.turn.specs.declared.column.Column.{Column}
use Rattle.turn.specs.declared.column.Column.TheVariants.{Single, Multi, End, Tick, StartAsked, StartAnswered, Data, EndAsked, EndAnswered, Aborted, Dropped}

abbrev pub number_of : Column → ℕ
number_of Single = 0
number_of Multi = 1
number_of End = 2
number_of Tick = 3
number_of StartAsked = 4
number_of StartAnswered = 5
number_of Data = 6
number_of EndAsked = 7
number_of EndAnswered = 8
number_of Aborted = 9
number_of Dropped = 10
