-- The user data of an event, which `user_data` shows.
use Rattle.std.specs.Prelude.{ℕ, List, [], drop, Result, Ok, Err}
use Rattle.frame.specs.declared.Whole.{Whole}
use Rattle.frame.specs.declared.Fault.{Fault}
use Rattle.frame.specs.Reading.{reading_of}
use Rattle.frame.specs.Decoding.{part_at}
use Rattle.book.specs.Events.{event_of, frame_from}

-- "can show the user data as the very octets of the received event"
abbrev pub data_of : List ℕ → Result Whole Fault → List ℕ
data_of f (Ok v) = part_at f v.header.user_data
data_of f (Err x) = []

unfoldable pub user_data_of : (event : List ℕ) → List ℕ
user_data_of ev = data_of (drop (frame_from (event_of ev)) ev) (reading_of (drop (frame_from (event_of ev)) ev))
