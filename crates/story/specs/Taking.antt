-- What the program's session and its reader are after a call of `tell`: both were fed the octets that were taken, each with any room.
use Rattle.std.specs.Prelude.{◌≡◌, ℕ, List, length}
use Rattle.session.specs.Feeding as Session
use Rattle.words.specs.Feeding as Words
use Rattle.story.specs.declared.Story.{Story}

pub record Takes (s : Story) (told : List ℕ) (t : Story) : Type 0 where
  pub room : ℕ
  pub session : Session.standing t.session t.unit ≡ (Session.feeding (length told) room (Session.standing s.session s.unit) told).reader
  pub width : ℕ
  pub reader : Words.standing t.reader ≡ (Words.feeding (length told) width (Words.standing s.reader) told).reader
