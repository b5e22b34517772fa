-- What the code's small functions make of a unit: one move each.
-- Of public contracts only the moves of crate turn's `Held` speak of this file: a reader of 01 may skip it.
use Rattle.std.specs.Prelude.{ℕ, ◌+◌, ◌-◌, List, [], ◌∷◌, length, set, replicate, eqb}
use Rattle.octets.specs.Choice.{pick}
use Rattle.book.specs.Picture.{no_terms, padded}
use Rattle.book.specs.Waiting.{closed}
use Rattle.book.specs.declared.Terms.{Terms}
use Rattle.book.specs.declared.Unit.{Unit as Value}

-- the same dialogue, in another state or at another tick
unfoldable pub advanced : Value → (state elapsed : ℕ) → Value
advanced u s e = record {
  name = u.name;
  waiting = u.waiting;
  kept = u.kept;
  state = s;
  start = u.start;
  end = u.end;
  inactivity = u.inactivity;
  elapsed = e;
  terms = u.terms;
  letters = u.letters;
  count = u.count;
  octets = u.octets;
}

-- elapsed 0 in Associated, unchanged in Ending
unfoldable pub rested : Value → Value
rested u = advanced u u.state (pick (eqb u.state 4) 0 u.elapsed)

-- a new state with its terms: elapsed 0, nothing kept, the waiting list as it is
unfoldable pub entered : Value → (state : ℕ) → Terms → Value
entered u s a = record {
  name = u.name;
  waiting = u.waiting;
  kept = replicate 554 0;
  state = s;
  start = u.start;
  end = u.end;
  inactivity = u.inactivity;
  elapsed = 0;
  terms = a;
  letters = u.letters;
  count = u.count;
  octets = 0;
}

-- back in Idle: the setup stays, all else is 0
unfoldable pub cleared : Value → Value
cleared u = record {
  name = u.name;
  waiting = replicate 8 0;
  kept = replicate 554 0;
  state = 0;
  start = u.start;
  end = u.end;
  inactivity = u.inactivity;
  elapsed = 0;
  terms = no_terms;
  letters = u.letters;
  count = 0;
  octets = 0;
}

-- with these octets as the kept frame
unfoldable pub keeping : Value → List ℕ → Value
keeping u f = record {
  name = u.name;
  waiting = u.waiting;
  kept = padded 554 f;
  state = u.state;
  start = u.start;
  end = u.end;
  inactivity = u.inactivity;
  elapsed = u.elapsed;
  terms = u.terms;
  letters = u.letters;
  count = u.count;
  octets = length f;
}

-- with this waiting list
unfoldable pub waiting_with : Value → List ℕ → ℕ → Value
waiting_with u w n = record {
  name = u.name;
  waiting = w;
  kept = u.kept;
  state = u.state;
  start = u.start;
  end = u.end;
  inactivity = u.inactivity;
  elapsed = u.elapsed;
  terms = u.terms;
  letters = u.letters;
  count = n;
  octets = u.octets;
}

-- one more identifier waiting
abbrev pub appended : Value → (id : ℕ) → Value
appended u id = waiting_with u (set u.waiting u.count id) (u.count + 1)

-- without the waiting identifier at a place
abbrev pub removed : Value → (place : ℕ) → Value
removed u i = waiting_with u (closed u.waiting i) (u.count - 1)

-- these identifiers wait too: none, or one
abbrev pub joined : Value → List ℕ → Value
joined u [] = u
joined u (i ∷ w) = appended u i

-- a unit in Idle
abbrev pub made : (start end inactivity : ℕ) → (name : List ℕ) → (letters : ℕ) → Value
made start end inactivity name letters = record {
  name = name;
  waiting = replicate 8 0;
  kept = replicate 554 0;
  state = 0;
  start = start;
  end = end;
  inactivity = inactivity;
  elapsed = 0;
  terms = no_terms;
  letters = letters;
  count = 0;
  octets = 0;
}
