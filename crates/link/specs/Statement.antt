-- DEMAND 3: what the customer buys, of every run of two units and a link. The sentences are 01's and the demand's own.
use Rattle.std.specs.Prelude.{ℕ, ◌≡◌, Bool, true, false, List, [], ◌∷◌, map, eqb, length}
use Rattle.octets.specs.Choice.{pick, either}
use Rattle.book.specs.Book.{Outcome, refused, done}
use Rattle.book.specs.Sound.{within_limits}
use Rattle.book.specs.Step.{step, set_up}
use Rattle.pair_laws.specs.Statement.{Prefix, InOrder}
use Rattle.link.specs.Wire.{kind_of}
use Rattle.link.specs.Link.{Log, fields_in, identifier, answers, named, End, at, World, world, inside, as_heard, Queue, Side, Act, run, beginning}

-- What is promised of one dialogue; `a` and `b` are the near end's and the far end's log of it.
pub record Good (a b : Log) : Type 0 where
  -- (a) "in each dialogue the messages given to one user are a prefix of those the other unit handed to the link, equal in every edition 1 field"
  pub to_far : Prefix (map fields_in b.given) (map fields_in a.handed)
  pub to_near : Prefix (map fields_in a.given) (map fields_in b.handed)
  -- (b) "and all of them where the dialogue ended in order"
  pub whole : InOrder a.fate b.fate → (map fields_in b.given ≡ map fields_in a.handed) × (map fields_in a.given ≡ map fields_in b.handed)
  -- (c) "'Successful delivery' is said only of a confirmed message already given to the far user": the successes name, in order, the first confirmed
  -- messages that the far user was given. So the n-th success is of the n-th of them, though identifiers are used again.
  pub near_told : Prefix (named answers a.told) (named identifier b.given)
  pub far_told : Prefix (named answers b.told) (named identifier a.given)

-- (d) "Every accepted confirmed transfer has exactly one answer once its unit is Idle again": those accepted and those answered, in order, are the
-- same list.
abbrev pub Answered : End → Type 0
Answered (at u d h f acc ans) = u.state ≡ 0 → acc ≡ ans

abbrev pub log_of : End → ℕ → Log
log_of (at u d h f acc ans) = f

-- (e) The next line toward an end is taken by its unit: it is a start, or of the dialogue that the end is in, and it is not refused.
abbrev pub is_taken : Outcome → Bool
is_taken (refused n) = false
is_taken (done st os) = true

abbrev pub next_taken : End → Queue → Bool
next_taken e [] = true
next_taken (at u d h f acc ans) (l ∷ q) =
    pick (either (eqb (kind_of l.1) 0x10) (inside l.0 (at u d h f acc ans))) (is_taken (step 1024 u (as_heard u l.1))) false

-- all of it, of a world
pub data Demand3 : World → Type 0 where
  demand3 : {a b : End} {out inn : Queue} {next : ℕ}
      → (dialogues : (n : ℕ) → Good (log_of a n) (log_of b n))
      → (near-answered : Answered a) → (far-answered : Answered b)
      → (near-takes : next_taken a inn ≡ true) → (far-takes : next_taken b out ≡ true)
      → Demand3 (world a b out inn next)

-- "Take two units just set up and joined by one link …": after every run, so at every moment of every run
abbrev pub Theorem : Type 0
Theorem =
    (start end inactivity : ℕ) (name : List ℕ) → within_limits start end inactivity (length name) ≡ true
    → (start' end' inactivity' : ℕ) (name' : List ℕ) → within_limits start' end' inactivity' (length name') ≡ true
    → (cs : List (Side × Act)) → Demand3 (run cs (beginning (set_up start end inactivity name).unit (set_up start' end' inactivity' name').unit))
