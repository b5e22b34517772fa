-- DEMAND 3, as it is to be read; and two more statements about a pair: no delivered line is refused, and a success names a message that was given.
use Rattle.std.specs.Prelude.{◌≡◌, Bool, true, false, ℕ}
use mathlib.Core.List.{List, [], ◌∷◌, ◌++◌, Memᴰ}
use Rattle.octets.specs.Choice.{pick, both, either}
use Rattle.book.specs.declared.Refusal.TheVariants.{WrongState}
use Rattle.book.specs.Book.{Msg, ids_of, Out, State, idle, Setup, Outcome, refused, done}
use Rattle.pair_laws.specs.Model.{Fate, going, asked, granted, turned, broken, Log, Queue, at, World, world, swap, inside, is_start, on_line, as_heard, Side, Act, run, beginning}

-- The first list is a prefix of the second.
abbrev pub Prefix : {A : Type 0} → List A → List A → Type 0
Prefix {A} xs ys = (rest : List A) × (xs ++ rest ≡ ys)

-- The identifiers of the confirmed messages of a list, in order.
unfoldable pub ids : List Msg → List ℕ
ids [] = []
ids (m ∷ ms) = ids_of m ++ ids ms

-- ---------------------------------------------------------------- a dialogue that ended in order

-- What an end's fate tells: it sent 33; it got 14 accepted; as the starter it got 31 rejected; there was no abort at it.
unfoldable pub sent_end : Fate → Bool
sent_end going = false
sent_end asked = true
sent_end granted = true
sent_end turned = false
sent_end broken = false

unfoldable pub got_end : Fate → Bool
got_end going = false
got_end asked = false
got_end granted = true
got_end turned = false
got_end broken = false

unfoldable pub got_rejected : Fate → Bool
got_rejected going = false
got_rejected asked = false
got_rejected granted = false
got_rejected turned = true
got_rejected broken = false

unfoldable pub unbroken : Fate → Bool
unbroken going = true
unbroken asked = true
unbroken granted = true
unbroken turned = true
unbroken broken = false

abbrev pub implies : Bool → Bool → Bool
implies true b = b
implies false b = true

-- "A dialogue ended in order when, without abort, its starter got 31 rejected, or at least one end sent 33 and each that did got 14 accepted."
unfoldable pub in_order : (near far : Fate) → Bool
unfolding sent_end got_end got_rejected unbroken
in_order f g =
    both (both (unbroken f) (unbroken g))
    (either (either (got_rejected f) (got_rejected g))
    (both (either (sent_end f) (sent_end g)) (both (implies (sent_end f) (got_end f)) (implies (sent_end g) (got_end g)))))

abbrev pub InOrder : Fate → Fate → Type 0
InOrder f g = in_order f g ≡ true

-- ---------------------------------------------------------------- demand 3

-- What demand 3 says of one dialogue; `a` and `b` are the near end's and the far end's log of it.
-- Each user is given a prefix of what the other end handed to the link: nothing made up, doubled or out of order.
-- The successes told to a user are, in order, a prefix of the identifiers of the confirmed messages that the other user was given.
-- If the dialogue ended in order, each user was given all that the other end handed over.
pub record Good (a b : Log) : Type 0 where
  pub to_far : Prefix b.given a.handed
  pub to_near : Prefix a.given b.handed
  pub near_told : Prefix a.okays (ids b.given)
  pub far_told : Prefix b.okays (ids a.given)
  pub whole : InOrder a.fate b.fate → (b.given ≡ a.handed) × (a.given ≡ b.handed)

-- Demand 3 of a world: the above in each dialogue, by its number; and an end in Idle has answered each confirmed transfer that it took, exactly
-- once, in the order in which it took them.
pub data Demand3 : World → Type 0 where
  demand3 : {s t : Setup} {u v : State} {d e : ℕ} {h k : Bool} {f g : ℕ → Log} {acc ans acc' ans' : List ℕ} {out inn : Queue} {next : ℕ}
      (dialogues : (n : ℕ) → Good (f n) (g n))
      (near-answered : u ≡ idle → acc ≡ ans)
      (far-answered : v ≡ idle → acc' ≡ ans') →
      Demand3 (world (at s u d h f acc ans) (at t v e k g acc' ans') out inn next)

-- The theorem: demand 3 after every run, so at every moment of every run, for any two setups.
abbrev pub Theorem : Type 0
Theorem = (s t : Setup) (cs : List (Side × Act)) → Demand3 (run cs (beginning s t))

-- ---------------------------------------------------------------- no delivered line is refused

pub data Accepted : Outcome → Type 0 where
  accepted : {u : State} {os : List Out} → Accepted (done u os)

-- What the near unit says to the next line toward it. A line, other than 10, of a dialogue that the end has left counts as refused here.
unfoldable pub answer_to_next : World → Outcome
answer_to_next (world (at s u d h f acc ans) b out [] next) = done u []
answer_to_next (world (at s u d h f acc ans) b out (l ∷ inn) next) =
    pick (either (is_start l.1) (inside l.0 (at s u d h f acc ans))) (on_line s (as_heard u l.1) u) (refused WrongState)

-- After every run, at both ends: each line that the link delivers is taken, and none comes to an end that has left its dialogue.
abbrev pub AlwaysTaken : Type 0
AlwaysTaken =
    (s t : Setup) (cs : List (Side × Act)) →
    Accepted (answer_to_next (run cs (beginning s t))) × Accepted (answer_to_next (swap (run cs (beginning s t))))

-- ---------------------------------------------------------------- a success names a message

-- A confirmed message with identifier i is among ms.
abbrev pub Confirmed : (i : ℕ) → List Msg → Type 0
Confirmed i ms = (m : Msg) × Memᴰ m ms × (ids_of m ≡ i ∷ [])

-- the near end's and the far end's log of dialogue n
unfoldable pub near_log : (n : ℕ) → World → Log
near_log n (world (at s u d h f acc ans) b out inn next) = f n

unfoldable pub far_log : (n : ℕ) → World → Log
far_log n (world a (at s u d h f acc ans) out inn next) = f n

-- After every run, in every dialogue, both ways: where a user was told that i was successful, the other user has been given a confirmed message with
-- identifier i in that dialogue.
abbrev pub SuccessGiven : Type 0
SuccessGiven =
    (s t : Setup) (cs : List (Side × Act)) (n i : ℕ) →
    (Memᴰ i (near_log n (run cs (beginning s t))).okays → Confirmed i (far_log n (run cs (beginning s t))).given)
    × (Memᴰ i (far_log n (run cs (beginning s t))).okays → Confirmed i (near_log n (run cs (beginning s t))).given)
