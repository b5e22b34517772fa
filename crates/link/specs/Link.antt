-- TWO UNITS AND A LINK (01, "Link rules of demand 3"), in octets: units of crate `unit` at their octet-level step, lines on their way, and what is
-- written down of each dialogue.
use Rattle.std.specs.Prelude.{ℕ, suc, List, [], ◌∷◌, ◌++◌, map, Bool, true, false, not, ltb, leb, eqb, drop, get_or, None, Option, Some}
use Rattle.octets.specs.Choice.{pick, both, either}
use Rattle.frame.specs.Message.{Message, Extension}
use Rattle.frame.specs.Decoding.{Decoded, valid, fault, decode}
use Rattle.book.specs.Book.{Outcome, refused, done}
use Rattle.book.specs.Lines.{line_of}
use Rattle.book.specs.Step.{step, turn_of}
use Rattle.book.specs.declared.Unit.{Unit as Value}
use Rattle.pair_laws.specs.Model.{Fate, going, broken, ask, grant, turn}
use Rattle.link.specs.Wire.{kind_of, octets, handed_over, arriving}

-- ---------------------------------------------------------------- what is written down of a dialogue, by end

-- `handed`: the frames with confirmation 0 or 1 that the unit handed to the link ("in line 30 or 32"), with what a later edition added; `given`:
-- those that its user was given ("by line 20 or 21"); `told`: those of its answers, lines 22, that say "successful delivery"; `fate`: how far the end
-- has come toward the dialogue's end: it goes on, it sent 33 (asked), it sent 33 and got 14 accepted (granted), as the starter it got 31 rejected
-- (turned), there was an abort (broken); pair_laws specs/Model has the type.
pub record Log : Type 0 where
  pub handed : List (List ℕ)
  pub given : List (List ℕ)
  pub told : List (List ℕ)
  pub fate : Fate

abbrev pub blank : Log
blank = record { handed = []; given = []; told = []; fate = going }

abbrev pub note_handed : List ℕ → Log → Log
note_handed f l = record { handed = l.handed ++ (f ∷ []); given = l.given; told = l.told; fate = l.fate }

abbrev pub note_given : List ℕ → Log → Log
note_given f l = record { handed = l.handed; given = l.given ++ (f ∷ []); told = l.told; fate = l.fate }

abbrev pub note_told : List ℕ → Log → Log
note_told f l = record { handed = l.handed; given = l.given; told = l.told ++ (f ∷ []); fate = l.fate }

abbrev pub note_fate : (Fate → Fate) → Log → Log
note_fate g l = record { handed = l.handed; given = l.given; told = l.told; fate = g l.fate }

-- "A message here is a frame with confirmation 0 or 1": octet 1
abbrev pub is_message : List ℕ → Bool
is_message f = ltb (get_or f 1 2) 2

abbrev pub note_message : List ℕ → Log → Log
note_message f l = pick (is_message f) (note_handed f l) l

-- a line that the unit gave out, as the link was handed it
unfoldable pub note_line : List ℕ → Log → Log
note_line line l =
    pick (either (eqb (kind_of line) 0x20) (eqb (kind_of line) 0x21)) (note_given (drop 4 line) l)
    (pick (eqb (kind_of line) 0x22) (pick (eqb (get_or line 1 1) 0) (note_told (drop 2 line) l) l)
    (pick (eqb (kind_of line) 0x30) (note_message (drop 4 line) l)
    (pick (eqb (kind_of line) 0x32) (note_message (drop 1 line) l)
    (pick (eqb (kind_of line) 0x33) (note_fate ask l)
    (pick (eqb (kind_of line) 0x35) (note_fate (λ f. broken) l) l)))))

abbrev pub note_lines : List (List ℕ) → Log → Log
note_lines [] l = l
note_lines (line ∷ ls) l = note_lines ls (note_line line l)

-- a line that the unit hears: 11 rejected, 14 accepted, 15, 16
unfoldable pub note_heard : List ℕ → Log → Log
note_heard ev l =
    pick (both (eqb (kind_of ev) 0x11) (eqb (get_or ev 1 0) 1)) (note_fate turn l)
    (pick (both (eqb (kind_of ev) 0x14) (eqb (get_or ev 1 1) 0)) (note_fate grant l)
    (pick (either (eqb (kind_of ev) 0x15) (eqb (kind_of ev) 0x16)) (note_fate (λ f. broken) l) l))

abbrev pub note_nothing : Log → Log
note_nothing l = l

-- ---- a frame's edition 1 fields, and identifiers

abbrev pub message_in : Decoded → Option Message
message_in (valid m n) = Some m
message_in (fault n) = None

-- "equal in every edition 1 field": the fields of a frame, whatever extension fields follow
unfoldable pub fields_in : List ℕ → Option Message
fields_in f = message_in (decode f)

abbrev pub listed : Option ℕ → List ℕ
listed None = []
listed (Some n) = n ∷ []

abbrev pub confirmed_in : Decoded → List ℕ
confirmed_in (valid m n) = pick (eqb m.confirmation 1) (listed m.message_identifier) []
confirmed_in (fault n) = []

abbrev pub reference_in : Decoded → List ℕ
reference_in (valid m n) = listed m.message_reference
reference_in (fault n) = []

-- the identifier of a confirmed message's frame
unfoldable pub identifier : List ℕ → List ℕ
identifier f = confirmed_in (decode f)

-- the identifier that an answer's frame names
unfoldable pub answers : List ℕ → List ℕ
answers f = reference_in (decode f)

-- of the confirmed transfer, 02, that an event is
unfoldable pub asks_for : List ℕ → List ℕ
asks_for ev = pick (eqb (kind_of ev) 0x02) (identifier (drop 4 ev)) []

-- of the answers, lines 22, among some lines
abbrev pub answers_in : List (List ℕ) → List ℕ
answers_in [] = []
answers_in (line ∷ ls) = pick (eqb (kind_of line) 0x22) (answers (drop 2 line)) [] ++ answers_in ls

-- what the frames of a list name, in order
abbrev pub named : (List ℕ → List ℕ) → List (List ℕ) → List ℕ
named g [] = []
named g (f ∷ fs) = g f ++ named g fs

-- ---------------------------------------------------------------- the pair and its link

-- lines on their way, each with its dialogue, as the end that they go to will hear them
abbrev pub Queue : Type 0
Queue = List (ℕ × List ℕ)

-- An end: its unit; the dialogue that it is in or was last in; whether the link has cut it off without its knowing; its log of each dialogue; and
-- the identifiers of all confirmed transfers that it accepted, and of all answers that its user was given.
pub data End : Type 0 where
  at : (unit : Value) (dialogue : ℕ) (hung : Bool) (logs : ℕ → Log) (accepted answered : List ℕ) → End

-- the near end, the far end, the lines toward the far end, those toward the near end, the next dialogue's number
pub data World : Type 0 where
  world : (near far : End) (out inn : Queue) (next : ℕ) → World

abbrev pub swap : World → World
swap (world a b out inn next) = world b a inn out next

abbrev pub update : (ℕ → Log) → ℕ → Log → ℕ → Log
update f d l n = pick (eqb n d) l (f n)

-- "takes that dialogue's lines out"
abbrev pub purge : ℕ → Queue → Queue
purge d [] = []
purge d (l ∷ q) = pick (eqb l.0 d) (purge d q) (l ∷ purge d q)

-- not in Idle
abbrev pub busy : Value → Bool
busy u = not (eqb u.state 0)

-- "an end still in it": not in Idle, and in this dialogue
abbrev pub inside : ℕ → End → Bool
inside d (at u n h f acc ans) = both (busy u) (eqb n d)

-- cut off, and not told yet
abbrev pub hang : End → End
hang (at u n h f acc ans) = at u n true f acc ans

-- A line joins the others: "Each direction keeps order, loses and repeats nothing." "Until that end hears or leaves, what it sends in the dialogue is
-- dropped."
abbrev pub post : ℕ → List ℕ → World → World
post d ev (world (at u n h f acc ans) b out inn next) = world (at u n h f acc ans) b (pick h out (out ++ ((d, ev) ∷ []))) inn next

-- 35: "takes that dialogue's lines out of both directions and gives 15 … to an end still in it, before anything of a later one"
abbrev pub sever : ℕ → (farIn : Bool) → World → World
sever d true (world a b out inn next) = world a (hang b) ((d, 0x15 ∷ []) ∷ purge d out) (purge d inn) next
sever d false (world a b out inn next) = world a b (purge d out) (purge d inn) next

abbrev pub far_inside : ℕ → World → Bool
far_inside d (world a b out inn next) = inside d b

-- a line that the near unit gave out, as the link was handed it: 30 to 34 go to the far end, 35 cuts, the others are its user's
unfoldable pub carry : ℕ → List ℕ → World → World
carry d line w =
    pick (both (leb 0x30 (kind_of line)) (leb (kind_of line) 0x34)) (post d (arriving line) w)
    (pick (eqb (kind_of line) 0x35) (sever d (far_inside d w) w) w)

abbrev pub carry_all : ℕ → List (List ℕ) → World → World
carry_all d [] w = w
carry_all d (line ∷ ls) w = carry_all d ls (carry d line w)

-- the lines of an outcome, as the link is handed them by an edition that adds the extension fields xs
abbrev pub lines_of : List Extension → Outcome → List (List ℕ)
lines_of xs (refused n) = []
lines_of xs (done st os) = map (λ o. handed_over xs (line_of o)) os

-- the near unit's outcome at an event in its dialogue, put into the world. `new`: the identifiers accepted with it; `heard`: what the log takes down
-- of the event itself. A refusal changes nothing.
unfoldable pub act : (xs : List Extension) (new : List ℕ) (heard : Log → Log) → Outcome → World → World
act xs new heard (refused n) w = w
act xs new heard (done st os) (world (at u d h f acc ans) b out inn next) =
    carry_all d (lines_of xs (done st os))
    (world (at (turn_of u (done st os)).unit d h (update f d (note_lines (lines_of xs (done st os)) (heard (f d)))) (acc ++ new) (ans ++ answers_in (lines_of xs (done st os)))) b out inn next)

-- the same, of an event that takes the near end into another dialogue: `there` is the world with the end in it
unfoldable pub act_there : (xs : List Extension) (new : List ℕ) (heard : Log → Log) → Outcome → (here there : World) → World
act_there xs new heard (refused n) w v = w
act_there xs new heard (done st os) w v = act xs new heard (done st os) v

-- ---- a user's event, or a tick

-- the near end goes over to a dialogue of its own making, with a number not used before
abbrev pub fresh : World → World
fresh (world (at u d h f acc ans) b out inn next) = world (at u next false f acc ans) b out inn (suc next)

-- a 30 travels in this direction: a 10 for the end that it goes to
abbrev pub start_comes : Queue → Bool
start_comes [] = false
start_comes (l ∷ q) = either (eqb (kind_of l.1) 0x10) (start_comes q)

-- A request, 01 or 02. In Idle it begins a dialogue, unless starts would cross: "Starts cross when an end sends 30 while a 30 travels toward it."
-- "starts don't cross": then it is no step of the run.
abbrev pub ask_with : List Extension → (new : List ℕ) (inDialogue crosses : Bool) → Outcome → World → World
ask_with xs new true c o w = act xs new note_nothing o w
ask_with xs new false true o w = w
ask_with xs new false false o w = act_there xs new note_nothing o w (fresh w)

-- 01 and 02; 03 and 04 hand no frame to the link
unfoldable pub ask_near : List Extension → (ev : List ℕ) → World → World
ask_near xs ev (world (at u d h f acc ans) b out inn next) =
    pick (leb (kind_of ev) 0x02)
    (ask_with xs (asks_for ev) (busy u) (start_comes inn) (step 1024 u ev) (world (at u d h f acc ans) b out inn next))
    (act [] [] note_nothing (step 1024 u ev) (world (at u d h f acc ans) b out inn next))

-- "In: 01 transfer and 02 confirmed transfer …; 03 G-END; 04 one tick": what comes from a user or the clock
abbrev pub from_user : List ℕ → Bool
from_user ev = both (octets ev) (both (leb 0x01 (kind_of ev)) (leb (kind_of ev) 0x04))

-- ---- the next line toward an end

-- "If both ends sent 33, each gets 14 accepted in place of the other's 33."
abbrev pub as_heard : Value → List ℕ → List ℕ
as_heard u ev = pick (both (eqb (kind_of ev) 0x13) (eqb u.state 3)) (0x14 ∷ 0x00 ∷ []) ev

abbrev pub hear : List Extension → List ℕ → World → World
hear xs ev (world (at u d h f acc ans) b out inn next) = act xs [] (note_heard ev) (step 1024 u ev) (world (at u d h f acc ans) b out inn next)

abbrev pub near_inside : ℕ → World → Bool
near_inside d (world a b out inn next) = inside d a

abbrev pub near_unit : World → Value
near_unit (world (at u d h f acc ans) b out inn next) = u

-- the near end goes over to dialogue d, which the far end made
abbrev pub join : ℕ → World → World
join d (world (at u n h f acc ans) b out inn next) = world (at u d false f acc ans) b out inn next

abbrev pub hear_start : List Extension → ℕ → List ℕ → World → World
hear_start xs d ev (world (at u n h f acc ans) b out inn next) =
    act_there xs [] (note_heard ev) (step 1024 u ev) (world (at u n h f acc ans) b out inn next) (join d (world (at u n h f acc ans) b out inn next))

-- "an end that has left, by hearing or otherwise, hears no more of that dialogue"
unfoldable pub reach : List Extension → ℕ → List ℕ → World → World
reach xs d ev w = pick (eqb (kind_of ev) 0x10) (hear_start xs d ev w) (pick (near_inside d w) (hear xs (as_heard (near_unit w) ev) w) w)

abbrev pub deliver_near : List Extension → World → World
deliver_near xs (world a b out [] next) = world a b out [] next
deliver_near xs (world a b out (l ∷ inn) next) = reach xs l.0 l.1 (world a b out inn next)

-- ---- a provider abort

-- "a provider abort takes that dialogue's lines out of both directions and gives … 16 to an end still in it, before anything of a later one"
abbrev pub break_end : ℕ → (isIn : Bool) → End → End
break_end d true (at u n h f acc ans) = at u n true (update f d (note_fate (λ k. broken) (f d))) acc ans
break_end d false a = a

abbrev pub warn : ℕ → (isIn : Bool) → Queue → Queue
warn d true q = (d, 0x16 ∷ []) ∷ purge d q
warn d false q = purge d q

abbrev pub break_both : ℕ → (farIn : Bool) → World → World
break_both d far (world a b out inn next) = world (break_end d true a) (break_end d far b) (warn d far out) (warn d true inn) next

-- of the near end's dialogue, where it is in one
unfoldable pub break_near : World → World
break_near (world (at u d h f acc ans) b out inn next) =
    pick (busy u) (break_both d (inside d b) (world (at u d h f acc ans) b out inn next)) (world (at u d h f acc ans) b out inn next)

-- ---------------------------------------------------------------- runs

-- What can happen at an end: an event of its user or its clock, the next line comes in, the provider aborts its dialogue. The extension fields are
-- what this edition adds to a frame that the step hands to the link.
pub data Act : Type 0 where
  user : (xs : List Extension) (event : List ℕ) → Act
  deliver : (xs : List Extension) → Act
  abort : Act

abbrev pub do_near : Act → World → World
do_near (user xs ev) w = pick (from_user ev) (ask_near xs ev w) w
do_near (deliver xs) w = deliver_near xs w
do_near abort w = break_near w

pub data Side : Type 0 where
  near far : Side

abbrev pub do_at : Side → Act → World → World
do_at near c w = do_near c w
do_at far c w = swap (do_near c (swap w))

unfoldable pub run : List (Side × Act) → World → World
run [] w = w
run (c ∷ cs) w = run cs (do_at c.0 c.1 w)

-- "two units just set up and joined by one link"
abbrev pub new_end : Value → End
new_end u = at u 0 false (λ n. blank) [] []

abbrev pub beginning : (near far : Value) → World
beginning u v = world (new_end u) (new_end v) [] [] 1
