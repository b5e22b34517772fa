-- TWO UNITS AND THE LINK BETWEEN THEM (01, "Link rules of demand 3"), at the level of messages: what travels, what each end writes down of a
-- dialogue, and what can happen. What a unit does is the rule book's (crate book); nothing about a unit is said anew here.
use Rattle.std.specs.Prelude.{Bool, true, false, List, [], ◌∷◌, ◌++◌, ℕ, suc, eqb, None, Option, Some}
use Rattle.octets.specs.Choice.{pick, both, either}
use Rattle.book.specs.Book.{Msg, Frame, msg, note, Reading, bad, good, Line, start, reply, dat, fin, fin_ok, cut, lost, success, failed, uncertain, Out, give, answer, ended, gone, seen, send, State, idle, single, multi, ending, assoc, Setup, Outcome, refused, done, ids_of, vet, on_request, on_end, late, on_tick, on_start, on_reply, on_dat, on_fin, on_fin_ok, on_abort}
use Rattle.book.specs.declared.Terms.{Terms}

-- ---------------------------------------------------------------- what an end writes down of a dialogue

-- How far an end has come toward the dialogue's end: `going`; `asked`, it sent 33; `granted`, it sent 33 and got 14 accepted; `turned`, it is the
-- starter and got 31 rejected; `broken`, there was an abort: it sent 35, or it got 15 or 16, or the provider aborted while it was in the dialogue.
pub data Fate : Type 0 where
  going asked granted turned broken : Fate

-- An end's log of one dialogue. "A message here is a frame with confirmation 0 or 1, given to a user by line 20 or 21; an answer is a line 22."
-- `handed`: the messages that this end handed to the link, in order. "'Handed to the link' means in line 30 or 32, so a kept frame isn't yet."
-- `given`: the messages that this end's user was given, in order.
-- `okays`: the identifiers that this end's user was told successful (line 22 with 0), in order.
pub record Log : Type 0 where
  pub handed : List Msg
  pub given : List Msg
  pub okays : List ℕ
  pub fate : Fate

unfoldable pub blank : Log
blank = record { handed = []; given = []; okays = []; fate = going }

-- 33 was sent
unfoldable pub ask : Fate → Fate
ask going = asked
ask asked = asked
ask granted = granted
ask turned = turned
ask broken = broken

-- 14 accepted came
unfoldable pub grant : Fate → Fate
grant going = going
grant asked = granted
grant granted = granted
grant turned = turned
grant broken = broken

-- 11 rejected came
unfoldable pub turn : Fate → Fate
turn going = turned
turn asked = asked
turn granted = granted
turn turned = turned
turn broken = broken

unfoldable pub log_fate : (Fate → Fate) → Log → Log
log_fate f l = record { handed = l.handed; given = l.given; okays = l.okays; fate = f l.fate }

unfoldable pub log_handed : Frame → Log → Log
log_handed (msg m) l = record { handed = l.handed ++ (m ∷ []); given = l.given; okays = l.okays; fate = l.fate }
log_handed (note k r i q b) l = l

unfoldable pub log_read : Reading → Log → Log
log_read (bad n) l = l
log_read (good f n) l = log_handed f l

unfoldable pub log_given : Msg → Log → Log
log_given m l = record { handed = l.handed; given = l.given ++ (m ∷ []); okays = l.okays; fate = l.fate }

unfoldable pub log_okay : (id : ℕ) → Log → Log
log_okay i l = record { handed = l.handed; given = l.given; okays = l.okays ++ (i ∷ []); fate = l.fate }

-- what an end writes down of a line that it sends, 30 to 35
unfoldable pub log_sent : Line → Log → Log
log_sent (start a None) l = l
log_sent (start a (Some f)) l = log_read f l
log_sent (reply a f) l = l
log_sent (dat f) l = log_read f l
log_sent fin l = log_fate ask l
log_sent (fin_ok a) l = l
log_sent (cut r) l = log_fate (λ f. broken) l
log_sent lost l = l

-- what it writes down of an output line, and of all output lines of a step
unfoldable pub log_out : Out → Log → Log
log_out (give a m) l = log_given m l
log_out (answer i success f) l = log_okay i l
log_out (answer i failed f) l = l
log_out (answer i uncertain f) l = l
log_out ended l = l
log_out (gone r) l = l
log_out (seen n) l = l
log_out (send k) l = log_sent k l

unfoldable pub log_all : List Out → Log → Log
log_all [] l = l
log_all (o ∷ os) l = log_all os (log_out o l)

-- what it writes down of a line that it hears, 10 to 16
unfoldable pub log_heard : Line → Log → Log
log_heard (start a f) l = l
log_heard (reply true f) l = l
log_heard (reply false f) l = log_fate turn l
log_heard (dat f) l = l
log_heard fin l = l
log_heard (fin_ok true) l = log_fate grant l
log_heard (fin_ok false) l = l
log_heard (cut r) l = log_fate (λ f. broken) l
log_heard lost l = log_fate (λ f. broken) l

-- an event that is written down by its output lines alone
unfoldable pub silent : Log → Log
silent l = l

-- the identifiers that some output lines answer: "an answer is a line 22"
unfoldable pub answers : List Out → List ℕ
answers [] = []
answers (give a m ∷ os) = answers os
answers (answer i k f ∷ os) = i ∷ answers os
answers (ended ∷ os) = answers os
answers (gone r ∷ os) = answers os
answers (seen n ∷ os) = answers os
answers (send k ∷ os) = answers os

-- ---------------------------------------------------------------- the pair

-- One direction of the link: the lines that travel, the next to arrive first, each with the number of its dialogue. Lines join at the back and are
-- delivered from the front: "Each direction keeps order, loses and repeats nothing."
abbrev pub Queue : Type 0
Queue = List (ℕ × Line)

-- An end: its unit's setup and state; the dialogue that it is in, or was last in when its unit is in Idle; `hung`, whether an abort has cut it off
-- from that dialogue and it hasn't heard (of no meaning in Idle; each dialogue begins with false); its logs, one a dialogue; the identifiers of all
-- confirmed transfers (02) that its unit took, and of all that its unit answered, both in order and over all dialogues.
pub data End : Type 0 where
  at : (setup : Setup) (state : State) (dialogue : ℕ) (hung : Bool) (logs : ℕ → Log) (accepted answered : List ℕ) → End

-- The near end, the far end, the lines toward the far end, the lines toward the near end, and the number of the next dialogue.
pub data World : Type 0 where
  world : (near far : End) (out inn : Queue) (next : ℕ) → World

-- The far end's view. What can happen is written once, for the near end.
unfoldable pub swap : World → World
swap (world a b out inn next) = world b a inn out next

unfoldable pub update : (ℕ → Log) → (dialogue : ℕ) → Log → ℕ → Log
update f d l n = pick (eqb n d) l (f n)

unfoldable pub busy : State → Bool
busy idle = false
busy (single T w t) = true
busy (multi T k t) = true
busy (ending T w t) = true
busy (assoc T w t) = true

-- "an end still in it": its unit is not in Idle, and the dialogue is d
unfoldable pub inside : (d : ℕ) → End → Bool
inside d (at s u n h f acc ans) = both (busy u) (eqb n d)

unfoldable pub near_inside : (d : ℕ) → World → Bool
near_inside d (world a b out inn next) = inside d a

unfoldable pub far_inside : (d : ℕ) → World → Bool
far_inside d (world a b out inn next) = inside d b

unfoldable pub near_state : World → State
near_state (world (at s u d h f acc ans) b out inn next) = u

unfoldable pub hang : End → End
hang (at s u n h f acc ans) = at s u n true f acc ans

-- ---------------------------------------------------------------- the near end sends

-- Edition 1 writes no extension fields; a later edition may. x says, for a frame that this step hands to the link, how many it adds.
abbrev pub Fields : Type 0
Fields = Frame → ℕ

abbrev pub no_fields : Fields
no_fields f = 0

unfoldable pub with_fields : (x : Fields) → Reading → Reading
with_fields x (bad n) = bad n
with_fields x (good f n) = good f (x f)

unfoldable pub extended : (x : Fields) → Line → Line
extended x (start a None) = start a None
extended x (start a (Some r)) = start a (Some (with_fields x r))
extended x (reply b None) = reply b None
extended x (reply b (Some r)) = reply b (Some (with_fields x r))
extended x (dat r) = dat (with_fields x r)
extended x fin = fin
extended x (fin_ok b) = fin_ok b
extended x (cut r) = cut r
extended x lost = lost

-- A line of dialogue d, the near end's, joins those toward the far end; of a hung end it doesn't. "Until that end hears or leaves, what it sends in
-- the dialogue is dropped."
unfoldable pub post : (d : ℕ) → Line → World → World
post d l (world (at s u n h f acc ans) b out inn next) = world (at s u n h f acc ans) b (pick h out (out ++ ((d, l) ∷ []))) inn next

-- "35 or a provider abort takes that dialogue's lines out of both directions"
unfoldable pub purge : (d : ℕ) → Queue → Queue
purge d [] = []
purge d (l ∷ q) = pick (eqb l.0 d) (purge d q) (l ∷ purge d q)

-- 35 of the near end, which leaves by it; `still`: the far end is still in the dialogue. "… and gives 15 or 16 to an end still in it, before
-- anything of a later one": 15 stands in front. From here until it hears or leaves, that end is hung.
unfoldable pub sever : (d reason : ℕ) → (still : Bool) → World → World
sever d r true (world a b out inn next) = world a (hang b) ((d, cut r) ∷ purge d out) (purge d inn) next
sever d r false (world a b out inn next) = world a b (purge d out) (purge d inn) next

-- The near end hands a line of its dialogue to the link. 35 acts on the link at once, of a hung end too, because an end leaves by it. (`lost` is
-- the provider's; no unit sends it.)
unfoldable pub carry : (x : Fields) (d : ℕ) → Line → World → World
carry x d (start a f) w = post d (extended x (start a f)) w
carry x d (reply a f) w = post d (extended x (reply a f)) w
carry x d (dat f) w = post d (extended x (dat f)) w
carry x d fin w = post d fin w
carry x d (fin_ok a) w = post d (fin_ok a) w
carry x d (cut r) w = sever d r (far_inside d w) w
carry x d lost w = w

-- Of a step's output lines, 30 to 35 go to the link, in order; the others are the user's.
unfoldable pub emit : (x : Fields) (d : ℕ) → List Out → World → World
emit x d [] w = w
emit x d (give a m ∷ os) w = emit x d os w
emit x d (answer i k f ∷ os) w = emit x d os w
emit x d (ended ∷ os) w = emit x d os w
emit x d (gone r ∷ os) w = emit x d os w
emit x d (seen n ∷ os) w = emit x d os w
emit x d (send l ∷ os) w = emit x d os (carry x d l w)

-- The near unit's outcome of an event in its dialogue, put into the world; a refusal changes nothing. `new`: the identifiers that the unit took
-- with the event; `heard`: what the log takes down of the event itself.
unfoldable pub act : (x : Fields) (new : List ℕ) (heard : Log → Log) → Outcome → World → World
act x new heard (refused n) w = w
act x new heard (done u os) (world (at s u₀ d h f acc ans) b out inn next) =
    emit x d os (world (at s u d h (update f d (log_all os (heard (f d)))) (acc ++ new) (ans ++ answers os)) b out inn next)

-- The same, of an event that takes the near end into another dialogue: `there` is the world with the end in it.
unfoldable pub act_there : (x : Fields) (new : List ℕ) (heard : Log → Log) → Outcome → (here there : World) → World
act_there x new heard (refused n) w v = w
act_there x new heard (done u os) w v = act x new heard (done u os) v

-- ---------------------------------------------------------------- 01 and 02 at the near end

-- The near end goes over to a dialogue of its own making, with a number not used before.
unfoldable pub fresh : World → World
fresh (world (at s u n h f acc ans) b out inn next) = world (at s u next false f acc ans) b out inn (suc next)

unfoldable pub is_start : Line → Bool
is_start (start a f) = true
is_start (reply a f) = false
is_start (dat f) = false
is_start fin = false
is_start (fin_ok a) = false
is_start (cut r) = false
is_start lost = false

-- a 30 travels in this direction
unfoldable pub start_comes : Queue → Bool
start_comes [] = false
start_comes (l ∷ q) = either (is_start l.1) (start_comes q)

-- A request with the rule book's outcome. In a dialogue it is an event of that dialogue. In Idle it begins one by 30, unless starts would cross:
-- "Starts cross when an end sends 30 while a 30 travels toward it." Runs are without crossing: a request that would cross is no step of a run.
unfoldable pub ask_with : (x : Fields) (new : List ℕ) (in-dialogue crosses : Bool) → Outcome → World → World
ask_with x new true c o w = act x new silent o w
ask_with x new false true o w = w
ask_with x new false false o w = act_there x new silent o w (fresh w)

-- the identifier of a confirmed transfer that is vetted
unfoldable pub asked_ids : Option Msg → List ℕ
asked_ids None = []
asked_ids (Some m) = ids_of m

unfoldable pub ask_near : (confirmed : Bool) (x : Fields) → Terms → Reading → World → World
ask_near c x a r (world (at s u d h f acc ans) b out inn next) =
    ask_with x (asked_ids (vet c r)) (busy u) (start_comes inn) (on_request c a r u) (world (at s u d h f acc ans) b out inn next)

-- ---------------------------------------------------------------- 03 and 04 at the near end

unfoldable pub end_near : World → World
end_near (world (at s u d h f acc ans) b out inn next) = act no_fields [] silent (on_end u) (world (at s u d h f acc ans) b out inn next)

unfoldable pub tick_near : World → World
tick_near (world (at s u d h f acc ans) b out inn next) =
    act no_fields [] silent (on_tick s (late s u) u) (world (at s u d h f acc ans) b out inn next)

-- ---------------------------------------------------------------- the near end hears

-- "30 at one end is 10 at the other, 31 is 11, 32 is 12, 33 is 13, 34 is 14"; 35 is 15, and the provider's abort 16
unfoldable pub on_line : Setup → Line → State → Outcome
on_line s (start a f) u = on_start s a f u
on_line s (reply a f) u = on_reply s a f u
on_line s (dat f) u = on_dat s f u
on_line s fin u = on_fin s u
on_line s (fin_ok a) u = on_fin_ok s a u
on_line s (cut r) u = on_abort s 0 u
on_line s lost u = on_abort s 1 u

-- "If both ends sent 33, each gets 14 accepted in place of the other's 33." An end in Ending has sent 33.
unfoldable pub as_heard : State → Line → Line
as_heard u (start a f) = start a f
as_heard u (reply a f) = reply a f
as_heard u (dat f) = dat f
as_heard idle fin = fin
as_heard (single T w t) fin = fin
as_heard (multi T k t) fin = fin
as_heard (ending T w t) fin = fin_ok true
as_heard (assoc T w t) fin = fin
as_heard u (fin_ok a) = fin_ok a
as_heard u (cut r) = cut r
as_heard u lost = lost

-- The near unit hears a line of its dialogue, which the queue no longer has.
unfoldable pub hear : (x : Fields) → Line → World → World
hear x l (world (at s u d h f acc ans) b out inn next) = act x [] (log_heard l) (on_line s l u) (world (at s u d h f acc ans) b out inn next)

-- The near end goes over to dialogue d, which the far end made.
unfoldable pub join : (d : ℕ) → World → World
join d (world (at s u n h f acc ans) b out inn next) = world (at s u d false f acc ans) b out inn next

-- 10 takes the near end into dialogue d.
unfoldable pub hear_start : (x : Fields) (d : ℕ) → Line → World → World
hear_start x d l (world (at s u n h f acc ans) b out inn next) =
    act_there x [] (log_heard l) (on_line s l u) (world (at s u n h f acc ans) b out inn next) (join d (world (at s u n h f acc ans) b out inn next))

-- A line of dialogue d comes to the near end: "an end that has left, by hearing or otherwise, hears no more of that dialogue".
unfoldable pub reach : (x : Fields) (d : ℕ) → Line → World → World
reach x d l w = pick (is_start l) (hear_start x d l w) (pick (near_inside d w) (hear x (as_heard (near_state w) l) w) w)

-- The next line toward the near end is delivered, if there is one.
unfoldable pub deliver_near : (x : Fields) → World → World
deliver_near x (world a b out [] next) = world a b out [] next
deliver_near x (world a b out (l ∷ inn) next) = reach x l.0 l.1 (world a b out inn next)

-- ---------------------------------------------------------------- the provider aborts the near end's dialogue

-- The dialogue's lines go, and 16 stands in front for an end still in it, "before anything of a later one".
unfoldable pub warn : (d : ℕ) (still : Bool) → Queue → Queue
warn d true q = (d, lost) ∷ purge d q
warn d false q = purge d q

-- an end still in it hangs, and writes down that there was an abort
unfoldable pub break_end : (d : ℕ) (still : Bool) → End → End
break_end d true (at s u n h f acc ans) = at s u n true (update f d (log_fate (λ k. broken) (f d))) acc ans
break_end d false a = a

-- the near end is in dialogue d; `still`: the far end is too
unfoldable pub break_both : (d : ℕ) (still : Bool) → World → World
break_both d still (world a b out inn next) = world (break_end d true a) (break_end d still b) (warn d still out) (warn d true inn) next

-- In Idle there is no dialogue to abort.
unfoldable pub break_near : World → World
break_near (world (at s u d h f acc ans) b out inn next) =
    pick (busy u) (break_both d (inside d b) (world (at s u d h f acc ans) b out inn next)) (world (at s u d h f acc ans) b out inn next)

-- ---------------------------------------------------------------- runs

-- What can happen at an end: a request, 01 or (true) 02; G-END, 03; a tick, 04; the next line toward it is delivered; the provider aborts its
-- dialogue. The two that can make a unit hand a frame to the link carry the number of that frame's extension fields.
pub data Act : Type 0 where
  request : (confirmed : Bool) (fields : Fields) (terms : Terms) → Reading → Act
  end tick abort : Act
  deliver : (fields : Fields) → Act

unfoldable pub do_near : Act → World → World
do_near (request c x a r) w = ask_near c x a r w
do_near end w = end_near w
do_near tick w = tick_near w
do_near abort w = break_near w
do_near (deliver x) w = deliver_near x w

pub data Side : Type 0 where
  near far : Side

unfoldable pub do_at : Side → Act → World → World
do_at near c w = do_near c w
do_at far c w = swap (do_near c (swap w))

-- a run: any events at the two ends, in any order
unfoldable pub run : List (Side × Act) → World → World
run [] w = w
run (c ∷ cs) w = run cs (do_at c.0 c.1 w)

-- both units in Idle, nothing on the way; dialogues are numbered from 1
unfoldable pub new_end : Setup → End
new_end s = at s idle 0 false (λ n. blank) [] []

unfoldable pub beginning : Setup → Setup → World
beginning s t = world (new_end s) (new_end t) [] [] 1
