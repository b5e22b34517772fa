-- WORKED RUNS of the pair: the promises of demand 3 are about something, and each link rule shows in a run. Closed by computation: a link that
-- breaks the rule does not compute to these.
use Rattle.std.specs.Prelude.{None, Some}
use Prim.Native.Nat.{ℕ}
use mathlib.Core.Path.{◌≡◌, refl}
use mathlib.Core.Bool.{Bool, true, false}
use mathlib.Core.List.{List, [], ◌∷◌, ◌++◌}
use Rattle.book.specs.declared.Terms.{Terms}
use Rattle.book.specs.Book.{Body, Msg, plain, sure, msg, good, start, reply, dat, fin, cut, lost, success, give, answer, seen, send, State, idle, single, multi, ending, assoc, Setup, done, ack}
use Rattle.book.specs.Book as Book
use Rattle.pair_laws.specs.Model.{going, asked, granted, turned, broken, Log, Queue, at, World, world, swap, Act, request, end, tick, abort, deliver, Side, near, far, run, beginning}
use Rattle.pair_laws.specs.Model as Model
use Rattle.pair_laws.specs.Statement.{in_order, answer_to_next}

-- ---- two units, messages, commands

abbrev G1 : Setup
G1 = record { name = 0x47 ∷ 0x31 ∷ []; start_limit = 2; end_limit = 2; inactivity_limit = 300 }

abbrev A9 : Setup
A9 = record { name = 0x41 ∷ 0x39 ∷ []; start_limit = 60; end_limit = 60; inactivity_limit = 300 }

abbrev terms : Terms
terms = record { class = 2; priority = 3; rer = 1 }

abbrev body : (maintained : Bool) → Body
body k = record { maintained = k; type = None; user_data = Some (0x4f ∷ 0x4b ∷ []) }

-- a load sheet to be confirmed, in a dialogue that is kept; a remark there that isn't to be confirmed; a single-shot report to be confirmed
abbrev sheet : (id : ℕ) → Msg
sheet i = sure i None None (body true)

abbrev remark : Msg
remark = plain None None None (body true)

abbrev report : (id : ℕ) → Msg
report i = sure i None None (body false)

abbrev ask_02 : (fields : ℕ) → Msg → Act
ask_02 x m = request true (λ f. x) terms (good (msg m) 0)

abbrev hears : (fields : ℕ) → Act
hears x = deliver (λ f. x)

abbrev ask_01 : (fields : ℕ) → Msg → Act
ask_01 x m = request false (λ f. x) terms (good (msg m) 0)

-- ---- what is seen of a world: of each end the state, its log of one dialogue, the identifiers it took and answered; and the lines on the way

pub data Party : Type 0 where
  party : State → Log → (took answered : List ℕ) → Party

pub data Shown : Type 0 where
  shown : (near far : Party) (out inn : Queue) → Shown

abbrev look : (dialogue : ℕ) → World → Shown
look n (world (at s u d h f acc ans) (at t v e k g acc' ans') out inn next) =
    shown (party u (f n) acc ans) (party v (g n) acc' ans') out inn

abbrev after : List (Side × Act) → World
after cs = run cs (beginning G1 A9)

-- ---- the runs; x and y: the extension fields in the near and the far unit's frames

-- The near end starts a dialogue: both are in Associated, the near end's sheet 7 is on the way.
abbrev opened : (x : ℕ) → List (Side × Act)
opened x = (near, ask_02 x (sheet 7)) ∷ (far, hears 0) ∷ (near, hears x) ∷ []

-- Sheets and confirmations go both ways, then a remark; the near end ends.
abbrev both_ways : (x y : ℕ) → List (Side × Act)
both_ways x y =
    opened x
    ++ ((far, ask_02 y (sheet 9)) ∷ (far, hears y) ∷ (near, hears x) ∷ (near, hears x) ∷ (far, hears y)
    ∷ (near, ask_01 x remark) ∷ (far, hears y) ∷ (near, end) ∷ (far, hears y) ∷ (near, hears x) ∷ [])

-- The provider aborts while sheets travel both ways; the far user, who doesn't know, asks for one more.
abbrev aborted : List (Side × Act)
aborted = opened 0 ++ ((far, ask_02 0 (sheet 9)) ∷ (near, abort) ∷ (far, ask_02 0 (sheet 10)) ∷ [])

-- Both ends send 33 at once.
abbrev doubled : List (Side × Act)
doubled = opened 0 ++ ((near, end) ∷ (far, end) ∷ (far, hears 0) ∷ (far, hears 0) ∷ [])

-- The near end ends, and its timer runs out while the far end's sheet is on the way: 35. It calls again, and the far end, who hasn't heard, sends.
abbrev timed_out : List (Side × Act)
timed_out =
    opened 0
    ++ ((far, ask_02 0 (sheet 9)) ∷ (near, end) ∷ (near, tick) ∷ (near, tick) ∷ (near, ask_02 0 (sheet 8)) ∷ (far, ask_02 0 (sheet 10)) ∷ [])

-- A single-shot report is given and its reply is on the way; the far end calls back at once, and then the provider aborts the first dialogue.
abbrev called_back : List (Side × Act)
called_back = (near, ask_02 0 (report 7)) ∷ (far, hears 0) ∷ (far, ask_02 0 (sheet 9)) ∷ (near, abort) ∷ []

pub record Examples : Type 0 where
  -- Each user has all that the other end handed over, each sheet was told successful, and the dialogue ended in order.
  pub goes_both_ways :
      look 1 (after (both_ways 0 0))
      ≡ shown
      (party idle (record { handed = sheet 7 ∷ remark ∷ []; given = sheet 9 ∷ []; okays = 7 ∷ []; fate = granted }) (7 ∷ []) (7 ∷ []))
      (party idle (record { handed = sheet 9 ∷ []; given = sheet 7 ∷ remark ∷ []; okays = 9 ∷ []; fate = going }) (9 ∷ []) (9 ∷ []))
      [] []
  pub ends_in_order : in_order granted going ≡ true
  -- Extension fields in the frames change nothing of that.
  pub fields_change_nothing : look 1 (after (both_ways 2 3)) ≡ look 1 (after (both_ways 0 0))
  -- They travel: the far unit reads 2 of them in the report and says so by line 25, the near unit 3 in the confirmation.
  pub fields_seen_far :
      answer_to_next (swap (after ((near, ask_02 2 (report 7)) ∷ [])))
      ≡ done idle (seen 2 ∷ give terms (report 7) ∷ send (reply false (Some (good (ack A9 7 (body false)) 0))) ∷ [])
  pub fields_seen_near :
      answer_to_next (after ((near, ask_02 2 (report 7)) ∷ (far, hears 3) ∷ []))
      ≡ done idle (seen 3 ∷ answer 7 success (ack A9 7 (body false)) ∷ [])
  pub report_confirmed :
      look 1 (after ((near, ask_02 2 (report 7)) ∷ (far, hears 3) ∷ (near, hears 0) ∷ []))
      ≡ shown
      (party idle (record { handed = report 7 ∷ []; given = []; okays = 7 ∷ []; fate = turned }) (7 ∷ []) (7 ∷ []))
      (party idle (record { handed = []; given = report 7 ∷ []; okays = []; fate = going }) [] [])
      [] []
  pub report_in_order : in_order turned going ≡ true
  -- After the provider's abort 16 is all that travels: the sheets are gone, and what the far end sent since was dropped.
  pub abort_clears :
      look 1 (after aborted)
      ≡ shown
      (party (assoc terms (7 ∷ []) 0) (record { handed = sheet 7 ∷ []; given = []; okays = []; fate = broken }) (7 ∷ []) [])
      (party (assoc terms (9 ∷ 10 ∷ []) 0) (record { handed = sheet 9 ∷ sheet 10 ∷ []; given = []; okays = []; fate = broken }) (9 ∷ 10 ∷ []) [])
      ((1, lost) ∷ []) ((1, lost) ∷ [])
  -- Both hear it, and answer all that waits; nothing was told successful.
  pub abort_answers :
      look 1 (after (aborted ++ ((near, hears 0) ∷ (far, hears 0) ∷ [])))
      ≡ shown
      (party idle (record { handed = sheet 7 ∷ []; given = []; okays = []; fate = broken }) (7 ∷ []) (7 ∷ []))
      (party idle (record { handed = sheet 9 ∷ sheet 10 ∷ []; given = []; okays = []; fate = broken }) (9 ∷ 10 ∷ []) (9 ∷ 10 ∷ []))
      [] []
  pub abort_not_in_order : in_order broken broken ≡ false
  -- Both sent 33. The far end, in Ending, was given the sheet without acknowledging it; the near end's 33 came to it as 14 accepted. The far end's
  -- 33 is on the way.
  pub doubled_half :
      look 1 (after doubled)
      ≡ shown
      (party (ending terms (7 ∷ []) 0) (record { handed = sheet 7 ∷ []; given = []; okays = []; fate = asked }) (7 ∷ []) [])
      (party idle (record { handed = []; given = sheet 7 ∷ []; okays = []; fate = granted }) [] [])
      [] ((1, fin) ∷ [])
  -- It comes to the near end as 14 accepted too, and the dialogue ended in order. The sheet was given, and answered (uncertain).
  pub doubled_whole :
      look 1 (after (doubled ++ ((near, hears 0) ∷ [])))
      ≡ shown
      (party idle (record { handed = sheet 7 ∷ []; given = []; okays = []; fate = granted }) (7 ∷ []) (7 ∷ []))
      (party idle (record { handed = []; given = sheet 7 ∷ []; okays = []; fate = granted }) [] [])
      [] []
  pub doubled_in_order : in_order granted granted ≡ true
  -- 35 took the first dialogue's lines out of both directions, and 15 comes before the second dialogue's 10; what the far end sent since was dropped.
  pub timer_cuts :
      look 1 (after timed_out)
      ≡ shown
      (party (multi terms (sheet 8) 0) (record { handed = sheet 7 ∷ []; given = []; okays = []; fate = broken }) (7 ∷ 8 ∷ []) (7 ∷ []))
      (party (assoc terms (9 ∷ 10 ∷ []) 0) (record { handed = sheet 9 ∷ sheet 10 ∷ []; given = []; okays = []; fate = going }) (9 ∷ 10 ∷ []) [])
      ((1, cut 2) ∷ (2, start terms None) ∷ []) []
  -- The far end hears both, and is in the second dialogue.
  pub timer_next :
      look 2 (after (timed_out ++ ((far, hears 0) ∷ (far, hears 0) ∷ (near, hears 0) ∷ (far, hears 0) ∷ [])))
      ≡ shown
      (party (assoc terms (8 ∷ []) 0) (record { handed = sheet 8 ∷ []; given = []; okays = []; fate = going }) (7 ∷ 8 ∷ []) (7 ∷ []))
      (party (assoc terms [] 0) (record { handed = []; given = sheet 8 ∷ []; okays = []; fate = going }) (9 ∷ 10 ∷ []) (9 ∷ 10 ∷ []))
      [] ((2, dat (good (ack A9 8 (body true)) 0)) ∷ [])
  -- The provider's abort takes the reply away and stands before the later dialogue's 30. The report was given, and its sender is never told so.
  pub abort_before_later :
      look 1 (after called_back)
      ≡ shown
      (party (single terms (7 ∷ []) 0) (record { handed = report 7 ∷ []; given = []; okays = []; fate = broken }) (7 ∷ []) [])
      (party (multi terms (sheet 9) 0) (record { handed = []; given = report 7 ∷ []; okays = []; fate = going }) (9 ∷ []) [])
      [] ((1, lost) ∷ (2, start terms None) ∷ [])
  pub later_taken :
      look 2 (after (called_back ++ ((near, hears 0) ∷ (near, hears 0) ∷ [])))
      ≡ shown
      (party (assoc terms [] 0) (record { handed = []; given = []; okays = []; fate = going }) (7 ∷ []) (7 ∷ []))
      (party (multi terms (sheet 9) 0) (record { handed = []; given = []; okays = []; fate = going }) (9 ∷ []) [])
      ((2, reply true None) ∷ []) []
  -- Starts that would cross are no step of a run.
  pub no_crossing : after ((near, ask_02 0 (sheet 7)) ∷ (far, ask_02 0 (sheet 9)) ∷ []) ≡ after ((near, ask_02 0 (sheet 7)) ∷ [])

pub examples : Examples
unfolding in_order answer_to_next Model.blank Model.ask Model.grant Model.turn Model.log_fate Model.log_handed Model.log_read Model.log_given Model.log_okay Model.log_sent Model.log_out Model.log_all Model.log_heard Model.silent Model.answers swap Model.update Model.busy Model.inside Model.near_inside Model.far_inside Model.near_state Model.hang Model.with_fields Model.extended Model.post Model.purge Model.sever Model.carry Model.emit Model.act Model.act_there Model.fresh Model.is_start Model.start_comes Model.ask_with Model.asked_ids Model.ask_near Model.end_near Model.tick_near Model.on_line Model.as_heard Model.hear Model.join Model.hear_start Model.reach Model.deliver_near Model.warn Model.break_end Model.break_both Model.break_near Model.do_near Model.do_at run Model.new_end beginning Book.same_terms Book.settled Book.ids_of Book.waiting_of Book.full Book.without_in Book.without Book.body_of Book.ack_body ack Book.local Book.unsure Book.refuse_all Book.with_seen Book.fall Book.quiet_fall Book.vet Book.bar_confirmed Book.bar Book.on_single Book.on_multi Book.on_shot Book.on_vetted Book.on_request Book.on_end Book.late Book.on_tick Book.greet Book.first_contact Book.on_start Book.result_of Book.single_result Book.answered_by Book.begun Book.on_reply Book.noted Book.left_waiting Book.on_dat Book.on_fin Book.on_fin_ok Book.on_abort
examples = record {
  goes_both_ways = refl;
  ends_in_order = refl;
  fields_change_nothing = refl;
  fields_seen_far = refl;
  fields_seen_near = refl;
  report_confirmed = refl;
  report_in_order = refl;
  abort_clears = refl;
  abort_answers = refl;
  abort_not_in_order = refl;
  doubled_half = refl;
  doubled_whole = refl;
  doubled_in_order = refl;
  timer_cuts = refl;
  timer_next = refl;
  abort_before_later = refl;
  later_taken = refl;
  no_crossing = refl;
}
