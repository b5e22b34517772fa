-- DEMAND 3 OF EVERY RUN. Closed by induction on the run: the beginning keeps the invariant, each command keeps it, and it gives the demand.
use Rattle.std.specs.Prelude.{None, Option, Some}
use mathlib.Core.Path.{◌≡◌, refl}
use mathlib.Core.Bool.{Bool, true, false}
use mathlib.Core.List.{List, [], ◌∷◌}
use Prim.Native.Nat.{ℕ}
use native.Mathlib.Omega.{arith}
use Rattle.book.specs.declared.Refusal.{Refusal}
use Rattle.book.specs.declared.Refusal.TheVariants.{BadFrame}
use Rattle.book.specs.Book.{Msg, refused, vet, on_vetted, on_shot, on_request, body_of, State, waiting_of, bar, late, Setup}
use Rattle.book.specs.declared.Terms.{Terms}
use Rattle.pair_laws.specs.Model.{Fields, Log, Queue, End, ask_with, asked_ids, busy, start_comes, act, act_there, World, world, at, swap, Act, request, end, tick, abort, deliver, Side, near, far, do_near, do_at, run, new_end, beginning, ask_near, tick_near, blank}
use Rattle.pair_laws.specs.Statement.{Theorem}
use Rattle.pair_laws.proofs.Inv.{Inv, rested, resting, free}
use Rattle.pair_laws.proofs.Close.{inv_swap, demanded, good_blank}
use Rattle.pair_laws.proofs.StepEnd.{inv_end}
use Rattle.pair_laws.proofs.StepTick.{tick_at, inv_tick}
use Rattle.pair_laws.proofs.StepAsk.{shot, ask_at, inv_ask}
use Rattle.pair_laws.proofs.StepBreak.{inv_break}
use Rattle.pair_laws.proofs.StepHear.{inv_hear}

-- the rule book's answer to a vetted request, with the refusal that it meets in Associated as a parameter
shot_is : (k : Bool) (a : Terms) (m : Msg) (u : State) → on_shot k a m u ≡ shot (bar a m u) k a m u
unfolding on_shot shot
shot_is false a m u = refl
shot_is true a m u = refl

ask_refused : (x : Fields) (new : List ℕ) (i c : Bool) (n : Refusal) (w : World) → ask_with x new i c (refused n) w ≡ w
unfolding ask_with act act_there
ask_refused x new true c n w = refl
ask_refused x new false true n w = refl
ask_refused x new false false n w = refl

inv_vetted : (x : Fields) (a : Terms) (o : Option Msg) {s : Setup} {u : State} {d : ℕ} {h : Bool} {f : ℕ → Log} {acc ans : List ℕ} {b : End}
    {out inn : Queue} {next : ℕ} →
    Inv (world (at s u d h f acc ans) b out inn next) →
    Inv (ask_with x (asked_ids o) (busy u) (start_comes inn) (on_vetted a o u) (world (at s u d h f acc ans) b out inn next))
unfolding asked_ids on_vetted ask_at
inv_vetted x a None {u} {inn} i = rw (ask_refused x [] (busy u) (start_comes inn) BadFrame) i
inv_vetted x a (Some m) {u} i = rw (shot_is (body_of m).maintained a m u) (inv_ask (bar a m u) (body_of m).maintained x a m refl i)

pub inv_near : (c : Act) (w : World) → Inv w → Inv (do_near c w)
unfolding do_near ask_near tick_near tick_at on_request
inv_near (request c x a r) (world (at s u d h f acc ans) b out inn next) i = inv_vetted x a (vet c r) i
inv_near end w i = inv_end i
inv_near tick (world (at s u d h f acc ans) b out inn next) i = inv_tick (late s u) i
inv_near abort w i = inv_break i
inv_near (deliver x) w i = inv_hear x i

inv_at : (e : Side) (c : Act) (w : World) → Inv w → Inv (do_at e c w)
unfolding do_at
inv_at near c w i = inv_near c w i
inv_at far c w i = inv_swap (inv_near c (swap w) (inv_swap i))

inv_run : (cs : List (Side × Act)) (w : World) → Inv w → Inv (run cs w)
unfolding run
inv_run [] w i = i
inv_run (c ∷ cs) w i = inv_run cs (do_at c.0 c.1 w) (inv_at c.0 c.1 w i)

pub inv_beginning : (s t : Setup) → Inv (beginning s t)
unfolding beginning new_end waiting_of
inv_beginning s t =
    free {s = s} {t = t} {d = 0} {e = 0} {h = false} {i = false} {f = λ n. blank} {g = λ n. blank} {acc = []} {ans = []} {acc' = []} {ans' = []}
    {next = 1} {cl = []} {st = []} (rested good_blank) (resting (omega arith))
    (record { hist = λ n ne. good_blank; new = λ n ge. (refl, refl); below = omega arith }) (record { sum = refl }) (record { sum = refl })

pub inv_of_run : (s t : Setup) (cs : List (Side × Act)) → Inv (run cs (beginning s t))
inv_of_run s t cs = inv_run cs (beginning s t) (inv_beginning s t)

pub theorem : Theorem
theorem s t cs = demanded (inv_of_run s t cs)
