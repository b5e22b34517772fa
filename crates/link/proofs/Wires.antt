-- A line on its way: the octets that an end will hear say to its unit what the rule book's line says. Closed by reading the event back, by cases on
-- the line.
use Rattle.std.specs.Prelude.{None, Option, Some}
use Prim.Native.Nat.{ℕ, suc}
use mathlib.Core.Path.{◌≡◌, refl, ap, ◌∙◌}
use mathlib.Core.Bool.{Bool, true, false}
use mathlib.Core.List.{List, [], ◌∷◌}
use native.Mathlib.Omega.{arith}
use borrow.Author.Tests.{ne_eqb, le-ltb, le-leb}
use lib.ListN.{length, drop}
use Rattle.frame.specs.Message.{Extension}
use Rattle.book.specs.declared.Terms.{Terms}
use Rattle.book.specs.declared.Event.TheVariants.{StartAsked, StartAnswered, Data}
use Rattle.book.specs.Book.{Frame, Reading, good, Line, start, reply, dat, fin, fin_ok, cut, lost, send, State, Setup}
use Rattle.book.specs.View.{reading_in, frame_octets}
use Rattle.book.specs.Lines.{line_of, accepted_number}
use Rattle.book.specs.Events.{event_of, terms_in, frame_from}
use Rattle.book.specs.Step.{or_nothing, does}
use Rattle.pair_laws.specs.Model as M
use Rattle.pair_laws.specs.Model.{broken, grant, turn}
use Rattle.sound_laws.proofs.Within.{Rated}
use Rattle.link.specs.Wire.{kind_of, extended, handed_over, arriving}
use Rattle.link.specs.Link.{Log, note_heard}
use Rattle.link.proofs.Fine.{AllowedFrame, fine, nothing, held, FineLine, starts, replies, dats, fins, fin_oks, cuts, Heard, whole, HeardHeld, silent, spoken}
use Rattle.link.proofs.Frames.{none_extended, count, reads}
use Rattle.link.proofs.Frames as Frames
use Rattle.link.proofs.Related.{RelLog, rel_fate}

-- ---- what is known of a line on its way

abbrev pub kind_in : Line → ℕ
kind_in (start a f) = 0x10
kind_in (reply b f) = 0x11
kind_in (dat f) = 0x12
kind_in fin = 0x13
kind_in (fin_ok b) = 0x14
kind_in (cut r) = 0x15
kind_in lost = 0x16

-- its frame is allowed, its terms are in range
abbrev pub HeardLine : Line → Type 0
HeardLine (start a f) = Rated a × HeardHeld f
HeardLine (reply b f) = HeardHeld f
HeardLine (dat f) = Heard f
HeardLine fin = Unit {0}
HeardLine (fin_ok b) = Unit {0}
HeardLine (cut r) = Unit {0}
HeardLine lost = Unit {0}

pub record Wire (ev : List ℕ) (l : Line) : Type 0 where
  pub kind : kind_of ev ≡ kind_in l
  -- what a unit says to it
  pub says : (s : Setup) (st : State) → does s (event_of ev) (drop (frame_from (event_of ev)) ev) st ≡ M.on_line s l st
  -- what is written down of it
  pub noted : (A : Log) (a : M.Log) → RelLog A a → RelLog (note_heard ev A) (M.log_heard l a)
  pub allowed : HeardLine l

-- ---- the events

start_event : (a : Terms) (h : List ℕ) → Rated a → event_of (0x10 ∷ (a.class ∷ (a.priority ∷ (a.rer ∷ h)))) ≡ StartAsked a
unfolding event_of terms_in
start_event a h r =
    rw (
      ne_eqb (suc (suc (suc (suc (length h))))) 0 (λ e. omega arith),
      le-ltb (suc (suc (suc (suc (length h))))) 4 (omega arith),
      le-leb 1 a.rer (omega (arith, r.low)),
      le-leb a.rer 2 (omega (arith, r.high)),
    )

reply_event : (b : Bool) (h : List ℕ) → event_of (0x11 ∷ (accepted_number b ∷ h)) ≡ StartAnswered b
unfolding event_of
reply_event true h = rw (ne_eqb (suc (suc (length h))) 0 (λ e. omega arith), le-ltb (suc (suc (length h))) 2 (omega arith))
reply_event false h = rw (ne_eqb (suc (suc (length h))) 0 (λ e. omega arith), le-ltb (suc (suc (length h))) 2 (omega arith))

data_event : (h : List ℕ) → event_of (0x12 ∷ h) ≡ Data
unfolding event_of
data_event h = rw (ne_eqb (suc (length h)) 0 (λ e. omega arith))

-- ---- the lines

pub wire_cut : (r : ℕ) → Wire (0x15 ∷ []) (cut r)
unfolding event_of does M.on_line note_heard M.log_heard
wire_cut r = record { kind = refl; says = λ s st. refl; noted = λ A a q. rel_fate q (λ f. broken); allowed = tt }

pub wire_lost : Wire (0x16 ∷ []) lost
unfolding event_of does M.on_line note_heard M.log_heard
wire_lost = record { kind = refl; says = λ s st. refl; noted = λ A a q. rel_fate q (λ f. broken); allowed = tt }

wire_fin : Wire (0x13 ∷ []) fin
unfolding event_of does M.on_line note_heard M.log_heard
wire_fin = record { kind = refl; says = λ s st. refl; noted = λ A a q. q; allowed = tt }

pub wire_fin_ok : (b : Bool) → Wire (0x14 ∷ (accepted_number b ∷ [])) (fin_ok b)
unfolding event_of does M.on_line note_heard M.log_heard
wire_fin_ok true = record { kind = refl; says = λ s st. refl; noted = λ A a q. rel_fate q grant; allowed = tt }
wire_fin_ok false = record { kind = refl; says = λ s st. refl; noted = λ A a q. q; allowed = tt }

wire_dat : (F : List ℕ) (r : Reading) → reading_in F ≡ r → Heard r → Wire (0x12 ∷ F) (dat r)
unfolding does M.on_line note_heard M.log_heard
wire_dat F r e h = record { kind = refl; says = λ s st. rw (data_event F, e); noted = λ A a q. q; allowed = h }

wire_start : (a : Terms) (H : List ℕ) (h : Option Reading) → Rated a → or_nothing H ≡ h → HeardHeld h
    → Wire (0x10 ∷ (a.class ∷ (a.priority ∷ (a.rer ∷ H)))) (start a h)
unfolding does M.on_line note_heard M.log_heard
wire_start a H h r e k = record { kind = refl; says = λ s st. rw (start_event a H r, e); noted = λ A b q. q; allowed = (r, k) }

wire_reply : (b : Bool) (H : List ℕ) (h : Option Reading) → or_nothing H ≡ h → HeardHeld h → Wire (0x11 ∷ (accepted_number b ∷ H)) (reply b h)
unfolding does M.on_line note_heard M.log_heard
wire_reply true H h e k = record { kind = refl; says = λ s st. rw (reply_event true H, e); noted = λ A b q. q; allowed = k }
wire_reply false H h e k = record { kind = refl; says = λ s st. rw (reply_event false H, e); noted = λ A b q. rel_fate q turn; allowed = k }

-- ---- a line that a unit sends, with any extension fields

held_reads : (xs : List Extension) (f : Frame) → AllowedFrame f → or_nothing (extended xs (frame_octets f)) ≡ Some (good f (count xs f))
held_reads xs f al = Frames.spoken xs f ∙ ap Some (reads xs f al)

abbrev pub is_cut : Line → Bool
is_cut (start a f) = false
is_cut (reply b f) = false
is_cut (dat f) = false
is_cut fin = false
is_cut (fin_ok b) = false
is_cut (cut r) = true
is_cut lost = false

pub wire_sent : (xs : List Extension) {l : Line} → FineLine l → is_cut l ≡ false → Wire (arriving (handed_over xs (line_of (send l)))) (M.extended (count xs) l)
unfolding handed_over M.extended M.with_fields
wire_sent xs (starts {a} r nothing) e = rw (none_extended xs) (wire_start a [] None r refl silent)
wire_sent xs (starts {a} r (held (fine {f} al))) e =
    wire_start a (extended xs (frame_octets f)) (Some (good f (count xs f))) r (held_reads xs f al) (spoken (whole al))
wire_sent xs (replies {b} nothing) e = rw (none_extended xs) (wire_reply b [] None refl silent)
wire_sent xs (replies {b} (held (fine {f} al))) e = wire_reply b (extended xs (frame_octets f)) (Some (good f (count xs f))) (held_reads xs f al) (spoken (whole al))
wire_sent xs (dats (fine {f} al)) e = wire_dat (extended xs (frame_octets f)) (good f (count xs f)) (reads xs f al) (whole al)
wire_sent xs fins e = wire_fin
wire_sent xs (fin_oks {b}) e = wire_fin_ok b
wire_sent xs cuts e = let z : ◌≡◌ {A = ℕ} 0 1 = cc in absurd (omega arith)
