-- THE UNIT STAYS SOUND: a turn that is not refused makes a sound unit of a sound unit, and a setup within its limits makes one. Closed by cases on
-- the event, each by its rule.
use Prim.Native.Nat.{ℕ, zero, suc, ◌+◌, ◌<◌, ◌≤◌}
use mathlib.Core.Path.{◌≡◌, refl, ap, sym, ◌∙◌}
use mathlib.Core.Bool.{Bool, true, false}
use mathlib.Core.List.{List}
use native.Mathlib.Omega.{arith}
use borrow.Author.Tests.{leb-true}
use lib.Dec.{eqb, ltb, leb}
use lib.ListN.{length, drop, get_or}
use lib.Seq.{get_or-drop}
use Rattle.octets.specs.Choice.{pick, both}
use Rattle.frame.specs.Reading.{octet}
use Rattle.frame.specs.Writing.{Allowed}
use Rattle.book.specs.Sound.{sound_of, within_limits}
use Rattle.book.specs.declared.Refusal.TheVariants.{NoRoom, Unsound}
use Rattle.book.specs.Book.{Msg, Out, State, idle, multi, Setup, Outcome, refused, done}
use Rattle.book.specs.View.{reading_in, msg_message}
use Rattle.book.specs.Picture.{picture, setup_of, state_of, state_at, kept_of}
use Rattle.book.specs.Events.{event_of, by_kind, terms_in, with_terms, frame_from}
use Rattle.book.specs.Step.{does, step, or_nothing, set_up, turn_of}
use Rattle.book.specs.declared.Terms.{Terms}
use Rattle.book.specs.declared.Unit.{Unit as Value}
use Rattle.book.specs.declared.Event.{Event}
use Rattle.book.specs.declared.Event.TheVariants.{Malformed, Transfer, End, Tick, StartAsked, StartAnswered, Data, EndAsked, EndAnswered, Aborted, Dropped}
use Rattle.state.proofs.Sounds.{ready, kept_allowed}
use Rattle.sound_laws.proofs.Within.{Within, in_idle, Rated, Limited, Written, Positive, both_left, both_right, positive, pictures_sound, sound_within, sound_limited}
use Rattle.sound_laws.proofs.Rules.{Keeps, refuses, kept_state, keeps_request, keeps_end, keeps_tick, keeps_start, keeps_reply, keeps_dat, keeps_fin, keeps_fin_ok, keeps_abort}

-- ---- an event's terms are in range

data Fit : Event → Type 0 where
  malformed : Fit Malformed
  transfer : {c : Bool} {a : Terms} → a.rer ≤ 2 → Fit (Transfer c a)
  finish : Fit End
  tick : Fit Tick
  asked : {a : Terms} → Rated a → Fit (StartAsked a)
  answered : {b : Bool} → Fit (StartAnswered b)
  «data» : Fit Data
  end_asked : Fit EndAsked
  end_answered : {b : Bool} → Fit (EndAnswered b)
  aborted : Fit Aborted
  dropped : Fit Dropped

or_else : (b : Bool) {x y : Event} → Fit x → Fit y → Fit (pick b x y)
or_else true f g = f
or_else false f g = g

fit_if : (b : Bool) {x : Event} → (b ≡ true → Fit x) → Fit (pick b x Malformed)
fit_if true f = f refl
fit_if false f = malformed

fit_terms : (least : ℕ) (s : List ℕ) {e : Event} → (least ≤ get_or s 3 0 → get_or s 3 0 ≤ 2 → Fit e) → Fit (with_terms least s e)
fit_terms least s f =
    or_else (ltb (length s) 4) malformed
    (fit_if (both (leb least (get_or s 3 0)) (leb (get_or s 3 0) 2))
    (λ q. f (leb-true least (get_or s 3 0) (both_left (leb least (get_or s 3 0)) (leb (get_or s 3 0) 2) q))
    (leb-true (get_or s 3 0) 2 (both_right (leb least (get_or s 3 0)) (leb (get_or s 3 0) 2) q))))

fit_transfer : (c : Bool) (s : List ℕ) → Fit (with_terms 0 s (Transfer c (terms_in s)))
unfolding terms_in
fit_transfer c s = fit_terms 0 s {e = Transfer c (terms_in s)} (λ l h. transfer h)

fit_asked : (s : List ℕ) → Fit (with_terms 1 s (StartAsked (terms_in s)))
unfolding terms_in
fit_asked s = fit_terms 1 s {e = StartAsked (terms_in s)} (λ l h. asked (record { low = l; high = omega arith }))

fit_kind : (k : ℕ) (s : List ℕ) → Fit (by_kind k s)
fit_kind k s =
    or_else (eqb k 0x01) (fit_transfer false s)
    (or_else (eqb k 0x02) (fit_transfer true s)
    (or_else (eqb k 0x03) (or_else (eqb (length s) 1) finish malformed)
    (or_else (eqb k 0x04) (or_else (eqb (length s) 1) tick malformed)
    (or_else (eqb k 0x10) (fit_asked s)
    (or_else (eqb k 0x11) (or_else (ltb (length s) 2) malformed (or_else (ltb (get_or s 1 0) 2) answered malformed))
    (or_else (eqb k 0x12) «data»
    (or_else (eqb k 0x13) (or_else (eqb (length s) 1) end_asked malformed)
    (or_else (eqb k 0x14) (or_else (eqb (length s) 2) (or_else (ltb (get_or s 1 0) 2) end_answered malformed) malformed)
    (or_else (eqb k 0x15) (or_else (eqb (length s) 1) aborted malformed)
    (or_else (eqb k 0x16) (or_else (eqb (length s) 1) dropped malformed) malformed))))))))))

fit : (s : List ℕ) → Fit (event_of s)
unfolding event_of
fit s = or_else (eqb (length s) 0) malformed (fit_kind (get_or s 0 0) s)

-- ---- the rule book keeps the state within its limits

keeps_all : (s : Setup) → Positive s → (e : Event) (f : List ℕ) (st : State) → Fit e → ((i : ℕ) → octet f i < 256) → Within s st → Keeps s (does s e f st)
unfolding does
keeps_all s p Malformed f st q h w = refuses
keeps_all s p (Transfer c a) f st (transfer r) h w = keeps_request s p c a f st h r w
keeps_all s p End f st q h w = keeps_end s p st w
keeps_all s p Tick f st q h w = keeps_tick s p st w
keeps_all s p (StartAsked a) f st (asked r) h w = keeps_start s p a (or_nothing f) st r
keeps_all s p (StartAnswered b) f st q h w = keeps_reply s p b (or_nothing f) st w
keeps_all s p Data f st q h w = keeps_dat s p (reading_in f) st w
keeps_all s p EndAsked f st q h w = keeps_fin s p st
keeps_all s p (EndAnswered b) f st q h w = keeps_fin_ok s p b st w
keeps_all s p Aborted f st q h w = keeps_abort s p 0 st
keeps_all s p Dropped f st q h w = keeps_abort s p 1 st

-- ---- a sound unit's state is within its limits

written_at : (u : Value) → sound_of u ≡ true → length u.name ≡ 32 → length u.waiting ≡ 8 → length u.kept ≡ 554 → ((i : ℕ) → get_or u.kept i 0 < 256)
    → (n : ℕ) → u.state ≡ n → (a : Terms) (k : Msg) (t : ℕ) → state_at n u ≡ multi a k t → Allowed (msg_message k)
written_at u s l₁ l₂ l₃ h zero e a k t q = let z : ◌≡◌ {A = ℕ} 0 1 = cc in absurd (omega arith)
written_at u s l₁ l₂ l₃ h (suc zero) e a k t q = let z : ◌≡◌ {A = ℕ} 0 1 = cc in absurd (omega arith)
written_at u s l₁ l₂ l₃ h (suc (suc zero)) e a k t q =
    let g : kept_of u ≡ k = cc in
    rw g at (kept_allowed u s l₁ l₂ l₃ h e)
written_at u s l₁ l₂ l₃ h (suc (suc (suc zero))) e a k t q = let z : ◌≡◌ {A = ℕ} 0 1 = cc in absurd (omega arith)
written_at u s l₁ l₂ l₃ h (suc (suc (suc (suc n)))) e a k t q = let z : ◌≡◌ {A = ℕ} 0 1 = cc in absurd (omega arith)

module _ (u : Value) (s : sound_of u ≡ true) (wide : length u.name ≡ 32) (eight : length u.waiting ≡ 8) (long : length u.kept ≡ 554)
    (small : (i : ℕ) → get_or u.kept i 0 < 256) where
  written_state : Written (state_of u)
  unfolding state_of
  written_state = record { written = written_at u s wide eight long small u.state refl }

  picture_sound : sound_of (picture (setup_of u) (state_of u)) ≡ true
  picture_sound = ap sound_of (sym (ready u s wide eight long small).whole) ∙ s

  pub unit_limited : Limited (setup_of u)
  unit_limited = sound_limited (setup_of u) (state_of u) picture_sound

  pub unit_within : Within (setup_of u) (state_of u)
  unit_within = sound_within (setup_of u) (state_of u) written_state picture_sound

-- ---- the theorems

keeps_pick : (s : Setup) (b : Bool) {x y : Outcome} → Keeps s x → Keeps s y → Keeps s (pick b x y)
keeps_pick s true k l = k
keeps_pick s false k l = l

small_rest : (n : ℕ) (s : List ℕ) → ((i : ℕ) → octet s i < 256) → (i : ℕ) → octet (drop n s) i < 256
small_rest n s h i = rw (get_or-drop n s i 0) (h (n + i))

-- a turn makes a sound unit of a sound unit
pub kept : (room : ℕ) (u : Value) (ev : List ℕ) (st : State) (os : List Out) → sound_of u ≡ true → length u.name ≡ 32 → length u.waiting ≡ 8
    → length u.kept ≡ 554 → ((i : ℕ) → get_or u.kept i 0 < 256) → ((i : ℕ) → octet ev i < 256) → step room u ev ≡ done st os
    → sound_of (picture (setup_of u) st) ≡ true
unfolding step
kept room u ev st os s wide eight long small h e =
    let c = setup_of u in
    let o = unit_limited u s wide eight long small in
    let f = drop (frame_from (event_of ev)) ev in
    let k = keeps_all c (positive c o) (event_of ev) f (state_of u) (fit ev) (small_rest (frame_from (event_of ev)) ev h) (unit_within u s wide eight long small) in
    let x = does c (event_of ev) f (state_of u) in
    let t = keeps_pick c (ltb room 1024) {x = refused NoRoom} refuses (keeps_pick c (sound_of u) {x = x} {y = refused Unsound} k refuses) in
    pictures_sound c st o (kept_state c _ st os t e)

unit_after : (u : Value) (o : Outcome) → sound_of u ≡ true → ((st : State) (os : List Out) → o ≡ done st os → sound_of (picture (setup_of u) st) ≡ true)
    → sound_of (turn_of u o).unit ≡ true
unfolding turn_of
unit_after u (refused n) s k = s
unit_after u (done st os) s k = k st os refl

-- so the unit that any event leaves, taken or refused, is sound
pub still_sound : (room : ℕ) (u : Value) (ev : List ℕ) → sound_of u ≡ true → length u.name ≡ 32 → length u.waiting ≡ 8
    → length u.kept ≡ 554 → ((i : ℕ) → get_or u.kept i 0 < 256) → ((i : ℕ) → octet ev i < 256)
    → sound_of (turn_of u (step room u ev)).unit ≡ true
still_sound room u ev s wide eight long small h = unit_after u (step room u ev) s (λ st os e. kept room u ev st os s wide eight long small h e)

-- a setup within its limits makes a sound unit
pub new : (start end inactivity : ℕ) (name : List ℕ) → within_limits start end inactivity (length name) ≡ true → sound_of (set_up start end inactivity name).unit ≡ true
unfolding set_up
new start end inactivity name e =
    rw e (pictures_sound (record { name = name; start_limit = start; end_limit = end; inactivity_limit = inactivity }) idle e in_idle)
