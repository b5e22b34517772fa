-- Each rule of the book keeps the state within its limits. Closed by cases on the state.
use Rattle.std.specs.Prelude.{None, Option, Some}
use Prim.Native.Nat.{ℕ, zero, suc, ◌<◌, ◌≤◌}
use mathlib.Core.Path.{◌≡◌, refl, sym}
use mathlib.Core.Bool.{Bool, true, false, not}
use mathlib.Core.List.{List, [], ◌∷◌, ◌++◌, append-nil}
use native.Mathlib.Omega.{arith}
use borrow.Author.Tests.{leb-false, not-true, ne_eqb, eqb-false}
use lib.Dec.{eqb, leb}
use lib.ListN.{length, length-append}
use Rattle.octets.specs.Choice.{pick, either}
use Rattle.frame.specs.Writing.{Allowed}
use Rattle.frame.specs.Reading.{octet}
use Rattle.book.specs.Sound.{differ}
use Rattle.book.specs.declared.Refusal.TheVariants.{OtherTerms, Waits, Full}
use Rattle.book.specs.declared.Refusal.{Refusal}
use Rattle.book.specs.Book.{Msg, plain, sure, msg, note, Reading, bad, good, Out, State, idle, single, multi, ending, assoc, Setup, Outcome, refused, done, same_terms, settled, ids_of, body_of, waits, full, without, without_in, left_waiting, fall, quiet_fall, vet, bar, bar_confirmed, on_single, on_multi, on_shot, on_vetted, on_request, on_end, late, on_tick, greet, first_contact, on_start, begun, on_reply, on_dat, on_fin, on_fin_ok, on_abort}
use Rattle.book.specs.View.{reading_in, msg_message, frame_message}
use Rattle.book.specs.declared.Terms.{Terms}
use Rattle.book.proofs.Views.{read_allowed}
use Rattle.sound_laws.proofs.Within.{Within, in_idle, in_single, in_multi, in_ending, in_assoc, Rated, Listed, Keepable, Positive, both_left, both_right, joins, ids_listed}

-- an outcome whose state is within its limits
pub data Keeps (s : Setup) : Outcome → Type 0 where
  refuses : {n : Refusal} → Keeps s (refused n)
  goes : {st : State} {os : List Out} → Within s st → Keeps s (done st os)

pub kept_state : (s : Setup) (o : Outcome) (st : State) (os : List Out) → Keeps s o → o ≡ done st os → Within s st
kept_state s (refused n) st os refuses e = let z : ◌≡◌ {A = ℕ} 0 1 = cc in absurd (omega arith)
kept_state s (done v ps) st os (goes w) e = let q : v ≡ st = cc in rw q at w

-- ---- the waiting list, one taken out

data Fewer : List ℕ → List ℕ → Type 0 where
  all : {w : List ℕ} → Fewer w w
  but_first : {j : ℕ} {w : List ℕ} → Fewer w (j ∷ w)
  after : {j : ℕ} {v w : List ℕ} → Fewer v w → Fewer (j ∷ v) (j ∷ w)

fewer_in : (b : Bool) (j : ℕ) (w : List ℕ) (o : Option (List ℕ)) → Fewer (left_waiting w o) w → Fewer (left_waiting (j ∷ w) (without_in b j w o)) (j ∷ w)
unfolding left_waiting without_in
fewer_in true j w o f = but_first
fewer_in false j w None f = all
fewer_in false j w (Some v) f = after f

fewer : (r : ℕ) (w : List ℕ) → Fewer (left_waiting w (without r w)) w
unfolding left_waiting without
fewer r [] = all
fewer r (j ∷ w) = fewer_in (eqb r j) j w (without r w) (fewer r w)

fewer_length : {v w : List ℕ} → Fewer v w → length v ≤ length w
fewer_length all = omega arith
fewer_length but_first = omega arith
fewer_length (after f) = let h = fewer_length f in omega arith

either_right : (a b : Bool) → either a b ≡ false → b ≡ false
either_right true true e = e
either_right true false e = refl
either_right false b e = e

either_left : (a b : Bool) → either a b ≡ false → a ≡ false
either_left true b e = e
either_left false b e = refl

either_none : (a b : Bool) → a ≡ false → b ≡ false → either a b ≡ false
either_none true b e f = e
either_none false b e f = f

fewer_waits : (x : ℕ) {v w : List ℕ} → Fewer v w → waits x w ≡ false → waits x v ≡ false
fewer_waits x all e = e
fewer_waits x (but_first {j} {w}) e = either_right (eqb x j) (waits x w) e
fewer_waits x (after {j} {v} {w} f) e =
    either_none (eqb x j) (waits x v) (either_left (eqb x j) (waits x w) e) (fewer_waits x f (either_right (eqb x j) (waits x w) e))

not_in : (b : Bool) → b ≡ false → not b ≡ true
not_in b e = rw e

fewer_differ : {v w : List ℕ} → Fewer v w → differ w ≡ true → differ v ≡ true
fewer_differ all e = e
fewer_differ (but_first {j} {w}) e = both_right (not (waits j w)) (differ w) e
fewer_differ (after {j} {v} {w} f) e =
    let m : waits j w ≡ false = not-true (waits j w) (both_left (not (waits j w)) (differ w) e) in
    joins (not (waits j v)) (differ v) (not_in (waits j v) (fewer_waits j f m)) (fewer_differ f (both_right (not (waits j w)) (differ w) e))

listed_fewer : {n : ℕ} (r : ℕ) (w : List ℕ) → Listed n w → Listed n (left_waiting w (without r w))
listed_fewer r w l = let h = fewer_length (fewer r w) in record { few = omega arith; distinct = fewer_differ (fewer r w) l.distinct }

-- ---- the waiting list, one put after it

waits_after : (x i : ℕ) (w : List ℕ) → waits x w ≡ false → eqb x i ≡ false → waits x (w ++ (i ∷ [])) ≡ false
waits_after x i [] e q = rw q
waits_after x i (y ∷ w) e q =
    either_none (eqb x y) (waits x (w ++ (i ∷ []))) (either_left (eqb x y) (waits x w) e) (waits_after x i w (either_right (eqb x y) (waits x w) e) q)

other : (i x : ℕ) → eqb i x ≡ false → eqb x i ≡ false
other i x e = ne_eqb x i (λ q. eqb-false i x e (sym q))

differ_after : (i : ℕ) (w : List ℕ) → differ w ≡ true → waits i w ≡ false → differ (w ++ (i ∷ [])) ≡ true
differ_after i [] e q = refl
differ_after i (x ∷ w) e q =
    let m : waits x w ≡ false = not-true (waits x w) (both_left (not (waits x w)) (differ w) e) in
    joins (not (waits x (w ++ (i ∷ [])))) (differ (w ++ (i ∷ []))) (not_in (waits x (w ++ (i ∷ []))) (waits_after x i w m (other i x (either_left (eqb i x) (waits i w) q))))
    (differ_after i w (both_right (not (waits x w)) (differ w) e) (either_right (eqb i x) (waits i w) q))

-- what no refusal 3, 4 or 5 says
free : (x y z : Bool) → ◌≡◌ {A = Option Refusal} (pick x (pick y (Some Waits) (pick z (Some Full) None)) (Some OtherTerms)) None → (y ≡ false) × (z ≡ false)
free false y z e = let z : ◌≡◌ {A = ℕ} 0 1 = cc in absurd (omega arith)
free true true z e = let z : ◌≡◌ {A = ℕ} 0 1 = cc in absurd (omega arith)
free true false true e = let z : ◌≡◌ {A = ℕ} 0 1 = cc in absurd (omega arith)
free true false false e = (refl, refl)

listed_after : (a T : Terms) (m : Msg) (w : List ℕ) (t : ℕ) → bar a m (assoc T w t) ≡ None → Listed 8 w → Listed 8 (w ++ ids_of m)
unfolding bar bar_confirmed ids_of full
listed_after a T (plain i r q b) w t e l = rw (append-nil w) l
listed_after a T (sure i r q b) w t e l =
    let p = free (same_terms (settled a) T) (waits i w) (leb 8 (length w)) e in
    let n = length-append w (i ∷ []) in
    let h : length (w ++ (i ∷ [])) ≤ 8 = omega (arith, leb-false 8 (length w) p.1) in
    record { few = h; distinct = differ_after i w l.distinct p.0 }

-- ---- terms

rer_low : (r : ℕ) → 0 < pick (eqb r 0) 1 r
rer_low zero = omega arith
rer_low (suc r) = rw (ne_eqb (suc r) 0 (λ z. omega arith)) (omega arith)

rer_high : (r : ℕ) → r ≤ 2 → pick (eqb r 0) 1 r < 3
rer_high zero h = omega arith
rer_high (suc r) h = rw (ne_eqb (suc r) 0 (λ z. omega arith)) (omega arith)

settled_rated : (a : Terms) → a.rer ≤ 2 → Rated (settled a)
unfolding settled
settled_rated a h = record { low = rer_low a.rer; high = rer_high a.rer h }

wide : (k : Msg) → Listed 8 (ids_of k)
wide k = let l = ids_listed k in record { few = omega arith; distinct = l.distinct }

alone : Listed 8 []
alone = record { few = omega arith; distinct = refl }

-- what a request's frame was read as
vetted : (c : Bool) (r : Reading) (m : Msg) → vet c r ≡ Some m → r ≡ good (msg m) 0
unfolding vet
vetted c (bad n) m e = let z : ◌≡◌ {A = ℕ} 0 1 = cc in absurd (omega arith)
vetted c (good f (suc n)) m e = let z : ◌≡◌ {A = ℕ} 0 1 = cc in absurd (omega arith)
vetted c (good (note k r i q b) zero) m e = let z : ◌≡◌ {A = ℕ} 0 1 = cc in absurd (omega arith)
vetted true (good (msg (plain i r q b)) zero) m e = let z : ◌≡◌ {A = ℕ} 0 1 = cc in absurd (omega arith)
vetted false (good (msg (plain i r q b)) zero) m e = cc
vetted true (good (msg (sure i r q b)) zero) m e = cc
vetted false (good (msg (sure i r q b)) zero) m e = let z : ◌≡◌ {A = ℕ} 0 1 = cc in absurd (omega arith)

-- ---- the rules

module _ (s : Setup) (p : Positive s) where
  keeps_single : (a : Terms) (m : Msg) (st : State) → a.rer ≤ 2 → Keeps s (on_single a m st)
  unfolding on_single
  keeps_single a m idle h = goes (in_single (settled_rated a h) (ids_listed m) p.start)
  keeps_single a m (single T w t) h = refuses
  keeps_single a m (multi T k t) h = refuses
  keeps_single a m (ending T w t) h = refuses
  keeps_single a m (assoc T w t) h = refuses

  keeps_multi : (b : Option Refusal) (a : Terms) (m : Msg) (st : State) → bar a m st ≡ b → a.rer ≤ 2 → Keepable m → Within s st → Keeps s (on_multi b a m st)
  unfolding on_multi
  keeps_multi b a m idle e h k w = goes (in_multi (settled_rated a h) k p.start)
  keeps_multi b a m (single T w t) e h k x = refuses
  keeps_multi b a m (multi T w t) e h k x = refuses
  keeps_multi b a m (ending T w t) e h k x = refuses
  keeps_multi (Some n) a m (assoc T w t) e h k x = refuses
  keeps_multi None a m (assoc T w t) e h k (in_assoc r l y) = goes (in_assoc r (listed_after a T m w t e l) p.inactivity)

  keeps_shot : (b : Bool) (a : Terms) (m : Msg) (st : State) → (body_of m).maintained ≡ b → a.rer ≤ 2 → Allowed (msg_message m) → Within s st → Keeps s (on_shot b a m st)
  unfolding on_shot
  keeps_shot false a m st e h k w = keeps_single a m st h
  keeps_shot true a m st e h k w = keeps_multi (bar a m st) a m st refl h (record { allowed = k; maintained = e }) w

  keeps_vetted : (c : Bool) (a : Terms) (f : List ℕ) (o : Option Msg) (st : State) → vet c (reading_in f) ≡ o → ((i : ℕ) → octet f i < 256) → a.rer ≤ 2 → Within s st
      → Keeps s (on_vetted a o st)
  unfolding on_vetted frame_message
  keeps_vetted c a f None st e x h w = refuses
  keeps_vetted c a f (Some m) st e x h w =
      keeps_shot (body_of m).maintained a m st refl h (read_allowed f (msg m) 0 x (vetted c (reading_in f) m e)) w

  pub keeps_request : (c : Bool) (a : Terms) (f : List ℕ) (st : State) → ((i : ℕ) → octet f i < 256) → a.rer ≤ 2 → Within s st → Keeps s (on_request c a (reading_in f) st)
  unfolding on_request
  keeps_request c a f st x h w = keeps_vetted c a f (vet c (reading_in f)) st refl x h w

  pub keeps_end : (st : State) → Within s st → Keeps s (on_end st)
  unfolding on_end
  keeps_end idle x = refuses
  keeps_end (single T w t) x = refuses
  keeps_end (multi T k t) x = refuses
  keeps_end (ending T w t) x = refuses
  keeps_end (assoc T w t) (in_assoc r l h) = goes (in_ending r l p.finish)

  keeps_tick_at : (b : Bool) (st : State) → late s st ≡ b → Within s st → Keeps s (on_tick s b st)
  unfolding on_tick late fall
  keeps_tick_at b idle e x = goes in_idle
  keeps_tick_at true (single T w t) e x = goes in_idle
  keeps_tick_at false (single T w t) e (in_single r l h) = goes (in_single r l (leb-false s.start_limit (suc t) e))
  keeps_tick_at true (multi T k t) e x = goes in_idle
  keeps_tick_at false (multi T k t) e (in_multi r l h) = goes (in_multi r l (leb-false s.start_limit (suc t) e))
  keeps_tick_at true (ending T w t) e x = goes in_idle
  keeps_tick_at false (ending T w t) e (in_ending r l h) = goes (in_ending r l (leb-false s.end_limit (suc t) e))
  keeps_tick_at true (assoc T w t) e (in_assoc r l h) = goes (in_ending r l p.finish)
  keeps_tick_at false (assoc T w t) e (in_assoc r l h) = goes (in_assoc r l (leb-false s.inactivity_limit (suc t) e))

  pub keeps_tick : (st : State) → Within s st → Keeps s (on_tick s (late s st) st)
  keeps_tick st x = keeps_tick_at (late s st) st refl x

  keeps_greet : (b : Bool) (a : Terms) (e : ℕ) (m : Msg) → Keeps s (greet s b a e m)
  unfolding greet
  keeps_greet true a e m = goes in_idle
  keeps_greet false a e (plain i r q b) = goes in_idle
  keeps_greet false a e (sure i r q b) = goes in_idle

  keeps_contact : (a : Terms) (f : Option Reading) → Rated a → Keeps s (first_contact s a f)
  unfolding first_contact
  keeps_contact a None r = goes (in_assoc r alone p.inactivity)
  keeps_contact a (Some (bad n)) r = goes in_idle
  keeps_contact a (Some (good (msg m) e)) r = keeps_greet (body_of m).maintained a e m
  keeps_contact a (Some (good (note k n i q b) e)) r = goes in_idle

  pub keeps_start : (a : Terms) (f : Option Reading) (st : State) → Rated a → Keeps s (on_start s a f st)
  unfolding on_start
  keeps_start a f idle r = keeps_contact a f r
  keeps_start a f (single T w t) r = refuses
  keeps_start a f (multi T k t) r = refuses
  keeps_start a f (ending T w t) r = refuses
  keeps_start a f (assoc T w t) r = refuses

  keeps_begun : (a : Terms) (k : Msg) (f : Option Reading) → Rated a → Keeps s (begun s a k f)
  unfolding begun fall
  keeps_begun a k None r = goes (in_assoc r (wide k) p.inactivity)
  keeps_begun a k (Some f) r = goes in_idle

  pub keeps_reply : (b : Bool) (f : Option Reading) (st : State) → Within s st → Keeps s (on_reply s b f st)
  unfolding on_reply fall
  keeps_reply b f idle x = refuses
  keeps_reply true f (single T w t) x = goes in_idle
  keeps_reply false f (single T w t) x = goes in_idle
  keeps_reply true f (multi T k t) (in_multi r l h) = keeps_begun T k f r
  keeps_reply false f (multi T k t) x = goes in_idle
  keeps_reply b f (ending T w t) x = refuses
  keeps_reply b f (assoc T w t) x = refuses

  pub keeps_dat : (f : Reading) (st : State) → Within s st → Keeps s (on_dat s f st)
  unfolding on_dat fall
  keeps_dat f idle x = refuses
  keeps_dat f (single T w t) x = refuses
  keeps_dat f (multi T k t) x = refuses
  keeps_dat (bad n) (ending T w t) x = goes in_idle
  keeps_dat (good (msg m) e) (ending T w t) x = goes x
  keeps_dat (good (note k n i q b) e) (ending T w t) (in_ending r l h) = goes (in_ending r (listed_fewer n w l) h)
  keeps_dat (bad n) (assoc T w t) x = goes in_idle
  keeps_dat (good (msg (plain i n q b)) e) (assoc T w t) (in_assoc r l h) = goes (in_assoc r l p.inactivity)
  keeps_dat (good (msg (sure i n q b)) e) (assoc T w t) (in_assoc r l h) = goes (in_assoc r l p.inactivity)
  keeps_dat (good (note k n i q b) e) (assoc T w t) (in_assoc r l h) = goes (in_assoc r (listed_fewer n w l) p.inactivity)

  pub keeps_fin : (st : State) → Keeps s (on_fin s st)
  unfolding on_fin
  keeps_fin idle = refuses
  keeps_fin (single T w t) = refuses
  keeps_fin (multi T k t) = refuses
  keeps_fin (ending T w t) = refuses
  keeps_fin (assoc T w t) = goes in_idle

  pub keeps_fin_ok : (b : Bool) (st : State) → Within s st → Keeps s (on_fin_ok s b st)
  unfolding on_fin_ok
  keeps_fin_ok b idle x = refuses
  keeps_fin_ok b (single T w t) x = refuses
  keeps_fin_ok b (multi T k t) x = refuses
  keeps_fin_ok b (assoc T w t) x = refuses
  keeps_fin_ok true (ending T w t) x = goes in_idle
  keeps_fin_ok false (ending T w t) (in_ending r l h) = goes (in_assoc r l p.inactivity)

  pub keeps_abort : (n : ℕ) (st : State) → Keeps s (on_abort s n st)
  unfolding on_abort quiet_fall
  keeps_abort n idle = refuses
  keeps_abort n (single T w t) = goes in_idle
  keeps_abort n (multi T k t) = goes in_idle
  keeps_abort n (ending T w t) = goes in_idle
  keeps_abort n (assoc T w t) = goes in_idle
