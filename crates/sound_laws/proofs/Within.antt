-- What a sound unit's state is within, at the level of the rule book: a unit that is sound is the picture of a state within its limits, and the
-- picture of such a state is sound. Closed by cases on the state and by taking the test of soundness apart.
use Prim.Native.Nat.{ℕ, zero, suc, ◌-◌, ◌<◌, ◌≤◌}
use mathlib.Core.Path.{◌≡◌, refl}
use mathlib.Core.Bool.{Bool, true, false}
use mathlib.Core.List.{List, []}
use native.Mathlib.Omega.{arith}
use borrow.Author.Tests.{ltb-true, leb-true, lt-ltb, le-leb, eq-eqb}
use lib.Dec.{ltb, leb}
use lib.ListN.{length, take, drop, replicate}
use lib.Seq.{take-append_seam, drop-append_seam}
use Rattle.octets.specs.Choice.{both}
use Rattle.frame.specs.Writing.{Allowed}
use Rattle.book.specs.Sound.{sound_of, within_limits, setup_sound, ids_sound, state_sound, idle_sound, busy_sound, kept_none, kept_sound, kept_good, kept_reads, zeros, differ, limit_of}
use Rattle.book.specs.Book.{Msg, plain, sure, msg, State, idle, single, multi, ending, assoc, Setup, ids_of, body_of, good}
use Rattle.book.specs.Picture.{padded, pictured, picture, no_terms}
use Rattle.book.specs.View.{reading_in, msg_octets, msg_message, frame_octets, frame_message}
use Rattle.book.specs.declared.Terms.{Terms}
use Rattle.book.specs.declared.Unit.{Unit as Value}
use Rattle.book.proofs.Views.{reads_octets, octets_short}

-- ---- a state within its limits

-- "outside Idle RER is 1 or 2"
pub record Rated (a : Terms) : Type 0 where
  pub low : 0 < a.rer
  pub high : a.rer < 3

-- "at most eight distinct identifiers waiting"
pub record Listed (most : ℕ) (w : List ℕ) : Type 0 where
  pub few : length w ≤ most
  pub distinct : differ w ≡ true

-- "the kept frame of Start-multi is a valid edition 1 frame, maintained"
pub record Keepable (k : Msg) : Type 0 where
  pub allowed : Allowed (msg_message k)
  pub maintained : (body_of k).maintained ≡ true

pub data Within (s : Setup) : State → Type 0 where
  in_idle : Within s idle
  in_single : {a : Terms} {w : List ℕ} {t : ℕ} → Rated a → Listed 1 w → t < s.start_limit → Within s (single a w t)
  in_multi : {a : Terms} {k : Msg} {t : ℕ} → Rated a → Keepable k → t < s.start_limit → Within s (multi a k t)
  in_ending : {a : Terms} {w : List ℕ} {t : ℕ} → Rated a → Listed 8 w → t < s.end_limit → Within s (ending a w t)
  in_assoc : {a : Terms} {w : List ℕ} {t : ℕ} → Rated a → Listed 8 w → t < s.inactivity_limit → Within s (assoc a w t)

-- "setup within limits"
abbrev pub Limited : Setup → Type 0
Limited s = within_limits s.start_limit s.end_limit s.inactivity_limit (length s.name) ≡ true

-- ---- tests

pub both_left : (a b : Bool) → both a b ≡ true → a ≡ true
both_left true b e = refl
both_left false b e = e

pub both_right : (a b : Bool) → both a b ≡ true → b ≡ true
both_right true b e = e
both_right false true e = refl
both_right false false e = e

pub joins : (a b : Bool) → a ≡ true → b ≡ true → both a b ≡ true
joins true b e f = f
joins false b e f = e

-- ---- arrays padded with 0

take-padded : (n : ℕ) (s : List ℕ) → take (length s) (padded n s) ≡ s
unfolding padded
take-padded n s = take-append_seam s (replicate (n - length s) 0)

zeros_of : (n : ℕ) → zeros (replicate n 0) ≡ true
zeros_of zero = refl
zeros_of (suc n) = zeros_of n

zeros_after : (n : ℕ) (s : List ℕ) → zeros (drop (length s) (padded n s)) ≡ true
unfolding padded
zeros_after n s = rw (drop-append_seam s (replicate (n - length s) 0)) (zeros_of (n - length s))

zeros_none : (n : ℕ) → zeros (padded n []) ≡ true
unfolding padded
zeros_none n = zeros_of (n - 0)

-- ---- the picture of a state within its limits is sound

module _ (s : Setup) (o : Limited s) where
  set_sound : (k : ℕ) (a : Terms) (w f : List ℕ) (t : ℕ) → setup_sound (pictured s k a w f t) ≡ true
  unfolding setup_sound
  set_sound k a w f t = joins _ _ o (zeros_after 32 s.name)

ids_sound_lem : (w : List ℕ) → Listed 8 w → ids_sound (padded 8 w) (length w) ≡ true
unfolding ids_sound
ids_sound_lem w l =
    rw (le-leb (length w) 8 l.few, take-padded 8 w, l.distinct) (zeros_after 8 w)

-- from its four parts
sound_from : (v : Value) → setup_sound v ≡ true → ids_sound v.waiting v.count ≡ true → kept_sound v ≡ true → state_sound v ≡ true → sound_of v ≡ true
unfolding sound_of
sound_from v e₁ e₂ e₃ e₄ = rw (e₁, e₂, e₃, e₄)

module _ (s : Setup) (a : Terms) (r : Rated a) (w f : List ℕ) (t : ℕ) where
  busy_1 : length w ≤ 1 → t < s.start_limit → state_sound (pictured s 1 a w f t) ≡ true
  unfolding state_sound busy_sound limit_of
  busy_1 l h = rw (lt-ltb t s.start_limit h, lt-ltb 0 a.rer r.low, lt-ltb a.rer 3 r.high, lt-ltb (length w) 2 (omega arith))

  busy_2 : length w ≤ 1 → t < s.start_limit → state_sound (pictured s 2 a w f t) ≡ true
  unfolding state_sound busy_sound limit_of
  busy_2 l h = rw (lt-ltb t s.start_limit h, lt-ltb 0 a.rer r.low, lt-ltb a.rer 3 r.high, lt-ltb (length w) 2 (omega arith))

  busy_3 : t < s.end_limit → state_sound (pictured s 3 a w f t) ≡ true
  unfolding state_sound busy_sound limit_of
  busy_3 h = rw (lt-ltb t s.end_limit h, lt-ltb 0 a.rer r.low, lt-ltb a.rer 3 r.high)

  busy_4 : t < s.inactivity_limit → state_sound (pictured s 4 a w f t) ≡ true
  unfolding state_sound busy_sound limit_of
  busy_4 h = rw (lt-ltb t s.inactivity_limit h, lt-ltb 0 a.rer r.low, lt-ltb a.rer 3 r.high)

none_0 : (s : Setup) (a : Terms) (w : List ℕ) (t : ℕ) → kept_sound (pictured s 0 a w [] t) ≡ true
unfolding kept_sound kept_none
none_0 s a w t = zeros_none 554

none_1 : (s : Setup) (a : Terms) (w : List ℕ) (t : ℕ) → kept_sound (pictured s 1 a w [] t) ≡ true
unfolding kept_sound kept_none
none_1 s a w t = zeros_none 554

none_3 : (s : Setup) (a : Terms) (w : List ℕ) (t : ℕ) → kept_sound (pictured s 3 a w [] t) ≡ true
unfolding kept_sound kept_none
none_3 s a w t = zeros_none 554

none_4 : (s : Setup) (a : Terms) (w : List ℕ) (t : ℕ) → kept_sound (pictured s 4 a w [] t) ≡ true
unfolding kept_sound kept_none
none_4 s a w t = zeros_none 554

-- the kept frame
pub ids_listed : (k : Msg) → Listed 1 (ids_of k)
unfolding ids_of
ids_listed (plain i r q b) = record { few = omega arith; distinct = refl }
ids_listed (sure i r q b) = record { few = omega arith; distinct = refl }

read_again : (k : Msg) → Allowed (msg_message k) → reading_in (msg_octets k) ≡ good (msg k) 0
unfolding msg_octets frame_octets frame_message
read_again k e = reads_octets (msg k) e

short_again : (k : Msg) → Allowed (msg_message k) → length (msg_octets k) ≤ 554
unfolding msg_octets frame_octets frame_message
short_again k e = octets_short (msg k) e

says : (s : Setup) (a : Terms) (k : Msg) (f : List ℕ) (t : ℕ) → (body_of k).maintained ≡ true → kept_reads (pictured s 2 a (ids_of k) f t) (good (msg k) 0) ≡ true
unfolding ids_of body_of padded
says s a (plain i r q b) f t e = rw e
says s a (sure i r q b) f t e = rw (e, eq-eqb i i refl)

reads_kept : (s : Setup) (a : Terms) (k : Msg) (t : ℕ) → Keepable k → kept_sound (picture s (multi a k t)) ≡ true
unfolding kept_sound kept_good
reads_kept s a k t p =
    rw (le-leb (length (msg_octets k)) 554 (short_again k p.allowed), zeros_after 554 (msg_octets k), take-padded 554 (msg_octets k), read_again k p.allowed)
    (says s a k (msg_octets k) t p.maintained)

wider : (w : List ℕ) → Listed 1 w → Listed 8 w
wider w l = record { few = omega arith; distinct = l.distinct }

listed_none : Listed 8 []
listed_none = record { few = omega arith; distinct = refl }

idle_state : (s : Setup) → state_sound (picture s idle) ≡ true
unfolding state_sound idle_sound
idle_state s = refl

pub pictures_sound : (s : Setup) (st : State) → Limited s → Within s st → sound_of (picture s st) ≡ true
pictures_sound s idle o in_idle =
    sound_from (picture s idle) (set_sound s o 0 no_terms [] [] 0) (ids_sound_lem [] listed_none) (none_0 s no_terms [] 0) (idle_state s)
pictures_sound s (single a w t) o (in_single r l h) =
    sound_from (picture s (single a w t)) (set_sound s o 1 a w [] t) (ids_sound_lem w (wider w l)) (none_1 s a w t) (busy_1 s a r w [] t l.few h)
pictures_sound s (multi a k t) o (in_multi r p h) =
    sound_from (picture s (multi a k t)) (set_sound s o 2 a (ids_of k) (msg_octets k) t) (ids_sound_lem (ids_of k) (wider (ids_of k) (ids_listed k)))
    (reads_kept s a k t p) (busy_2 s a r (ids_of k) (msg_octets k) t (ids_listed k).few h)
pictures_sound s (ending a w t) o (in_ending r l h) =
    sound_from (picture s (ending a w t)) (set_sound s o 3 a w [] t) (ids_sound_lem w l) (none_3 s a w t) (busy_3 s a r w [] t h)
pictures_sound s (assoc a w t) o (in_assoc r l h) =
    sound_from (picture s (assoc a w t)) (set_sound s o 4 a w [] t) (ids_sound_lem w l) (none_4 s a w t) (busy_4 s a r w [] t h)

-- ---- a sound picture is that of a state within its limits

module _ (v : Value) (e : sound_of v ≡ true) where
  abbrev r₁ : Bool
  r₁ = both (kept_sound v) (state_sound v)

  abbrev r₂ : Bool
  r₂ = both (ids_sound v.waiting v.count) r₁

  set_part : setup_sound v ≡ true
  unfolding sound_of
  set_part = both_left (setup_sound v) r₂ e

  ids_part : ids_sound v.waiting v.count ≡ true
  unfolding sound_of
  ids_part = both_left (ids_sound v.waiting v.count) r₁ (both_right (setup_sound v) r₂ e)

  kept_part : kept_sound v ≡ true
  unfolding sound_of
  kept_part = both_left (kept_sound v) (state_sound v) (both_right (ids_sound v.waiting v.count) r₁ (both_right (setup_sound v) r₂ e))

  state_part : state_sound v ≡ true
  unfolding sound_of
  state_part = both_right (kept_sound v) (state_sound v) (both_right (ids_sound v.waiting v.count) r₁ (both_right (setup_sound v) r₂ e))

  limits_part : within_limits v.start v.end v.inactivity v.letters ≡ true
  unfolding setup_sound
  limits_part = both_left (within_limits v.start v.end v.inactivity v.letters) (zeros (drop v.letters v.name)) set_part

-- what a picture's waiting list is
waiting_listed : (w : List ℕ) → ids_sound (padded 8 w) (length w) ≡ true → Listed 8 w
unfolding ids_sound
waiting_listed w e =
    let d = both_right (leb (length w) 8) (both (differ (take (length w) (padded 8 w))) (zeros (drop (length w) (padded 8 w)))) e in
    let x = both_left (differ (take (length w) (padded 8 w))) (zeros (drop (length w) (padded 8 w))) d in
    record {
      few = leb-true (length w) 8 (both_left (leb (length w) 8) (both (differ (take (length w) (padded 8 w))) (zeros (drop (length w) (padded 8 w)))) e);
      distinct = rw (take-padded 8 w) at x;
    }

-- what the test of a busy state says, by its parts
record Parts (t l r : ℕ) (b : Bool) : Type 0 where
  early : t < l
  low : 0 < r
  high : r < 3
  last : b ≡ true

parts : (t l r : ℕ) (b : Bool) → both (ltb t l) (both (ltb 0 r) (both (ltb r 3) b)) ≡ true → Parts t l r b
parts t l r b e =
    let e₂ = both_right (ltb t l) (both (ltb 0 r) (both (ltb r 3) b)) e in
    let e₃ = both_right (ltb 0 r) (both (ltb r 3) b) e₂ in
    record {
      early = ltb-true t l (both_left (ltb t l) (both (ltb 0 r) (both (ltb r 3) b)) e);
      low = ltb-true 0 r (both_left (ltb 0 r) (both (ltb r 3) b) e₂);
      high = ltb-true r 3 (both_left (ltb r 3) b e₃);
      last = both_right (ltb r 3) b e₃;
    }

module _ (s : Setup) (a : Terms) (w f : List ℕ) (t : ℕ) where
  parts_1 : state_sound (pictured s 1 a w f t) ≡ true → Parts t s.start_limit a.rer (ltb (length w) 2)
  unfolding state_sound busy_sound limit_of
  parts_1 e = parts t s.start_limit a.rer (ltb (length w) 2) e

  parts_2 : state_sound (pictured s 2 a w f t) ≡ true → Parts t s.start_limit a.rer (ltb (length w) 2)
  unfolding state_sound busy_sound limit_of
  parts_2 e = parts t s.start_limit a.rer (ltb (length w) 2) e

  parts_3 : state_sound (pictured s 3 a w f t) ≡ true → Parts t s.end_limit a.rer true
  unfolding state_sound busy_sound limit_of
  parts_3 e = parts t s.end_limit a.rer true e

  parts_4 : state_sound (pictured s 4 a w f t) ≡ true → Parts t s.inactivity_limit a.rer true
  unfolding state_sound busy_sound limit_of
  parts_4 e = parts t s.inactivity_limit a.rer true e

rated : (a : Terms) {t l : ℕ} {b : Bool} → Parts t l a.rer b → Rated a
rated a p = record { low = p.low; high = p.high }

says_maintained : (s : Setup) (a : Terms) (k : Msg) (f : List ℕ) (t : ℕ) → kept_reads (pictured s 2 a (ids_of k) f t) (good (msg k) 0) ≡ true → (body_of k).maintained ≡ true
unfolding body_of
says_maintained s a (plain i r q b) f t e = both_left b.maintained _ e
says_maintained s a (sure i r q b) f t e = both_left b.maintained _ e

keepable : (s : Setup) (a : Terms) (k : Msg) (t : ℕ) → Allowed (msg_message k) → kept_sound (picture s (multi a k t)) ≡ true → Keepable k
unfolding kept_sound kept_good
keepable s a k t p e =
    let f = msg_octets k in
    let v = pictured s 2 a (ids_of k) f t in
    let x = both_right (leb (length f) 554) (both (zeros (drop (length f) (padded 554 f))) (kept_reads v (reading_in (take (length f) (padded 554 f))))) e in
    let y = both_right (zeros (drop (length f) (padded 554 f))) (kept_reads v (reading_in (take (length f) (padded 554 f)))) x in
    record { allowed = p; maintained = says_maintained s a k f t (rw (take-padded 554 f, read_again k p) at y) }

-- a kept frame is one that may be written: what the octets' being octets gives, and the test does not
pub record Written (st : State) : Type 0 where
  pub written : (a : Terms) (k : Msg) (t : ℕ) → st ≡ multi a k t → Allowed (msg_message k)

pub sound_within : (s : Setup) (st : State) → Written st → sound_of (picture s st) ≡ true → Within s st
sound_within s idle a e = in_idle
sound_within s (single a w t) q e =
    let v = picture s (single a w t) in
    let p = parts_1 s a w [] t (state_part v e) in
    let n : length w ≤ 1 = omega (arith, ltb-true (length w) 2 p.last) in
    in_single (rated a p) (record { few = n; distinct = (waiting_listed w (ids_part v e)).distinct }) p.early
sound_within s (multi a k t) q e =
    let v = picture s (multi a k t) in
    let p = parts_2 s a (ids_of k) (msg_octets k) t (state_part v e) in
    in_multi (rated a p) (keepable s a k t (q.written a k t refl) (kept_part v e)) p.early
sound_within s (ending a w t) q e =
    let v = picture s (ending a w t) in
    let p = parts_3 s a w [] t (state_part v e) in
    in_ending (rated a p) (waiting_listed w (ids_part v e)) p.early
sound_within s (assoc a w t) q e =
    let v = picture s (assoc a w t) in
    let p = parts_4 s a w [] t (state_part v e) in
    in_assoc (rated a p) (waiting_listed w (ids_part v e)) p.early

pub sound_limited : (s : Setup) (st : State) → sound_of (picture s st) ≡ true → Limited s
sound_limited s idle e = limits_part (picture s idle) e
sound_limited s (single a w t) e = limits_part (picture s (single a w t)) e
sound_limited s (multi a k t) e = limits_part (picture s (multi a k t)) e
sound_limited s (ending a w t) e = limits_part (picture s (ending a w t)) e
sound_limited s (assoc a w t) e = limits_part (picture s (assoc a w t)) e

-- the limits are not 0
pub record Positive (s : Setup) : Type 0 where
  pub start : 0 < s.start_limit
  pub finish : 0 < s.end_limit
  pub inactivity : 0 < s.inactivity_limit

pub positive : (s : Setup) → Limited s → Positive s
unfolding within_limits
positive s e =
    let n = both (ltb 0 (length s.name)) (leb (length s.name) 32) in
    let e₂ = both_right (ltb 0 s.start_limit) (both (ltb 0 s.end_limit) (both (ltb 0 s.inactivity_limit) n)) e in
    let e₃ = both_right (ltb 0 s.end_limit) (both (ltb 0 s.inactivity_limit) n) e₂ in
    record {
      start = ltb-true 0 s.start_limit (both_left (ltb 0 s.start_limit) (both (ltb 0 s.end_limit) (both (ltb 0 s.inactivity_limit) n)) e);
      finish = ltb-true 0 s.end_limit (both_left (ltb 0 s.end_limit) (both (ltb 0 s.inactivity_limit) n) e₂);
      inactivity = ltb-true 0 s.inactivity_limit (both_left (ltb 0 s.inactivity_limit) n e₃);
    }
