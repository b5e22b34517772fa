-- What demand 3 says in other words: a success names a confirmed message that was given. Closed by finding the identifier in the list.
use mathlib.Core.Path.{refl, sym, ap, subst}
use mathlib.Core.Logic.{◌⊎◌, inl, inr}
use mathlib.Core.List.Memᴰ
use mathlib.Core.List.{List, [], ◌∷◌, Memᴰ}
use Prim.Native.Nat.{ℕ}
use Rattle.book.specs.Book.{Msg, plain, sure, ids_of}
use Rattle.pair_laws.specs.Model.{World}
use Rattle.pair_laws.specs.Statement.{Demand3, demand3, near_log, far_log, SuccessGiven, Prefix, ids, Confirmed}
use Rattle.pair_laws.proofs.Demand.{theorem}

later : {r : ℕ} {ms : List Msg} (m : Msg) → Confirmed r ms → Confirmed r (m ∷ ms)
later m c = (c.0, Memᴰ.append_right (m ∷ []) c.1, c.2)

first : {ms : List Msg} (m : Msg) → Memᴰ m (m ∷ ms)
first m = Memᴰ.head refl

here : (r : ℕ) (m : Msg) (ms : List Msg) → Memᴰ r (ids_of m) → Confirmed r (m ∷ ms)
unfolding ids_of
here r (plain i ir iq b) ms h = absurd (Memᴰ.not-nil h)
here r (sure i ir iq b) ms h = (sure i ir iq b, first (sure i ir iq b), ap (λ z. z ∷ []) (sym (Memᴰ.eq_of_singleton h)))

found : (r : ℕ) (ms : List Msg) → Memᴰ r (ids ms) → Confirmed r ms
unfolding ids
found r [] h = absurd (Memᴰ.not-nil h)
found r (m ∷ ms) h = go (Memᴰ.append_cases (ids_of m) h) (λ k. found r ms k)
  where
    go : Memᴰ r (ids_of m) ⊎ Memᴰ r (ids ms) → (Memᴰ r (ids ms) → Confirmed r ms) → Confirmed r (m ∷ ms)
    go (inl k) rec = here r m ms k
    go (inr k) rec = later m (rec k)

-- Successes that are a prefix of the identifiers given name messages that were given.
told_given : {okays : List ℕ} {given : List Msg} (i : ℕ) → Prefix okays (ids given) → Memᴰ i okays → Confirmed i given
told_given {given} i p h = found i given (subst (λ l. Memᴰ i l) p.1 (Memᴰ.append_left p.0 h))

demand_given : {w : World} (n i : ℕ) → Demand3 w →
    (Memᴰ i (near_log n w).okays → Confirmed i (far_log n w).given) × (Memᴰ i (far_log n w).okays → Confirmed i (near_log n w).given)
unfolding near_log far_log
demand_given n i (demand3 ds a b) = (λ h. told_given i (ds n).near_told h, λ h. told_given i (ds n).far_told h)

pub success_given : SuccessGiven
success_given s t cs n i = demand_given n i (theorem s t cs)
