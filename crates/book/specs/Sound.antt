-- When a unit is sound (01, "Refusal numbers", the paragraph "Sound").
use Rattle.std.specs.Prelude.{ℕ, zero, suc, List, [], ◌∷◌, Bool, true, false, not, take, drop, get_or, ltb, leb, eqb}
use Rattle.octets.specs.Choice.{pick, both, either}
use Rattle.book.specs.Book.{Msg, plain, sure, msg, note, Reading, good, bad, waits}
use Rattle.book.specs.View.{reading_in}
use Rattle.book.specs.declared.Terms.{Terms}
use Rattle.book.specs.declared.Unit.{Unit as Value}

abbrev pub zeros : List ℕ → Bool
zeros [] = true
zeros (x ∷ xs) = both (eqb x 0) (zeros xs)

-- no entry stands twice
abbrev pub differ : List ℕ → Bool
differ [] = true
differ (x ∷ xs) = both (not (waits x xs)) (differ xs)

-- "start, end and inactivity limits (2 octets each, 1..65,535), then the unit's name, 1..32 octets"
unfoldable pub within_limits : (start end inactivity letters : ℕ) → Bool
within_limits start end inactivity letters = both (ltb 0 start) (both (ltb 0 end) (both (ltb 0 inactivity) (both (ltb 0 letters) (leb letters 32))))

-- "setup within limits", the unused places of the name 0
unfoldable pub setup_sound : Value → Bool
setup_sound u = both (within_limits u.start u.end u.inactivity u.letters) (zeros (drop u.letters u.name))

-- "at most eight distinct identifiers waiting, in sending order (the list's own order, so not tested)", the unused places 0
unfoldable pub ids_sound : List ℕ → ℕ → Bool
ids_sound w n = both (leb n 8) (both (differ (take n w)) (zeros (drop n w)))

-- "The limit is start in 1 and 2, end in 3, inactivity in 4."
unfoldable pub limit_of : Value → ℕ
limit_of u = pick (eqb u.state 4) u.inactivity (pick (eqb u.state 3) u.end u.start)

abbrev pub no_terms_in : Terms → Bool
no_terms_in a = both (eqb a.class 0) (both (eqb a.priority 0) (eqb a.rer 0))

-- "none in Idle", "elapsed ticks are … 0 in Idle", the terms unused
unfoldable pub idle_sound : Value → Bool
idle_sound u = both (eqb u.elapsed 0) (both (eqb u.count 0) (no_terms_in u.terms))

-- "elapsed ticks are under the state's limit", "outside Idle RER is 1 or 2", "at most one in the two start states"
unfoldable pub busy_sound : Value → Bool
busy_sound u =
    both (ltb u.elapsed (limit_of u)) (both (ltb 0 u.terms.rer) (both (ltb u.terms.rer 3) (either (ltb 2 u.state) (ltb u.count 2))))

-- no frame is kept
unfoldable pub kept_none : Value → Bool
kept_none u = both (eqb u.octets 0) (zeros u.kept)

-- "the kept frame of Start-multi is a valid edition 1 frame, maintained, confirmation 0 with none waiting or 1 with its own identifier waiting"
abbrev pub kept_says : Value → Msg → Bool
kept_says u (plain i r q b) = both b.maintained (eqb u.count 0)
kept_says u (sure i r q b) = both b.maintained (both (eqb u.count 1) (eqb (get_or u.waiting 0 0) i))

abbrev pub kept_reads : Value → Reading → Bool
kept_reads u (bad n) = false
kept_reads u (good f (suc n)) = false
kept_reads u (good (note k r i q b) zero) = false
kept_reads u (good (msg m) zero) = kept_says u m

unfoldable pub kept_good : Value → Bool
kept_good u = both (leb u.octets 554) (both (zeros (drop u.octets u.kept)) (kept_reads u (reading_in (take u.octets u.kept))))

unfoldable pub kept_sound : Value → Bool
kept_sound u = pick (eqb u.state 2) (kept_good u) (kept_none u)

-- "state 0 to 4"
unfoldable pub state_sound : Value → Bool
state_sound u = both (ltb u.state 5) (pick (eqb u.state 0) (idle_sound u) (busy_sound u))

unfoldable pub sound_of : Value → Bool
sound_of u = both (setup_sound u) (both (ids_sound u.waiting u.count) (both (kept_sound u) (state_sound u)))
