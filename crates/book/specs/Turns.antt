-- Which events each state takes (01, "The five states").
-- No contract of unit's public functions speaks of this file, only that of state::turns, which turn calls: a reader of 01 may skip it. Book refuses
-- with 1 what a state does not take; that it refuses so what this table does not take is proved (unit, proofs/EntryLaws; of requests turn, TableLaws).
use Rattle.std.specs.Prelude.{ℕ, Bool, true, not, eqb, ltb}
use Rattle.octets.specs.Choice.{pick, both, either}

-- The columns: 0 a single-shot request, 1 a multi-shot one, 2 to 10 the kinds 03, 04, 10, 11, 12, 13, 14, 15, 16.
-- "Taken: single-shot requests in 0; multi-shot in 0 and 4; 03 in 4; 04 in all; 10 in 0; 11 in 1 and 2; 12 in 3 and 4; 13 in 4; 14 in 3; 15 and
-- 16 in 1 to 4."
abbrev pub taken_at : (column state : ℕ) → Bool
taken_at k s =
    pick (eqb k 0) (eqb s 0)
    (pick (eqb k 1) (either (eqb s 0) (eqb s 4))
    (pick (eqb k 2) (eqb s 4)
    (pick (eqb k 3) true
    (pick (eqb k 4) (eqb s 0)
    (pick (eqb k 5) (either (eqb s 1) (eqb s 2))
    (pick (eqb k 6) (either (eqb s 3) (eqb s 4))
    (pick (eqb k 7) (eqb s 4)
    (pick (eqb k 8) (eqb s 3)
    (not (eqb s 0))))))))))

-- no state but the five, and no column but these, takes anything
unfoldable pub takes : (state column : ℕ) → Bool
takes s k = both (ltb s 5) (both (ltb k 11) (taken_at k s))
