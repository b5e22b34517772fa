-- A message (01, "The message frame"; field names of 000, 1.3.5 and 1.3.9).
use Rattle.std.specs.Prelude.{ℕ, List, Bool, not, leb, eqb, Option, is_some}
use Rattle.octets.specs.Choice.{both, either}

-- "userData present with length 0 is not userData absent; identifier 0 and type 0 are ordinary values":
-- an absent field is `None`; empty user data is `Some []`, identifier 0 is `Some 0`.
pub record Message : Type 0 where
  -- true: maintained; false: single
  pub multi_shot : Bool
  -- 0 unconfirmedReq, 1 confirmedReq, 2 confirmedOk, 3 confirmedNotOk, 4 confirmedUnknown
  pub confirmation : ℕ
  pub message_type : Option ℕ
  pub message_identifier : Option ℕ
  pub message_reference : Option ℕ
  pub sender : Option (List ℕ)
  pub user_data : Option (List ℕ)

-- An extension field: its tag and its octets.
abbrev pub Extension : Type 0
Extension = ℕ × List ℕ

abbrev pub present : {A : Type 0} → Option A → Bool
present o = is_some o

-- "Confirmation 1 needs an identifier; 2, 3 and 4 need a reference and a sender."
unfoldable pub lacks : ℕ → Bool → Bool → Bool → Bool
lacks confirmation identifier reference sender =
    either (both (eqb confirmation 1) (not identifier)) (both (leb 2 confirmation) (not (both reference sender)))
