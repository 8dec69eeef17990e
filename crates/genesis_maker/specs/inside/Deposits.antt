-- Deposits that are read from the writing of their list.
use Rattle.std.specs.Prelude.{◌≡◌, ℕ, List, [], ◌∷◌, Option, Some, None, Result, Ok, Err}
use Rattle.ssz_codec.specs.Lawful.{IsBytes}
use Rattle.bc_words.specs.declared.stop.NoMemory.{NoMemory}
use Rattle.beacon_types.specs.declared.deposit_data.DepositData.{DepositData}
use Rattle.spec_genesis.specs.Branches.{deposits_codec}

abbrev pub or_none : Option (List DepositData) → List DepositData
or_none None = []
or_none (Some deposits) = deposits

-- the deposits of the list that the bytes are the writing of, none where they are no list's
unfoldable pub deposits_in : List ℕ → List DepositData
deposits_in bytes = or_none (deposits_codec.deserialize bytes)

-- The bytes are the writing of a list of deposits
pub record AreDeposits (bytes : List ℕ) : Type 0 where
  pub bytes_are : IsBytes bytes
  pub reads : deposits_codec.deserialize bytes ≡ Some (deposits_in bytes)

-- The first of the deposits is taken, or all stay
abbrev pub TakesFirst : Result DepositData NoMemory → List DepositData → List DepositData → Type 0
TakesFirst (Ok deposit) old new = old ≡ deposit ∷ new
TakesFirst (Err refused) old new = new ≡ old
