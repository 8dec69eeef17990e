-- What a map of keys says of a registry.
use Rattle.std.specs.Prelude.{◌≡◌, ℕ, List, Option}
use Rattle.std.specs.Map.{lookup}
use Rattle.beacon_types.specs.declared.validator.Validator.{Validator}
use Rattle.spec_blocks.specs.ProcessDeposit.{same_pubkey, index_of_pubkey}

-- the index that a map, seen as its pairs, has for a key
abbrev pub index_in : List (List ℕ × ℕ) → List ℕ → Option ℕ
index_in keys pubkey = lookup (same_pubkey pubkey) keys

-- The map has, for each key, the index of the first validator with it, and nothing for a key that nobody has
abbrev pub Indexes : List (List ℕ × ℕ) → List Validator → Type 0
Indexes keys validators = (pubkey : List ℕ) → index_in keys pubkey ≡ index_of_pubkey validators pubkey
