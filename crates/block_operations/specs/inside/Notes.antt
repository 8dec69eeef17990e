-- A key that may be new in a map of keys.
use Rattle.std.specs.Prelude.{◌≡◌, ℕ, List, Option, Some, None, if◌then◌else◌}
use Rattle.spec_blocks.specs.ProcessDeposit.{same_pubkey}
use Rattle.block_operations.specs.Indexes.{index_in}

-- the key has the index, and each other key what it had
abbrev pub Adds : List (List ℕ × ℕ) → List (List ℕ × ℕ) → List ℕ → ℕ → Type 0
Adds old new key index = (pubkey : List ℕ) → index_in new pubkey ≡ (if same_pubkey key pubkey then Some index else index_in old pubkey)

-- the map is as it was where the key had an index
abbrev pub NotesBy : Option ℕ → List (List ℕ × ℕ) → List (List ℕ × ℕ) → List ℕ → ℕ → Type 0
NotesBy (Some known) old new key index = new ≡ old
NotesBy None old new key index = Adds old new key index

-- the key gets the index, unless it has one
abbrev pub Notes : List (List ℕ × ℕ) → List (List ℕ × ℕ) → List ℕ → ℕ → Type 0
Notes old new key index = NotesBy (index_in old key) old new key index
