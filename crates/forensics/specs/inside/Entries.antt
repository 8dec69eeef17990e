-- What is kept of each block that was added to a history, and how a chain is followed through it. A list of entries has the latest
-- block's first here; they are kept in the order of the blocks.
use Rattle.std.specs.Prelude.{◌≡◌, ℕ, Bool, true, All, length, List, [], ◌∷◌, map, reverse, Option, Some, None, if◌then◌else◌}
use Rattle.std.specs.List.{find}
use Rattle.std.specs.Option.{option_map}
use Rattle.beacon_types.specs.Equality.{same_root, same_checkpoint}
use Rattle.beacon_types.specs.declared.checkpoint.Checkpoint.{Checkpoint}
use Rattle.spec_state.specs.declared.plain.PlainState.{PlainState}
use Rattle.spec_forensics.specs.Histories.{AcceptedBlock}
use Rattle.spec_forensics.specs.Verdict.{first_moved}
use Rattle.forensics.specs.declared.entries.Entry.{Entry}

unfoldable pub entry_of : PlainState → AcceptedBlock → Entry
entry_of genesis b = record { root = b.root; parent = b.block.parent_root; finalized = b.state.finalized_checkpoint; moved = first_moved genesis b.entered }

-- those of a history's blocks, in the order of these
unfoldable pub entries_of : PlainState → List AcceptedBlock → List Entry
entries_of genesis blocks = reverse (map (entry_of genesis) blocks)

-- Entries are those of a history's blocks, each of which has a root
pub record IsKeptOf (genesis : PlainState) (blocks : List AcceptedBlock) (entries : List Entry) : Type 0 where
  pub same : entries ≡ entries_of genesis blocks
  pub rooted : All (λ b. length b.root ≡ 32) blocks

-- whether a root is on the chain that ends with a root
unfoldable pub reaches : List ℕ → List ℕ → List Entry → List ℕ → Bool
reaches genesis_root ancestor [] root = same_root genesis_root ancestor
reaches genesis_root ancestor (e ∷ earlier) root =
    if same_root e.root root then (if same_root e.root ancestor then true else reaches genesis_root ancestor earlier e.parent)
    else reaches genesis_root ancestor earlier root

-- the move of a block, and else one that was found
unfoldable pub move_or : Entry → Option ℕ → Option (List ℕ × ℕ) → Option (List ℕ × ℕ)
move_or e (Some epoch) found = Some (e.root, epoch)
move_or e None found = found

-- the earliest move on the chain that ends with a root, and else one that was found
unfoldable pub earliest : List Entry → List ℕ → Option (List ℕ × ℕ) → Option (List ℕ × ℕ)
earliest [] root found = found
earliest (e ∷ earlier) root found =
    if same_root e.root root then earliest earlier e.parent (move_or e e.moved found) else earliest earlier root found

-- the root of the first entry, in the order of the blocks, that has a finalised checkpoint
unfoldable pub finalizing : List Entry → Checkpoint → Option (List ℕ)
finalizing entries finalized = option_map (λ e. e.root) (find (λ e. same_checkpoint e.finalized finalized) entries)
