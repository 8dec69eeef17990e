-- The store of fork choice (fork-choice.md, "LatestMessage" and "Store"). Where our profile differs from the published text
-- a comment says so.
use Rattle.std.specs.Prelude.{ℕ, List, [], ◌∷◌, Bool, Option, None, is_some, slice_index_or, ◌==◌, if◌then◌else◌}
use Rattle.std.specs.List.{find, list_any}
use Rattle.std.specs.Option.{option_map_or}
use Rattle.bc_preset.specs.declared.configuration.ConfigValues.{ConfigValues}
use Rattle.beacon_types.specs.declared.checkpoint.Checkpoint.{Checkpoint}
use Rattle.beacon_types.specs.Equality.{same_root}
use Rattle.beacon_types.specs.declared.block.BeaconBlock.{BeaconBlock}
use Rattle.spec_state.specs.declared.plain.PlainState.{PlainState}
use Rattle.spec_state.specs.Genesis.{zero_root}

-- a kept block with its root and the state behind it: an entry of `blocks` and of `block_states`
pub record KeptBlock : Type 0 where
  pub root : List ℕ
  pub block : BeaconBlock
  pub state : PlainState

-- LatestMessage: the last vote of a validator, by its target's epoch
pub record LatestMessage : Type 0 where
  pub epoch : ℕ
  pub root : List ℕ

-- Store. It holds its configuration, as a state holds its preset. `blocks` are in the order in which they were first
-- accepted; `latest_messages` has a place for each validator up to the last that has one. `equivocating_indices`, which later
-- releases of the published text have, is a set: its members in ascending order. The states of checkpoints are no part of the
-- store: they are computed each time
pub record Store : Type 0 where
  pub config : ConfigValues
  pub time : ℕ
  pub genesis_time : ℕ
  pub justified_checkpoint : Checkpoint
  pub finalized_checkpoint : Checkpoint
  pub best_justified_checkpoint : Checkpoint
  pub proposer_boost_root : List ℕ
  pub blocks : List KeptBlock
  pub latest_messages : List (Option LatestMessage)
  pub equivocating_indices : List ℕ

-- store.blocks[root] with store.block_states[root], where the root is kept
unfoldable pub block_of : List KeptBlock → List ℕ → Option KeptBlock
block_of blocks root = find (λ kept. same_root kept.root root) blocks

-- root in store.blocks
unfoldable pub is_kept : List KeptBlock → List ℕ → Bool
is_kept blocks root = is_some (block_of blocks root)

-- the slot of a kept block, and the root of its parent. The published text asks for kept blocks alone; of another root
-- they are those of the default block
unfoldable pub slot_of : List KeptBlock → List ℕ → ℕ
slot_of blocks root = option_map_or (λ kept. kept.block.slot) (block_of blocks root) 0

unfoldable pub parent_of : List KeptBlock → List ℕ → List ℕ
parent_of blocks root = option_map_or (λ kept. kept.block.parent_root) (block_of blocks root) zero_root

-- the slot of the first kept block. All others are behind it
unfoldable pub first_slot : List KeptBlock → ℕ
first_slot [] = 0
first_slot (first ∷ later) = first.block.slot

-- the latest message of a validator, if it has one
unfoldable pub message_of : Store → ℕ → Option LatestMessage
message_of store validator = slice_index_or store.latest_messages validator None

-- i in store.equivocating_indices
unfoldable pub is_equivocating : Store → ℕ → Bool
is_equivocating store validator = list_any (λ index. index == validator) store.equivocating_indices

-- the message by which a validator weighs: its latest one, and none where it is equivocating
unfoldable pub vote_of : Store → ℕ → Option LatestMessage
vote_of store validator = if is_equivocating store validator then None else message_of store validator
