-- Anchors: which states with their blocks fork choice can begin at (fork-choice.md, "get_forkchoice_store", which asks for a block
-- with the state's root), and the first of the ten things that can be wrong with the bytes of both.
use Rattle.std.specs.Prelude.{ℕ, ◌+◌, ◌*◌, ◌^◌, not, List, length, nat_lt, ◌==◌, Option, Some, None, Result, Ok, Err, if◌then◌else◌}
use Rattle.bc_preset.specs.declared.configuration.ConfigValues.{ConfigValues}
use Rattle.bc_preset.specs.declared.presets.Preset.{Preset}
use Rattle.beacon_types.specs.Equality.{same_root}
use Rattle.beacon_types.specs.Blocks.{block_codec}
use Rattle.beacon_types.specs.declared.block.BeaconBlock.{BeaconBlock}
use Rattle.spec_state.specs.declared.plain.PlainState.{PlainState}
use Rattle.spec_state.specs.Misc.{compute_start_slot_at_epoch}
use Rattle.spec_state.specs.Accessors.{get_current_epoch}
use Rattle.spec_state.specs.Constants.{max_genesis_len}
use Rattle.spec_state.specs.Genesis.{header_root_of}
use Rattle.spec_state.specs.States.{state_codec}
use Rattle.spec_fork_choice.specs.Soundness.{is_sound}
use Rattle.spec_fork_choice.specs.declared.fault.AnchorFault.{AnchorFault}
use Rattle.spec_fork_choice.specs.declared.fault.AnchorFault.TheVariants as faults

-- when the slot of a state begins
unfoldable pub time_of_slot : ConfigValues → PlainState → ℕ
time_of_slot config state = state.genesis_time + config.seconds_per_slot * state.slot

-- What is wrong with a state and a block, if anything is. The state begins an epoch, at the block's slot; it is sound; the block
-- names the state's root, and is the state's latest block; and the slot's time fits in 64 bits
unfoldable pub anchor_fault : ConfigValues → PlainState → BeaconBlock → Option AnchorFault
anchor_fault config state block =
    let state_root : List ℕ = (state_codec state.preset).hash_tree_root state in
    let block_root : List ℕ = block_codec.hash_tree_root block in
    if not (compute_start_slot_at_epoch state.preset (get_current_epoch state) == state.slot) then Some (faults.EpochStart state.slot)
    else if not (state.slot == block.slot) then Some (faults.BlockSlot state.slot block.slot)
    else if not (is_sound state) then Some faults.Unsound
    else if not (same_root state_root block.state_root) then Some (faults.StateRoot state_root block.state_root)
    else if not (same_root (header_root_of state) block_root) then Some (faults.Header (header_root_of state) block_root)
    else if not (nat_lt (time_of_slot config state) (2 ^ 64)) then Some (faults.Time state.genesis_time state.slot)
    else None

-- how many bytes the file of a block may have: 2 ^ 22
abbrev pub max_block_len : ℕ
max_block_len = 4194304

-- the state that a file holds, whatever is wrong with it otherwise
abbrev pub read_state : Option PlainState → Result PlainState AnchorFault
read_state None = Err faults.StateNotAWriting
read_state (Some state) = Ok state

unfoldable pub anchor_state_of : Preset → List ℕ → Result PlainState AnchorFault
anchor_state_of preset bytes = if nat_lt max_genesis_len (length bytes) then Err faults.StateTooLong else read_state ((state_codec preset).deserialize bytes)

-- the block, unless it and the state are no anchor
abbrev pub unless_fault : BeaconBlock → Option AnchorFault → Result BeaconBlock AnchorFault
unless_fault block (Some fault) = Err fault
unless_fault block None = Ok block

abbrev pub checked_block : ConfigValues → PlainState → Option BeaconBlock → Result BeaconBlock AnchorFault
checked_block config state None = Err faults.BlockNotAWriting
checked_block config state (Some block) = unless_fault block (anchor_fault config state block)

-- the block that a file holds, as the anchor of a state
unfoldable pub anchor_block_of : ConfigValues → PlainState → List ℕ → Result BeaconBlock AnchorFault
anchor_block_of config state bytes = if nat_lt max_block_len (length bytes) then Err faults.BlockTooLong else checked_block config state (block_codec.deserialize bytes)

-- the state and the block that two files hold, or the first fault
abbrev pub with_block : PlainState → Result BeaconBlock AnchorFault → Result (PlainState × BeaconBlock) AnchorFault
with_block state (Err fault) = Err fault
with_block state (Ok block) = Ok (state, block)

abbrev pub with_state : ConfigValues → List ℕ → Result PlainState AnchorFault → Result (PlainState × BeaconBlock) AnchorFault
with_state config block (Err fault) = Err fault
with_state config block (Ok state) = with_block state (anchor_block_of config state block)

unfoldable pub anchor_of : ConfigValues → List ℕ → List ℕ → Result (PlainState × BeaconBlock) AnchorFault
anchor_of config state block = with_state config block (anchor_state_of config.preset state)
