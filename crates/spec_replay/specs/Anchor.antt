-- The run of `anchor CONFIG STATE BLOCK RECORD`: from the bytes of a configuration, a state, its block and a record to lines.
use Rattle.std.specs.Prelude.{ℕ, List, Option, Some, None, Result, Ok, Err}
use Rattle.bc_preset.specs.Configs.{config_of}
use Rattle.bc_preset.specs.declared.configuration.ConfigValues.{ConfigValues}
use Rattle.bc_preset.specs.declared.faults.ConfigFault.{ConfigFault}
use Rattle.beacon_types.specs.declared.block.BeaconBlock.{BeaconBlock}
use Rattle.spec_state.specs.declared.plain.PlainState.{PlainState}
use Rattle.spec_fork_choice.specs.Anchor.{anchor_block_of, anchor_state_of}
use Rattle.spec_fork_choice.specs.GetForkchoiceStore.{get_forkchoice_store}
use Rattle.spec_fork_choice.specs.OnEvent.{first_clash}
use Rattle.spec_fork_choice.specs.declared.fault.AnchorFault.{AnchorFault}
use Rattle.spec_replay.specs.Run.{Run, bad_anchor, bad_config, over, missing, after_file, with_store}

-- the record on the store at the anchor, unless the anchor's block clashes
abbrev pub run_at : ConfigValues → PlainState → BeaconBlock → Option (List ℕ) → Run
run_at config state block events = with_store (first_clash block) (get_forkchoice_store config state block) events

-- the block with its state, or their first fault
unfoldable pub with_block : ConfigValues → PlainState → Result BeaconBlock AnchorFault → Option (List ℕ) → Run
with_block config state (Err fault) events = over (bad_anchor fault)
with_block config state (Ok block) events = run_at config state block events

-- the block's file, if it is there
unfoldable pub with_block_file : ConfigValues → PlainState → Option (List ℕ) → Option (List ℕ) → Run
with_block_file config state None events = missing
with_block_file config state (Some bytes) events = after_file (with_block config state (anchor_block_of config state bytes) events)

-- the state, or what keeps its file from holding one
unfoldable pub with_state : ConfigValues → Result PlainState AnchorFault → Option (List ℕ) → Option (List ℕ) → Run
with_state config (Err fault) block events = over (bad_anchor fault)
with_state config (Ok state) block events = with_block_file config state block events

-- the state's file, if it is there
unfoldable pub with_state_file : ConfigValues → Option (List ℕ) → Option (List ℕ) → Option (List ℕ) → Run
with_state_file config None block events = missing
with_state_file config (Some bytes) block events = after_file (with_state config (anchor_state_of config.preset bytes) block events)

-- the configuration, or its first fault
unfoldable pub with_config : Result ConfigValues ConfigFault → Option (List ℕ) → Option (List ℕ) → Option (List ℕ) → Run
with_config (Err reason) state block events = over (bad_config reason)
with_config (Ok config) state block events = with_state_file config state block events

-- the run of the command: the files of configuration, state, block and record, if they are there
unfoldable pub anchor_run : Option (List ℕ) → Option (List ℕ) → Option (List ℕ) → Option (List ℕ) → Run
anchor_run None state block events = missing
anchor_run (Some bytes) state block events = after_file (with_config (config_of bytes) state block events)
