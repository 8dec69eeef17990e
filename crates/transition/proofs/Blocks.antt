-- A block keeps a state sound, with what the code knows of it, and leaves its slot and preset.
use Rattle.std.proofs.Common.{◌≡◌, ◌<◌, ◌≤◌, ◌^◌, ◌/◌, arith}
use Rattle.bc_words.specs.Outcome.{done}
use Rattle.bc_preset.specs.laws.Bounds.{HasPresetBounds}
use Rattle.bc_preset.specs.declared.configuration.ConfigValues.{ConfigValues}
use Rattle.beacon_types.specs.declared.block.BeaconBlock.{BeaconBlock}
use Rattle.spec_state.specs.declared.plain.PlainState.{PlainState}
use Rattle.spec_state.specs.Constants.{far_future_epoch}
use Rattle.spec_state.specs.Accessors.{get_current_epoch}
use Rattle.spec_state.specs.Soundness.{IsSound}
use Rattle.spec_blocks.specs.ProcessBlock.{process_block}
use Rattle.spec_blocks.proofs.SoundBlock.{block_sound as sound_behind}
use Rattle.spec_transition.proofs.BlockStays.{block_stays}

before : (s : PlainState) → get_current_epoch s ≤ 2 ^ 61 → s.slot / s.preset.slots_per_epoch < far_future_epoch
unfolding get_current_epoch
before s low = omega arith

pub block_sound : (s t : PlainState) (block : BeaconBlock) (config : ConfigValues) → process_block s block config ≡ done t → block.slot ≡ s.slot → HasPresetBounds s.preset → get_current_epoch s ≤ 2 ^ 61 → IsSound s → IsSound t
block_sound s t block config is same bounds low sound = sound_behind s t block config is same bounds (before s low) sound

pub block_slot : (s t : PlainState) (block : BeaconBlock) (config : ConfigValues) → process_block s block config ≡ done t → t.slot ≡ s.slot
block_slot s t block config is = (block_stays s t block config is).slot

pub block_preset : (s t : PlainState) (block : BeaconBlock) (config : ConfigValues) → process_block s block config ≡ done t → t.preset ≡ s.preset
block_preset s t block config is = (block_stays s t block config is).preset
