-- The end of a slot keeps a state sound.
use Rattle.std.proofs.Common.{◌≡◌, ℕ, Bool, true, false, if◌then◌else◌, refl, arith}
use Rattle.beacon_types.specs.declared.block_header.BeaconBlockHeader.{BeaconBlockHeader}
use Rattle.spec_state.specs.declared.plain.PlainState.{PlainState}
use Rattle.spec_state.specs.Genesis.{block_header_of, same_root, zero_root}
use Rattle.spec_state.specs.Accessors.{get_current_epoch, get_active_validator_indices, get_randao_mix}
use Rattle.spec_state.specs.Soundness.{IsSound}
use Rattle.spec_blocks.proofs.Sound.{still_sound}
use Rattle.spec_transition.specs.ProcessSlot.{process_slot}

-- of two headers of a slot, either is of the slot
either : (b : Bool) (x y : BeaconBlockHeader) (slot : ℕ) → x.slot ≡ slot → y.slot ≡ slot → (if b then x else y).slot ≡ slot
either true x y slot one other = one
either false x y slot one other = other

-- the header keeps its slot
pub header_slot : (s : PlainState) → (block_header_of s).slot ≡ s.latest_block_header.slot
unfolding block_header_of
header_slot s = either (same_root s.latest_block_header.state_root zero_root) _ _ s.latest_block_header.slot refl refl

-- the end of a slot keeps a state sound
pub slot_end_sound : (s : PlainState) → IsSound s → IsSound (process_slot s)
unfolding process_slot get_current_epoch get_active_validator_indices get_randao_mix
slot_end_sound s sound = still_sound s (process_slot s) (record {
  epoch = refl;
  slot = omega arith;
  current = record { preset = refl; active = refl; seed = refl };
  previous = record { preset = refl; active = refl; seed = refl };
  validators = omega arith;
  balances = sound.balances;
  header = let slot = header_slot s in omega (arith, sound.header);
  previous_justified = refl;
  current_justified = refl;
  finalized = refl;
  previous_attestations = refl;
  current_attestations = refl;
}) sound
