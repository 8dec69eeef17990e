-- The maker's genesis is within the limits of a state, so one can be built.
use Rattle.std.proofs.Common.{ℕ, List, ◌++◌, map, replicate, refl, arith}
use Rattle.std.specs.List.{range_with_len}
use Rattle.ssz_codec.specs.Basic.{uint64, bytes4, bytes32, bytes48}
use Rattle.ssz_codec.specs.Lists.{list_codec}
use Rattle.ssz_codec.specs.Layout.{OffsetsFit}
use Rattle.ssz_codec.specs.laws.Basic.{number_fits}
use Rattle.ssz_codec.specs.laws.Layout.{IsBytes-append}
use Rattle.hash_tree.specs.Merkle.{uint_to_bytes, mix_in_length, merkleize, merkle_root, depth_of, depth_from}
use Rattle.bc_preset.specs.Presets.{IsPreset}
use Rattle.bc_preset.specs.declared.presets.Preset.{Preset}
use Rattle.bc_preset.proofs.Bounds.{preset_bounds}
use Rattle.beacon_types.specs.declared.validator.Validator.{Validator}
use Rattle.beacon_types.specs.Containers.{validator_codec}
use Rattle.beacon_types.specs.declared.body.BeaconBlockBody.{BeaconBlockBody}
use Rattle.beacon_types.specs.Blocks.{empty_body_root, block_body_codec, default_block_body}
use Rattle.spec_state.specs.Limits.{IsState, IsInRange}
use Rattle.spec_drill.specs.Plan.{slot_digest}
use Rattle.spec_drill.specs.MakeGenesis.{made_validator, made_genesis}
use Rattle.spec_state.proofs.Digests.{hash_within, replicate_fits, zero_root_within}
use Rattle.spec_drill.proofs.Committees.{length_replicate}
use Rattle.spec_drill.proofs.Written.{digest_within, eth1_within}
use Rattle.spec_drill.proofs.Genesis.{all_replicated, all_made}

pub made_genesis_is_state : (preset : Preset) (number : ℕ) → IsPreset preset → IsState (made_genesis preset number)
unfolding made_genesis
made_genesis_is_state preset number is =
    let limit = (preset_bounds preset is).validator_registry_limit in
    record {
      preset_is = is;
      block_roots_len = length_replicate _ _;
      state_roots_len = length_replicate _ _;
      historical_roots_len = omega arith;
      eth1_data_votes_len = omega arith;
      validators_len = omega arith;
      balances_len = omega arith;
      randao_mixes_len = length_replicate _ _;
      slashings_len = length_replicate _ _;
      previous_epoch_attestations_len = omega arith;
      current_epoch_attestations_len = omega arith;
    }

key_within : (number i : ℕ) → bytes48.Within (uint_to_bytes i ++ uint_to_bytes number ++ replicate 32 0)
unfolding uint_to_bytes
key_within number i = (refl, IsBytes-append (uint_to_bytes i ++ uint_to_bytes number) (replicate 32 0) (IsBytes-append (uint_to_bytes i) (uint_to_bytes number) (number_fits i) (number_fits number)) (replicate_fits 32 0 (omega arith)))

made_validator_within : (number i : ℕ) → validator_codec.Within (made_validator number i)
unfolding made_validator OffsetsFit
made_validator_within number i = (((((((((tt, key_within number i), zero_root_within), (omega arith)), tt), (omega arith)), (omega arith)), (omega arith)), (omega arith)), tt)

list_root_within : (limit : ℕ) (vs : List Validator) → bytes32.Within ((list_codec validator_codec limit).hash_tree_root vs)
unfolding mix_in_length
list_root_within limit vs = hash_within _

body_root_within : (b : BeaconBlockBody) → bytes32.Within (block_body_codec.hash_tree_root b)
unfolding merkleize merkle_root depth_of depth_from
body_root_within b = hash_within _

empty_root_within : bytes32.Within empty_body_root
unfolding empty_body_root
empty_root_within = body_root_within default_block_body

version_within : bytes4.Within (replicate 4 0)
version_within = (refl, replicate_fits 4 0 (omega arith))

pub made_genesis_in_range : (preset : Preset) (number : ℕ) → IsInRange (made_genesis preset number)
unfolding made_genesis OffsetsFit
made_genesis_in_range preset number = record {
  genesis_time = omega arith;
  genesis_validators_root = list_root_within preset.validator_registry_limit (map (made_validator number) (range_with_len 0 64));
  slot = omega arith;
  fork = ((((tt, version_within), version_within), (omega arith)), tt);
  latest_block_header = ((((((tt, (omega arith)), (omega arith)), zero_root_within), zero_root_within), empty_root_within), tt);
  block_roots = all_replicated bytes32.Within preset.slots_per_historical_root _ zero_root_within;
  state_roots = all_replicated bytes32.Within preset.slots_per_historical_root _ zero_root_within;
  historical_roots = tt;
  eth1_data = eth1_within;
  eth1_data_votes = tt;
  eth1_deposit_index = omega arith;
  validators = all_made validator_codec.Within number 0 64 (made_validator_within number);
  balances = all_replicated uint64.Within 64 32_000_000_000 (omega arith);
  randao_mixes = all_replicated bytes32.Within preset.epochs_per_historical_vector (slot_digest number 0) (digest_within number 0);
  slashings = all_replicated uint64.Within preset.epochs_per_slashings_vector 0 (omega arith);
  previous_epoch_attestations = tt;
  current_epoch_attestations = tt;
  justification_bits = refl;
  previous_justified_checkpoint = (((tt, (omega arith)), zero_root_within), tt);
  current_justified_checkpoint = (((tt, (omega arith)), zero_root_within), tt);
  finalized_checkpoint = (((tt, (omega arith)), zero_root_within), tt);
}
