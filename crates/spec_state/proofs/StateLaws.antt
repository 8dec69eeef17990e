-- The state of a preset keeps the law of codecs. Proofs, not definitions.
use Rattle.std.proofs.Common.{refl, arith}
use Rattle.ssz_codec.specs.Basic.{uint64, bytes32}
use Rattle.ssz_codec.specs.Lawful.{IsLawful}
use Rattle.ssz_codec.specs.laws.Basic.{uint64_lawful, bytes32_lawful, bitvector_lawful}
use Rattle.ssz_codec.specs.laws.Lists.{vector_lawful, list_lawful, variable_list_lawful}
use Rattle.ssz_codec.specs.laws.Containers.{AreLawful, start, ◌▸◌, and_given, container_of_lawful}
use Rattle.bc_preset.specs.declared.presets.Preset.{Preset}
use Rattle.beacon_types.specs.Containers.{validator_codec, eth1_data_codec, pending_attestation_codec}
use Rattle.beacon_types.specs.laws.Containers.{fork_lawful, checkpoint_lawful, validator_lawful, validator_fixed, eth1_data_lawful, eth1_data_fixed, block_header_lawful, pending_attestation_lawful}
use Rattle.spec_state.specs.States.{votes_limit, attestations_limit, state_fields, state_codec}

-- each field has a lawful codec
pub state_fields_lawful : (p : Preset) → AreLawful (state_fields p)
unfolding state_fields
state_fields_lawful p =
    and_given start
    ▸ uint64_lawful
    ▸ bytes32_lawful
    ▸ uint64_lawful
    ▸ fork_lawful
    ▸ block_header_lawful
    ▸ vector_lawful bytes32 p.slots_per_historical_root (omega arith) bytes32_lawful
    ▸ vector_lawful bytes32 p.slots_per_historical_root (omega arith) bytes32_lawful
    ▸ list_lawful bytes32 p.historical_roots_limit (omega arith) bytes32_lawful
    ▸ eth1_data_lawful
    ▸ list_lawful eth1_data_codec (votes_limit p) eth1_data_fixed eth1_data_lawful
    ▸ uint64_lawful
    ▸ list_lawful validator_codec p.validator_registry_limit validator_fixed validator_lawful
    ▸ list_lawful uint64 p.validator_registry_limit (omega arith) uint64_lawful
    ▸ vector_lawful bytes32 p.epochs_per_historical_vector (omega arith) bytes32_lawful
    ▸ vector_lawful uint64 p.epochs_per_slashings_vector (omega arith) uint64_lawful
    ▸ variable_list_lawful pending_attestation_codec (attestations_limit p) pending_attestation_lawful
    ▸ variable_list_lawful pending_attestation_codec (attestations_limit p) pending_attestation_lawful
    ▸ bitvector_lawful 4
    ▸ checkpoint_lawful
    ▸ checkpoint_lawful
    ▸ checkpoint_lawful

pub state_lawful : (p : Preset) → IsLawful (state_codec p)
unfolding state_fields state_codec
state_lawful p = container_of_lawful (state_fields p) (λ s. refl) (λ a. refl) (state_fields_lawful p)
