-- The containers keep the law of codecs. Proofs, not definitions.
use Rattle.std.proofs.Common.{◌≤◌, ◌^◌, ◌+◌, refl, arith}
use Rattle.ssz_codec.specs.Lawful.{IsLawful, IsFixed}
use Rattle.ssz_codec.specs.laws.Containers.{start, ◌▸◌, container_of_lawful}
use Rattle.ssz_codec.specs.laws.Basic.{uint64_lawful, boolean_lawful, bytes_lawful, bytes32_lawful, uint64_is_fixed, bytes32_is_fixed}
use Rattle.ssz_codec.specs.laws.BitLists.{bitlist_lawful}
use Rattle.ssz_codec.specs.laws.Lists.{list_lawful, vector_lawful}
use Rattle.beacon_types.specs.Limits.{max_validators_per_committee}
use Rattle.beacon_types.specs.Containers.{fork_fields, fork_codec, checkpoint_fields, checkpoint_codec, validator_fields, validator_codec, attestation_data_fields, attestation_data_codec, eth1_data_fields, eth1_data_codec, block_header_fields, block_header_codec, voluntary_exit_fields, voluntary_exit_codec, aggregation_bits_codec, pending_attestation_fields, pending_attestation_codec, deposit_data_fields, deposit_data_codec, indexed_attestation_fields, indexed_attestation_codec, deposit_contract_tree_depth, deposit_fields, deposit_codec, signed_header_fields, signed_header_codec, signed_exit_fields, signed_exit_codec}

pub fork_lawful : IsLawful fork_codec
fork_lawful = container_of_lawful fork_fields (λ v. refl) (λ a. refl) (start ▸ bytes_lawful 4 ▸ bytes_lawful 4 ▸ uint64_lawful)

pub checkpoint_lawful : IsLawful checkpoint_codec
checkpoint_lawful = container_of_lawful checkpoint_fields (λ v. refl) (λ a. refl) (start ▸ uint64_lawful ▸ bytes32_lawful)

pub validator_lawful : IsLawful validator_codec
validator_lawful = container_of_lawful validator_fields (λ v. refl) (λ a. refl)
    (start ▸ bytes_lawful 48 ▸ bytes32_lawful ▸ uint64_lawful ▸ boolean_lawful ▸ uint64_lawful ▸ uint64_lawful ▸ uint64_lawful ▸ uint64_lawful)

pub attestation_data_lawful : IsLawful attestation_data_codec
attestation_data_lawful = container_of_lawful attestation_data_fields (λ v. refl) (λ a. refl)
    (start ▸ uint64_lawful ▸ uint64_lawful ▸ bytes32_lawful ▸ checkpoint_lawful ▸ checkpoint_lawful)

pub eth1_data_lawful : IsLawful eth1_data_codec
eth1_data_lawful = container_of_lawful eth1_data_fields (λ v. refl) (λ a. refl) (start ▸ bytes32_lawful ▸ uint64_lawful ▸ bytes32_lawful)

pub block_header_lawful : IsLawful block_header_codec
block_header_lawful = container_of_lawful block_header_fields (λ v. refl) (λ a. refl)
    (start ▸ uint64_lawful ▸ uint64_lawful ▸ bytes32_lawful ▸ bytes32_lawful ▸ bytes32_lawful)

pub voluntary_exit_lawful : IsLawful voluntary_exit_codec
voluntary_exit_lawful = container_of_lawful voluntary_exit_fields (λ v. refl) (λ a. refl) (start ▸ uint64_lawful ▸ uint64_lawful)

pub aggregation_bits_lawful : IsLawful aggregation_bits_codec
aggregation_bits_lawful = bitlist_lawful max_validators_per_committee

pub pending_attestation_lawful : IsLawful pending_attestation_codec
pending_attestation_lawful = container_of_lawful pending_attestation_fields (λ v. refl) (λ a. refl)
    (start ▸ aggregation_bits_lawful ▸ attestation_data_lawful ▸ uint64_lawful ▸ uint64_lawful)

pub deposit_data_lawful : IsLawful deposit_data_codec
deposit_data_lawful = container_of_lawful deposit_data_fields (λ v. refl) (λ a. refl) (start ▸ bytes_lawful 48 ▸ bytes32_lawful ▸ uint64_lawful ▸ bytes_lawful 96)

pub indexed_attestation_lawful : IsLawful indexed_attestation_codec
indexed_attestation_lawful = container_of_lawful indexed_attestation_fields (λ v. refl) (λ a. refl)
    (start ▸ list_lawful _ max_validators_per_committee uint64_is_fixed uint64_lawful ▸ attestation_data_lawful ▸ bytes_lawful 96)

pub deposit_proof_low : deposit_contract_tree_depth + 1 ≤ 2 ^ 40
deposit_proof_low = omega arith

pub deposit_lawful : IsLawful deposit_codec
deposit_lawful = container_of_lawful deposit_fields (λ v. refl) (λ a. refl)
    (start ▸ vector_lawful _ (deposit_contract_tree_depth + 1) bytes32_is_fixed bytes32_lawful ▸ deposit_data_lawful)

pub signed_header_lawful : IsLawful signed_header_codec
signed_header_lawful = container_of_lawful signed_header_fields (λ v. refl) (λ a. refl) (start ▸ block_header_lawful ▸ bytes_lawful 96)

pub signed_exit_lawful : IsLawful signed_exit_codec
signed_exit_lawful = container_of_lawful signed_exit_fields (λ v. refl) (λ a. refl) (start ▸ voluntary_exit_lawful ▸ bytes_lawful 96)

-- those of fixed size
pub fork_fixed : IsFixed fork_codec.field
fork_fixed = omega arith

pub checkpoint_fixed : IsFixed checkpoint_codec.field
checkpoint_fixed = omega arith

pub validator_fixed : IsFixed validator_codec.field
validator_fixed = omega arith

pub attestation_data_fixed : IsFixed attestation_data_codec.field
attestation_data_fixed = omega arith

pub eth1_data_fixed : IsFixed eth1_data_codec.field
eth1_data_fixed = omega arith

pub block_header_fixed : IsFixed block_header_codec.field
block_header_fixed = omega arith

pub voluntary_exit_fixed : IsFixed voluntary_exit_codec.field
voluntary_exit_fixed = omega arith

pub deposit_data_fixed : IsFixed deposit_data_codec.field
deposit_data_fixed = omega arith

pub deposit_fixed : IsFixed deposit_codec.field
deposit_fixed = omega arith

pub signed_header_fixed : IsFixed signed_header_codec.field
signed_header_fixed = omega arith

pub signed_exit_fixed : IsFixed signed_exit_codec.field
signed_exit_fixed = omega arith
