-- The containers keep the law of codecs. Proofs, not definitions.
use Rattle.std.proofs.Common.{◌≤◌, ◌^◌, refl, arith}
use Rattle.ssz_codec.specs.Lawful.{IsLawful, IsFixed}
use Rattle.ssz_codec.specs.laws.Containers.{start, ◌▸◌, container_of_lawful}
use Rattle.ssz_codec.specs.laws.Basic.{uint64_lawful, bytes_lawful, bytes32_lawful}
use Rattle.ssz_codec.specs.laws.Lists.{list_lawful, variable_list_lawful}
use Rattle.beacon_types.specs.laws.Containers.{eth1_data_lawful, signed_header_lawful, indexed_attestation_lawful, aggregation_bits_lawful, attestation_data_lawful, deposit_lawful, deposit_fixed, signed_exit_lawful, signed_exit_fixed}
use Rattle.beacon_types.specs.Blocks.{max_proposer_slashings, max_attester_slashings, max_attestations, max_deposits, max_voluntary_exits, proposer_slashing_fields, proposer_slashing_codec, attester_slashing_fields, attester_slashing_codec, attestation_fields, attestation_codec, block_body_fields, block_body_codec, block_fields, block_codec, signed_block_fields, signed_block_codec}

pub proposer_slashing_lawful : IsLawful proposer_slashing_codec
proposer_slashing_lawful = container_of_lawful proposer_slashing_fields (λ v. refl) (λ a. refl) (start ▸ signed_header_lawful ▸ signed_header_lawful)

pub proposer_slashing_fixed : IsFixed proposer_slashing_codec.field
proposer_slashing_fixed = omega arith

pub attester_slashing_lawful : IsLawful attester_slashing_codec
attester_slashing_lawful = container_of_lawful attester_slashing_fields (λ v. refl) (λ a. refl) (start ▸ indexed_attestation_lawful ▸ indexed_attestation_lawful)

pub attestation_lawful : IsLawful attestation_codec
attestation_lawful = container_of_lawful attestation_fields (λ v. refl) (λ a. refl) (start ▸ aggregation_bits_lawful ▸ attestation_data_lawful ▸ bytes_lawful 96)

pub block_body_lawful : IsLawful block_body_codec
block_body_lawful = container_of_lawful block_body_fields (λ v. refl) (λ a. refl)
    (start ▸ bytes_lawful 96 ▸ eth1_data_lawful ▸ bytes32_lawful
    ▸ list_lawful _ max_proposer_slashings proposer_slashing_fixed proposer_slashing_lawful
    ▸ variable_list_lawful _ max_attester_slashings attester_slashing_lawful
    ▸ variable_list_lawful _ max_attestations attestation_lawful
    ▸ list_lawful _ max_deposits deposit_fixed deposit_lawful
    ▸ list_lawful _ max_voluntary_exits signed_exit_fixed signed_exit_lawful)

pub block_lawful : IsLawful block_codec
block_lawful = container_of_lawful block_fields (λ v. refl) (λ a. refl)
    (start ▸ uint64_lawful ▸ uint64_lawful ▸ bytes32_lawful ▸ bytes32_lawful ▸ block_body_lawful)

pub signed_block_lawful : IsLawful signed_block_codec
signed_block_lawful = container_of_lawful signed_block_fields (λ v. refl) (λ a. refl) (start ▸ block_lawful ▸ bytes_lawful 96)

-- trees are at most 40 deep
pub proposer_slashings_low : max_proposer_slashings ≤ 2 ^ 40
proposer_slashings_low = omega arith

pub attester_slashings_low : max_attester_slashings ≤ 2 ^ 40
attester_slashings_low = omega arith

pub attestations_low : max_attestations ≤ 2 ^ 40
attestations_low = omega arith

pub deposits_low : max_deposits ≤ 2 ^ 40
deposits_low = omega arith

pub voluntary_exits_low : max_voluntary_exits ≤ 2 ^ 40
voluntary_exits_low = omega arith
