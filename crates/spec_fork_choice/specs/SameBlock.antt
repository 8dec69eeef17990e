-- Equality of blocks, as a condition computes it: field by field. Lists are equal where they are as long and their items are.
use Rattle.std.specs.Prelude.{ℕ, List, Bool, ◌==◌, ◌&&◌, nat_eq}
use Rattle.std.specs.Bool.{beq}
use Rattle.std.specs.Cmp.Lexicographic.{pointwise}
use Rattle.beacon_types.specs.Equality.{same_root, same_data, same_eth1_data, same_header}
use Rattle.beacon_types.specs.declared.signed_header.SignedBeaconBlockHeader.{SignedBeaconBlockHeader}
use Rattle.beacon_types.specs.declared.indexed_attestation.IndexedAttestation.{IndexedAttestation}
use Rattle.beacon_types.specs.declared.deposit_data.DepositData.{DepositData}
use Rattle.beacon_types.specs.declared.deposit.Deposit.{Deposit}
use Rattle.beacon_types.specs.declared.voluntary_exit.VoluntaryExit.{VoluntaryExit}
use Rattle.beacon_types.specs.declared.signed_exit.SignedVoluntaryExit.{SignedVoluntaryExit}
use Rattle.beacon_types.specs.declared.proposer_slashing.ProposerSlashing.{ProposerSlashing}
use Rattle.beacon_types.specs.declared.attester_slashing.AttesterSlashing.{AttesterSlashing}
use Rattle.beacon_types.specs.declared.attestation.Attestation.{Attestation}
use Rattle.beacon_types.specs.declared.body.BeaconBlockBody.{BeaconBlockBody}
use Rattle.beacon_types.specs.declared.block.BeaconBlock.{BeaconBlock}

-- of bytes, and of lists of numbers
abbrev pub same_numbers : List ℕ → List ℕ → Bool
same_numbers a b = pointwise nat_eq a b

-- of lists of bits
abbrev pub same_bits : List Bool → List Bool → Bool
same_bits a b = pointwise beq a b

unfoldable pub same_signed_header : SignedBeaconBlockHeader → SignedBeaconBlockHeader → Bool
same_signed_header a b = same_header a.message b.message && same_numbers a.signature b.signature

unfoldable pub same_proposer_slashing : ProposerSlashing → ProposerSlashing → Bool
same_proposer_slashing a b = same_signed_header a.signed_header_1 b.signed_header_1 && same_signed_header a.signed_header_2 b.signed_header_2

unfoldable pub same_indexed_attestation : IndexedAttestation → IndexedAttestation → Bool
same_indexed_attestation a b =
    same_numbers a.attesting_indices b.attesting_indices && (same_data a.content b.content && same_numbers a.signature b.signature)

unfoldable pub same_attester_slashing : AttesterSlashing → AttesterSlashing → Bool
same_attester_slashing a b = same_indexed_attestation a.attestation_1 b.attestation_1 && same_indexed_attestation a.attestation_2 b.attestation_2

unfoldable pub same_attestation : Attestation → Attestation → Bool
same_attestation a b = same_bits a.aggregation_bits b.aggregation_bits && (same_data a.content b.content && same_numbers a.signature b.signature)

unfoldable pub same_deposit_data : DepositData → DepositData → Bool
same_deposit_data a b =
    same_numbers a.pubkey b.pubkey
    && (same_numbers a.withdrawal_credentials b.withdrawal_credentials && ((a.amount == b.amount) && same_numbers a.signature b.signature))

unfoldable pub same_deposit : Deposit → Deposit → Bool
same_deposit a b = pointwise same_root a.proof b.proof && same_deposit_data a.content b.content

unfoldable pub same_exit : VoluntaryExit → VoluntaryExit → Bool
same_exit a b = (a.epoch == b.epoch) && (a.validator_index == b.validator_index)

unfoldable pub same_signed_exit : SignedVoluntaryExit → SignedVoluntaryExit → Bool
same_signed_exit a b = same_exit a.message b.message && same_numbers a.signature b.signature

-- the lists of two bodies
unfoldable pub same_operations : BeaconBlockBody → BeaconBlockBody → Bool
same_operations a b =
    pointwise same_proposer_slashing a.proposer_slashings b.proposer_slashings
    && (pointwise same_attester_slashing a.attester_slashings b.attester_slashings
    && (pointwise same_attestation a.attestations b.attestations
    && (pointwise same_deposit a.deposits b.deposits && pointwise same_signed_exit a.voluntary_exits b.voluntary_exits)))

unfoldable pub same_body : BeaconBlockBody → BeaconBlockBody → Bool
same_body a b =
    same_numbers a.randao_reveal b.randao_reveal
    && (same_eth1_data a.eth1_data b.eth1_data && (same_root a.graffiti b.graffiti && same_operations a b))

-- of two blocks
unfoldable pub same_block : BeaconBlock → BeaconBlock → Bool
same_block a b =
    (a.slot == b.slot)
    && ((a.proposer_index == b.proposer_index) && (same_root a.parent_root b.parent_root && (same_root a.state_root b.state_root && same_body a.body b.body)))
