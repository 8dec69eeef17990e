-- The equality of blocks that a condition computes is equality, container by container.
use Rattle.std.proofs.Common.{◌≡◌}
use Rattle.std.specs.Prelude.{Bool}
use Rattle.std.specs.Bool.{Decides}
use Rattle.std.specs.Cmp.{unsigned_Decides, booleans_Decides}
use Rattle.std.specs.Cmp.Lexicographic.{pointwise_decides, bytes_decides}
use Rattle.std.proofs.lemmas.Bool.Decides.{Decides-and, Decides-like}
use Rattle.beacon_types.specs.Equality.{same_eth1_data, same_header}
use Rattle.beacon_types.proofs.Equality.{data_decides}
use Rattle.beacon_types.specs.declared.eth1_data.Eth1Data.{Eth1Data}
use Rattle.beacon_types.specs.declared.block_header.BeaconBlockHeader.{BeaconBlockHeader}
use Rattle.beacon_types.specs.declared.signed_header.SignedBeaconBlockHeader.{SignedBeaconBlockHeader}
use Rattle.beacon_types.specs.declared.indexed_attestation.IndexedAttestation.{IndexedAttestation}
use Rattle.beacon_types.specs.declared.deposit_data.DepositData.{DepositData}
use Rattle.beacon_types.specs.declared.deposit.Deposit.{Deposit}
use Rattle.beacon_types.specs.declared.voluntary_exit.VoluntaryExit.{VoluntaryExit}
use Rattle.beacon_types.specs.declared.signed_exit.SignedVoluntaryExit.{SignedVoluntaryExit}
use Rattle.beacon_types.specs.declared.proposer_slashing.ProposerSlashing.{ProposerSlashing}
use Rattle.beacon_types.specs.declared.attester_slashing.AttesterSlashing.{AttesterSlashing}
use Rattle.beacon_types.specs.declared.attestation.Attestation.{Attestation}
use Rattle.beacon_types.specs.declared.body.BeaconBlockBody.{BeaconBlockBody}
use Rattle.beacon_types.specs.declared.block.BeaconBlock.{BeaconBlock}
use Rattle.spec_fork_choice.specs.SameBlock.{same_signed_header, same_proposer_slashing, same_indexed_attestation, same_attester_slashing, same_attestation, same_deposit_data, same_deposit, same_exit, same_signed_exit, same_operations, same_body, same_block}

-- the fact first, so that its statement is known to what follows
like : {P Q : Type 0} {r : Bool} → Decides r P → (P → Q) → (Q → P) → Decides r Q
like d f g = Decides-like _ f g d

eth1_data_decides : (a b : Eth1Data) → Decides (same_eth1_data a b) (a ≡ b)
eth1_data_decides a b =
    like
    (Decides-and _ _ (bytes_decides a.deposit_root b.deposit_root)
    (Decides-and _ _ (unsigned_Decides a.deposit_count b.deposit_count)
    (bytes_decides a.block_hash b.block_hash)))
    (λ h i. record { deposit_root = h.0 i; deposit_count = h.1.0 i; block_hash = h.1.1 i })
    (λ e. (λ i. (e i).deposit_root, (λ i. (e i).deposit_count, λ i. (e i).block_hash)))

header_decides : (a b : BeaconBlockHeader) → Decides (same_header a b) (a ≡ b)
header_decides a b =
    like
    (Decides-and _ _ (unsigned_Decides a.slot b.slot)
    (Decides-and _ _ (unsigned_Decides a.proposer_index b.proposer_index)
    (Decides-and _ _ (bytes_decides a.parent_root b.parent_root)
    (Decides-and _ _ (bytes_decides a.state_root b.state_root)
    (bytes_decides a.body_root b.body_root)))))
    (λ h i. record { slot = h.0 i; proposer_index = h.1.0 i; parent_root = h.1.1.0 i; state_root = h.1.1.1.0 i; body_root = h.1.1.1.1 i })
    (λ e. (λ i. (e i).slot, (λ i. (e i).proposer_index, (λ i. (e i).parent_root, (λ i. (e i).state_root, λ i. (e i).body_root)))))

signed_header_decides : (a b : SignedBeaconBlockHeader) → Decides (same_signed_header a b) (a ≡ b)
unfolding same_signed_header
signed_header_decides a b =
    like
    (Decides-and _ _ (header_decides a.message b.message)
    (bytes_decides a.signature b.signature))
    (λ h i. record { message = h.0 i; signature = h.1 i })
    (λ e. (λ i. (e i).message, λ i. (e i).signature))

proposer_slashing_decides : (a b : ProposerSlashing) → Decides (same_proposer_slashing a b) (a ≡ b)
unfolding same_proposer_slashing
proposer_slashing_decides a b =
    like
    (Decides-and _ _ (signed_header_decides a.signed_header_1 b.signed_header_1)
    (signed_header_decides a.signed_header_2 b.signed_header_2))
    (λ h i. record { signed_header_1 = h.0 i; signed_header_2 = h.1 i })
    (λ e. (λ i. (e i).signed_header_1, λ i. (e i).signed_header_2))

indexed_attestation_decides : (a b : IndexedAttestation) → Decides (same_indexed_attestation a b) (a ≡ b)
unfolding same_indexed_attestation
indexed_attestation_decides a b =
    like
    (Decides-and _ _ (bytes_decides a.attesting_indices b.attesting_indices)
    (Decides-and _ _ (data_decides a.content b.content)
    (bytes_decides a.signature b.signature)))
    (λ h i. record { attesting_indices = h.0 i; content = h.1.0 i; signature = h.1.1 i })
    (λ e. (λ i. (e i).attesting_indices, (λ i. (e i).content, λ i. (e i).signature)))

pub attester_slashing_decides : (a b : AttesterSlashing) → Decides (same_attester_slashing a b) (a ≡ b)
unfolding same_attester_slashing
attester_slashing_decides a b =
    like
    (Decides-and _ _ (indexed_attestation_decides a.attestation_1 b.attestation_1)
    (indexed_attestation_decides a.attestation_2 b.attestation_2))
    (λ h i. record { attestation_1 = h.0 i; attestation_2 = h.1 i })
    (λ e. (λ i. (e i).attestation_1, λ i. (e i).attestation_2))

attestation_decides : (a b : Attestation) → Decides (same_attestation a b) (a ≡ b)
unfolding same_attestation
attestation_decides a b =
    like
    (Decides-and _ _ (pointwise_decides booleans_Decides a.aggregation_bits b.aggregation_bits)
    (Decides-and _ _ (data_decides a.content b.content)
    (bytes_decides a.signature b.signature)))
    (λ h i. record { aggregation_bits = h.0 i; content = h.1.0 i; signature = h.1.1 i })
    (λ e. (λ i. (e i).aggregation_bits, (λ i. (e i).content, λ i. (e i).signature)))

deposit_data_decides : (a b : DepositData) → Decides (same_deposit_data a b) (a ≡ b)
unfolding same_deposit_data
deposit_data_decides a b =
    like
    (Decides-and _ _ (bytes_decides a.pubkey b.pubkey)
    (Decides-and _ _ (bytes_decides a.withdrawal_credentials b.withdrawal_credentials)
    (Decides-and _ _ (unsigned_Decides a.amount b.amount)
    (bytes_decides a.signature b.signature))))
    (λ h i. record { pubkey = h.0 i; withdrawal_credentials = h.1.0 i; amount = h.1.1.0 i; signature = h.1.1.1 i })
    (λ e. (λ i. (e i).pubkey, (λ i. (e i).withdrawal_credentials, (λ i. (e i).amount, λ i. (e i).signature))))

deposit_decides : (a b : Deposit) → Decides (same_deposit a b) (a ≡ b)
unfolding same_deposit
deposit_decides a b =
    like
    (Decides-and _ _ (pointwise_decides bytes_decides a.proof b.proof)
    (deposit_data_decides a.content b.content))
    (λ h i. record { proof = h.0 i; content = h.1 i })
    (λ e. (λ i. (e i).proof, λ i. (e i).content))

exit_decides : (a b : VoluntaryExit) → Decides (same_exit a b) (a ≡ b)
unfolding same_exit
exit_decides a b =
    like
    (Decides-and _ _ (unsigned_Decides a.epoch b.epoch)
    (unsigned_Decides a.validator_index b.validator_index))
    (λ h i. record { epoch = h.0 i; validator_index = h.1 i })
    (λ e. (λ i. (e i).epoch, λ i. (e i).validator_index))

signed_exit_decides : (a b : SignedVoluntaryExit) → Decides (same_signed_exit a b) (a ≡ b)
unfolding same_signed_exit
signed_exit_decides a b =
    like
    (Decides-and _ _ (exit_decides a.message b.message)
    (bytes_decides a.signature b.signature))
    (λ h i. record { message = h.0 i; signature = h.1 i })
    (λ e. (λ i. (e i).message, λ i. (e i).signature))

-- that the lists of two bodies are equal
abbrev Operations : BeaconBlockBody → BeaconBlockBody → Type 0
Operations a b = (a.proposer_slashings ≡ b.proposer_slashings) × ((a.attester_slashings ≡ b.attester_slashings) × ((a.attestations ≡ b.attestations) × ((a.deposits ≡ b.deposits) × (a.voluntary_exits ≡ b.voluntary_exits))))

operations_decides : (a b : BeaconBlockBody) → Decides (same_operations a b) (Operations a b)
unfolding same_operations
operations_decides a b =
    Decides-and _ _ (pointwise_decides proposer_slashing_decides a.proposer_slashings b.proposer_slashings)
    (Decides-and _ _ (pointwise_decides attester_slashing_decides a.attester_slashings b.attester_slashings)
    (Decides-and _ _ (pointwise_decides attestation_decides a.attestations b.attestations)
    (Decides-and _ _ (pointwise_decides deposit_decides a.deposits b.deposits)
    (pointwise_decides signed_exit_decides a.voluntary_exits b.voluntary_exits))))

body_decides : (a b : BeaconBlockBody) → Decides (same_body a b) (a ≡ b)
unfolding same_body
body_decides a b =
    like
    (Decides-and _ _ (bytes_decides a.randao_reveal b.randao_reveal)
    (Decides-and _ _ (eth1_data_decides a.eth1_data b.eth1_data)
    (Decides-and _ _ (bytes_decides a.graffiti b.graffiti)
    (operations_decides a b))))
    (λ h i. record { randao_reveal = h.0 i; eth1_data = h.1.0 i; graffiti = h.1.1.0 i; proposer_slashings = h.1.1.1.0 i; attester_slashings = h.1.1.1.1.0 i; attestations = h.1.1.1.1.1.0 i; deposits = h.1.1.1.1.1.1.0 i; voluntary_exits = h.1.1.1.1.1.1.1 i })
    (λ e. (λ i. (e i).randao_reveal, (λ i. (e i).eth1_data, (λ i. (e i).graffiti, (λ i. (e i).proposer_slashings, (λ i. (e i).attester_slashings, (λ i. (e i).attestations, (λ i. (e i).deposits, λ i. (e i).voluntary_exits))))))))

-- of two blocks
pub block_decides : (a b : BeaconBlock) → Decides (same_block a b) (a ≡ b)
unfolding same_block
block_decides a b =
    like
    (Decides-and _ _ (unsigned_Decides a.slot b.slot)
    (Decides-and _ _ (unsigned_Decides a.proposer_index b.proposer_index)
    (Decides-and _ _ (bytes_decides a.parent_root b.parent_root)
    (Decides-and _ _ (bytes_decides a.state_root b.state_root)
    (body_decides a.body b.body)))))
    (λ h i. record { slot = h.0 i; proposer_index = h.1.0 i; parent_root = h.1.1.0 i; state_root = h.1.1.1.0 i; body = h.1.1.1.1 i })
    (λ e. (λ i. (e i).slot, (λ i. (e i).proposer_index, (λ i. (e i).parent_root, (λ i. (e i).state_root, λ i. (e i).body)))))
