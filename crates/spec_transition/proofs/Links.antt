-- What the end of an epoch and a block leave of a state's place, of its latest block roots, of its justification bits and of its
-- checkpoints.
use Rattle.std.proofs.Common.{◌≡◌, ◌∙◌, ℕ, Bool, ◌+◌, ◌*◌, ◌%◌, ◌/◌, ◌&&◌, not, nat_lt, leb, ◌==◌, List, [], min, refl, ap, subst, inl, inr}
use Rattle.bc_words.specs.Outcome.{Outcome, done, checked_mul, checked_sum, checked_push}
use Rattle.bc_words.specs.declared.refusal.Refusal.TheVariants.{WrongProposer, ProposerSlashed}
use Rattle.bc_preset.specs.declared.presets.Preset.{Preset}
use Rattle.bc_preset.specs.declared.configuration.ConfigValues.{ConfigValues}
use Rattle.beacon_types.specs.declared.checkpoint.Checkpoint.{Checkpoint}
use Rattle.beacon_types.specs.declared.block_header.BeaconBlockHeader.{BeaconBlockHeader}
use Rattle.beacon_types.specs.declared.block.BeaconBlock.{BeaconBlock}
use Rattle.spec_state.specs.declared.plain.PlainState.{PlainState}
use Rattle.spec_state.specs.States.{votes_limit}
use Rattle.spec_state.specs.Misc.{compute_activation_exit_epoch}
use Rattle.spec_state.specs.Predicates.{is_active_validator, is_eligible_for_activation_queue}
use Rattle.spec_state.specs.Accessors.{get_current_epoch, get_total_active_balance, get_beacon_proposer_index}
use Rattle.spec_blocks.specs.Checks.{check, item_at, each_of}
use Rattle.spec_blocks.specs.ProcessBlockHeader.{process_block_header}
use Rattle.spec_blocks.specs.ProcessRandao.{process_randao}
use Rattle.spec_blocks.specs.ProcessEth1Data.{process_eth1_data, count_votes}
use Rattle.spec_blocks.specs.ProcessBlock.{process_block}
use Rattle.spec_blocks.proofs.Done.{on_the_way, chosen, same_value}
use Rattle.spec_blocks.proofs.Each.{each_keeps}
use Rattle.spec_epochs.specs.Each.{validator_indices, checked_map}
use Rattle.spec_epochs.specs.GetAttestationDeltas.{get_attestation_deltas}
use Rattle.spec_epochs.specs.ProcessRewardsAndPenalties.{process_rewards_and_penalties, rewarded_balance}
use Rattle.spec_epochs.specs.ProcessRegistryUpdates.{process_registry_updates, eligibility_and_ejection, with_eligibility}
use Rattle.spec_epochs.specs.ProcessSlashings.{process_slashings, penalized_balance}
use Rattle.spec_epochs.specs.ProcessEth1DataReset.{process_eth1_data_reset}
use Rattle.spec_epochs.specs.ProcessEffectiveBalanceUpdates.{process_effective_balance_updates, updated_validator}
use Rattle.spec_epochs.specs.ProcessSlashingsReset.{process_slashings_reset}
use Rattle.spec_epochs.specs.ProcessRandaoMixesReset.{process_randao_mixes_reset}
use Rattle.spec_epochs.specs.ProcessHistoricalRootsUpdate.{process_historical_roots_update, historical_batch_codec, historical_batch}
use Rattle.spec_epochs.specs.ProcessParticipationRecordUpdates.{process_participation_record_updates}
use Rattle.spec_epochs.proofs.EpochParts.{EpochParts}
use Rattle.spec_transition.proofs.BlockStays.{exit_stays, operations_stay}

-- the place of a state, its latest block roots, its justification bits and its checkpoints
pub record Links : Type 0 where
  pub preset : Preset
  pub slot : ℕ
  pub roots : List (List ℕ)
  pub bits : List Bool
  pub previous : Checkpoint
  pub current : Checkpoint
  pub finalized : Checkpoint

abbrev pub links_of : PlainState → Links
links_of s = record {
  preset = s.preset;
  slot = s.slot;
  roots = s.block_roots;
  bits = s.justification_bits;
  previous = s.previous_justified_checkpoint;
  current = s.current_justified_checkpoint;
  finalized = s.finalized_checkpoint;
}

-- ---- the end of an epoch behind justification

-- the same with the header of the latest block
abbrev epoch_part : PlainState → Links × BeaconBlockHeader
epoch_part s = (links_of s, s.latest_block_header)

abbrev Stays : PlainState → PlainState → Type 0
Stays s t = epoch_part t ≡ epoch_part s

rewards_stay : (s t : PlainState) → process_rewards_and_penalties s ≡ done t → Stays s t
unfolding process_rewards_and_penalties
rewards_stay s t is = elim (chosen (get_current_epoch s == 0) _ _ _ is) [
  | inl first ↦ subst (Stays s) (same_value s t first.1) refl
  | inr later ↦
      let deltas = on_the_way (get_attestation_deltas s) _ t later.1 in
      let balances = on_the_way (checked_map (rewarded_balance s deltas.value) (validator_indices s)) _ t deltas.then_done in
      subst (Stays s) (same_value _ t balances.then_done) refl
]

ejection_stays : (config : ConfigValues) (s t : PlainState) (index : ℕ) → eligibility_and_ejection config s index ≡ done t → Stays s t
unfolding eligibility_and_ejection with_eligibility
ejection_stays config s t index is =
    let validator = on_the_way (item_at s.validators index) _ t is in
    let waiting : PlainState = with_eligibility s index validator.value in
    let first : Stays s waiting = elim (chosen (is_eligible_for_activation_queue s.preset validator.value) _ s waiting refl) [
      | inl waits ↦ subst (Stays s) waits.1 refl
      | inr other ↦ subst (Stays s) other.1 refl
    ] in
    elim (chosen (is_active_validator validator.value (get_current_epoch s) && leb validator.value.effective_balance config.ejection_balance) _ _ _
    validator.then_done) [
      | inl goes ↦ exit_stays epoch_part (λ y v b l n. refl) (λ y p c. refl) waiting t index config goes.1 ∙ first
      | inr stays ↦ subst (Stays s) (same_value waiting t stays.1) first
    ]

registry_stays : (s t : PlainState) (config : ConfigValues) → process_registry_updates s config ≡ done t → Stays s t
unfolding process_registry_updates
registry_stays s t config is =
    let ejected = on_the_way (each_of (eligibility_and_ejection config) s (validator_indices s)) _ t is in
    let x = ejected.value in
    let epoch = on_the_way (compute_activation_exit_epoch x.preset (get_current_epoch x)) _ t ejected.then_done in
    let before : Stays s x = each_keeps (Stays s) (eligibility_and_ejection config) (λ a b index one so_far. ejection_stays config a b index one ∙ so_far)
    (validator_indices s) s x ejected.first refl in
    subst (Stays s) (same_value _ t epoch.then_done) before

slashings_stay : (s t : PlainState) → process_slashings s ≡ done t → Stays s t
unfolding process_slashings
slashings_stay s t is =
    let total = on_the_way (get_total_active_balance s) _ t is in
    let slashed = on_the_way (checked_sum s.slashings) _ t total.then_done in
    let multiplied = on_the_way (checked_mul slashed.value s.preset.proportional_slashing_multiplier) _ t slashed.then_done in
    let make : ℕ → Outcome ℕ = penalized_balance s (min multiplied.value total.value) total.value in
    let balances = on_the_way (checked_map make (validator_indices s)) _ t multiplied.then_done in
    subst (Stays s) (same_value _ t balances.then_done) refl

eth1_data_stays : (s : PlainState) → Stays s (process_eth1_data_reset s)
unfolding process_eth1_data_reset
eth1_data_stays s = elim (chosen ((get_current_epoch s + 1) % s.preset.epochs_per_eth1_voting_period == 0) (record s { eth1_data_votes = [] }) s _ refl) [
  | inl begins ↦ subst (Stays s) begins.1 refl
  | inr goes_on ↦ subst (Stays s) goes_on.1 refl
]

balances_stay : (s t : PlainState) → process_effective_balance_updates s ≡ done t → Stays s t
unfolding process_effective_balance_updates
balances_stay s t is =
    let validators = on_the_way (checked_map (updated_validator s) (validator_indices s)) _ t is in
    subst (Stays s) (same_value _ t validators.then_done) refl

resets_stay : (s : PlainState) → Stays s (process_randao_mixes_reset (process_slashings_reset s))
unfolding process_randao_mixes_reset process_slashings_reset
resets_stay s = refl

historical_roots_stay : (s t : PlainState) → process_historical_roots_update s ≡ done t → Stays s t
unfolding process_historical_roots_update
historical_roots_stay s t is = elim (chosen (not ((get_current_epoch s + 1) % (s.preset.slots_per_historical_root / s.preset.slots_per_epoch) == 0)) _ _ _ is) [
  | inl other ↦ subst (Stays s) (same_value s t other.1) refl
  | inr round ↦
      let roots = on_the_way (checked_push s.preset.historical_roots_limit s.historical_roots
      ((historical_batch_codec s.preset).hash_tree_root (historical_batch s))) _ t round.1 in
      subst (Stays s) (same_value _ t roots.then_done) refl
]

rotation_stays : (s t : PlainState) → process_participation_record_updates s ≡ t → Stays s t
unfolding process_participation_record_updates
rotation_stays s t is = subst (Stays s) is refl

parts_stay : (s t : PlainState) (config : ConfigValues) (p : EpochParts s t config) → Stays p.justified t
parts_stay s t config p =
    rotation_stays p.rooted t p.rotated
    ∙ (historical_roots_stay (process_randao_mixes_reset (process_slashings_reset p.updated)) p.rooted p.to_rooted
    ∙ (resets_stay p.updated
    ∙ (balances_stay (process_eth1_data_reset p.penalized) p.updated p.to_updated
    ∙ (eth1_data_stays p.penalized
    ∙ (slashings_stay p.registered p.penalized p.to_penalized
    ∙ (registry_stays p.rewarded p.registered config p.to_registered
    ∙ rewards_stay p.justified p.rewarded p.to_rewarded))))))

-- what stands behind justification stands behind the epoch's end
pub links_stay : (s t : PlainState) (config : ConfigValues) (p : EpochParts s t config) → links_of t ≡ links_of p.justified
links_stay s t config p = ap (λ (part : Links × BeaconBlockHeader). part.0) (parts_stay s t config p)

pub header_leaves : (s t : PlainState) (config : ConfigValues) (p : EpochParts s t config) → t.latest_block_header ≡ p.justified.latest_block_header
header_leaves s t config p = ap (λ (part : Links × BeaconBlockHeader). part.1) (parts_stay s t config p)

-- ---- a block

abbrev BlockLeaves : PlainState → PlainState → Type 0
BlockLeaves s t = links_of t ≡ links_of s

block_header_leaves : (s t : PlainState) (block : BeaconBlock) (proposer : ℕ) → process_block_header s block proposer ≡ done t → BlockLeaves s t
unfolding process_block_header
block_header_leaves s t block proposer is =
    let right = on_the_way (check (block.proposer_index == proposer) WrongProposer) _ t is in
    let validator = on_the_way (item_at s.validators block.proposer_index) _ t right.then_done in
    let free = on_the_way (check (not validator.value.slashed) ProposerSlashed) _ t validator.then_done in
    subst (BlockLeaves s) (same_value _ t free.then_done) refl

randao_leaves : (s : PlainState) (block : BeaconBlock) → BlockLeaves s (process_randao s block.body)
unfolding process_randao
randao_leaves s block = refl

eth1_leaves : (s t : PlainState) (block : BeaconBlock) → process_eth1_data s block.body ≡ done t → BlockLeaves s t
unfolding process_eth1_data
eth1_leaves s t block is =
    let votes = on_the_way (checked_push (votes_limit s.preset) s.eth1_data_votes block.body.eth1_data) _ t is in
    elim (chosen (nat_lt (votes_limit s.preset) (count_votes votes.value block.body.eth1_data * 2)) _ _ _ votes.then_done) [
      | inl won ↦ subst (BlockLeaves s) (same_value _ t won.1) refl
      | inr other ↦ subst (BlockLeaves s) (same_value _ t other.1) refl
    ]

-- process_block
pub block_leaves : (s t : PlainState) (block : BeaconBlock) (config : ConfigValues) → process_block s block config ≡ done t → links_of t ≡ links_of s
unfolding process_block
block_leaves s t block config is =
    let proposer = on_the_way (get_beacon_proposer_index s) _ t is in
    let header = on_the_way (process_block_header s block proposer.value) _ t proposer.then_done in
    let eth1 = on_the_way (process_eth1_data (process_randao header.value block.body) block.body) _ t header.then_done in
    operations_stay links_of (λ y v b l n. refl) (λ y p c. refl) eth1.value t block.body proposer.value config eth1.then_done
    ∙ (eth1_leaves (process_randao header.value block.body) eth1.value block eth1.first
    ∙ (randao_leaves header.value block ∙ block_header_leaves s header.value block proposer.value header.first))
