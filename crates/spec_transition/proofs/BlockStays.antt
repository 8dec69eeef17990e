-- The operations of a block change the registry, the count of deposits and the pending attestations alone, and its head what
-- stands there beside: so a block leaves the preset and the slot, and its header is the latest one.
use Rattle.std.proofs.Common.{◌≡◌, ◌∙◌, ℕ, ◌*◌, not, nat_lt, ◌==◌, List, refl, subst, inl, inr}
use Rattle.bc_words.specs.Outcome.{done, checked_push}
use Rattle.bc_words.specs.declared.refusal.Refusal.TheVariants.{WrongProposer, ProposerSlashed}
use Rattle.bc_preset.specs.declared.configuration.ConfigValues.{ConfigValues}
use Rattle.beacon_types.specs.declared.validator.Validator.{Validator}
use Rattle.beacon_types.specs.declared.eth1_data.Eth1Data.{Eth1Data}
use Rattle.beacon_types.specs.declared.pending_attestation.PendingAttestation.{PendingAttestation}
use Rattle.beacon_types.specs.declared.attestation.Attestation.{Attestation}
use Rattle.beacon_types.specs.declared.body.BeaconBlockBody.{BeaconBlockBody}
use Rattle.beacon_types.specs.declared.block.BeaconBlock.{BeaconBlock}
use Rattle.spec_state.specs.declared.plain.PlainState.{PlainState}
use Rattle.spec_state.specs.States.{votes_limit}
use Rattle.spec_state.specs.Accessors.{get_beacon_proposer_index}
use Rattle.spec_blocks.specs.Checks.{check, item_at}
use Rattle.spec_blocks.specs.InitiateValidatorExit.{initiate_validator_exit}
use Rattle.spec_blocks.specs.ProcessBlockHeader.{process_block_header, header_of}
use Rattle.spec_blocks.specs.ProcessRandao.{process_randao}
use Rattle.spec_blocks.specs.ProcessEth1Data.{process_eth1_data, count_votes}
use Rattle.spec_blocks.specs.ProcessAttestation.{process_attestation}
use Rattle.spec_blocks.specs.ProcessOperations.{process_operations}
use Rattle.spec_blocks.specs.ProcessBlock.{process_block}
use Rattle.spec_blocks.proofs.Done.{on_the_way, chosen, same_value}
use Rattle.spec_blocks.proofs.Registry.{RegistryChange, exit_keeps, operations_keep}
use Rattle.spec_blocks.proofs.Pending.{attestation_keeps}

-- a part of a state that is neither of the registry nor of the pending attestations
module _ {X : Type 0} (part : PlainState → X)
    (of_registry : (s : PlainState) (validators : List Validator) (balances slashings : List ℕ) (deposits : ℕ)
    → part (record s { validators = validators; balances = balances; slashings = slashings; eth1_deposit_index = deposits }) ≡ part s)
    (of_pending : (s : PlainState) (previous current : List PendingAttestation) → part (record s { previous_epoch_attestations = previous; current_epoch_attestations = current }) ≡ part s) where
  registry_stays : (x s : PlainState) (validators : List Validator) (balances slashings : List ℕ) (deposits : ℕ) → RegistryChange s validators balances → part s ≡ part x
      → part (record s { validators = validators; balances = balances; slashings = slashings; eth1_deposit_index = deposits }) ≡ part x
  registry_stays x s validators balances slashings deposits change same = of_registry s validators balances slashings deposits ∙ same

  pub exit_stays : (s t : PlainState) (index : ℕ) (config : ConfigValues) → initiate_validator_exit s index config ≡ done t → part t ≡ part s
  exit_stays s t index config is = exit_keeps (λ (x : PlainState). part x ≡ part s) (registry_stays s) s t index config is refl

  attestation_stays : (x : PlainState) (proposer : ℕ) (s t : PlainState) (attestation : Attestation) → process_attestation s attestation proposer ≡ done t → part s ≡ part x → part t ≡ part x
  attestation_stays x proposer s t attestation is same =
      attestation_keeps (λ (y : PlainState). part y ≡ part x) (λ y previous current before. of_pending y previous current ∙ before) proposer s t attestation is same

  -- all operations
  pub operations_stay : (s t : PlainState) (body : BeaconBlockBody) (proposer : ℕ) (config : ConfigValues) → process_operations s body proposer config ≡ done t → part t ≡ part s
  operations_stay s t body proposer config is =
      operations_keep (λ (x : PlainState). part x ≡ part s) (registry_stays s) proposer config (attestation_stays s proposer) s t body is refl

-- What a block leaves, and the header that it writes
pub record BlockStays (s t : PlainState) (block : BeaconBlock) : Type 0 where
  pub preset : t.preset ≡ s.preset
  pub slot : t.slot ≡ s.slot
  pub header : t.latest_block_header ≡ header_of block

with_header : (s t : PlainState) (block : BeaconBlock) (proposer : ℕ) → process_block_header s block proposer ≡ done t → BlockStays s t block
unfolding process_block_header
with_header s t block proposer is =
    let right = on_the_way (check (block.proposer_index == proposer) WrongProposer) _ t is in
    let validator = on_the_way (item_at s.validators block.proposer_index) _ t right.then_done in
    let free = on_the_way (check (not validator.value.slashed) ProposerSlashed) _ t validator.then_done in
    subst (λ (x : PlainState). BlockStays s x block) (same_value _ t free.then_done) (record { preset = refl; slot = refl; header = refl })

with_randao : (s t : PlainState) (block : BeaconBlock) → BlockStays s t block → BlockStays s (process_randao t block.body) block
unfolding process_randao
with_randao s t block stays = record { preset = stays.preset; slot = stays.slot; header = stays.header }

with_eth1 : (s t u : PlainState) (block : BeaconBlock) → process_eth1_data t block.body ≡ done u → BlockStays s t block → BlockStays s u block
unfolding process_eth1_data
with_eth1 s t u block is stays =
    let votes = on_the_way (checked_push (votes_limit t.preset) t.eth1_data_votes block.body.eth1_data) _ u is in
    let given : (data_voted : Eth1Data) → BlockStays s (record t { eth1_data_votes = votes.value; eth1_data = data_voted }) block = λ data_voted. record { preset = stays.preset; slot = stays.slot; header = stays.header } in
    elim (chosen (nat_lt (votes_limit t.preset) (count_votes votes.value block.body.eth1_data * 2)) _ _ _ votes.then_done) [
      | inl won ↦ subst (λ (x : PlainState). BlockStays s x block) (same_value _ u won.1) (given block.body.eth1_data)
      | inr other ↦ subst (λ (x : PlainState). BlockStays s x block) (same_value _ u other.1) (given t.eth1_data)
    ]

-- process_block
pub block_stays : (s t : PlainState) (block : BeaconBlock) (config : ConfigValues) → process_block s block config ≡ done t → BlockStays s t block
unfolding process_block
block_stays s t block config is =
    let proposer = on_the_way (get_beacon_proposer_index s) _ t is in
    let header = on_the_way (process_block_header s block proposer.value) _ t proposer.then_done in
    let eth1 = on_the_way (process_eth1_data (process_randao header.value block.body) block.body) _ t header.then_done in
    let before = with_eth1 s (process_randao header.value block.body) eth1.value block eth1.first (with_randao s header.value block (with_header s header.value block proposer.value header.first)) in
    let x = eth1.value in
    record {
      preset = operations_stay (λ (y : PlainState). y.preset) (λ y v b l n. refl) (λ y p c. refl) x t block.body proposer.value config eth1.then_done ∙ before.preset;
      slot = operations_stay (λ (y : PlainState). y.slot) (λ y v b l n. refl) (λ y p c. refl) x t block.body proposer.value config eth1.then_done ∙ before.slot;
      header = operations_stay (λ (y : PlainState). y.latest_block_header) (λ y v b l n. refl) (λ y p c. refl) x t block.body proposer.value config eth1.then_done ∙ before.header;
    }
