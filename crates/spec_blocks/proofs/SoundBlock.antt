-- A block keeps a state sound.
use Rattle.std.proofs.Common.{◌≡◌, ◌∙◌, ℕ, ◌/◌, ◌<◌, ◌*◌, not, nat_lt, ◌==◌, List, length, slice_get, Some, refl, sym, ap, subst, arith, inl, inr}
use Rattle.std.proofs.lemmas.Bool.{eqb-true}
use Rattle.std.proofs.lemmas.Option.{slice_get_within}
use Rattle.bc_words.specs.Outcome.{done, checked_push}
use Rattle.bc_words.specs.declared.refusal.Refusal.TheVariants.{WrongProposer, ProposerSlashed}
use Rattle.bc_preset.specs.declared.presets.Preset.{Preset}
use Rattle.bc_preset.specs.laws.Bounds.{HasPresetBounds}
use Rattle.bc_preset.specs.declared.configuration.ConfigValues.{ConfigValues}
use Rattle.beacon_types.specs.declared.validator.Validator.{Validator}
use Rattle.beacon_types.specs.declared.attestation.Attestation.{Attestation}
use Rattle.beacon_types.specs.declared.block.BeaconBlock.{BeaconBlock}
use Rattle.beacon_types.specs.declared.body.BeaconBlockBody.{BeaconBlockBody}
use Rattle.spec_state.specs.declared.plain.PlainState.{PlainState}
use Rattle.beacon_types.specs.declared.eth1_data.Eth1Data.{Eth1Data}
use Rattle.spec_state.specs.States.{votes_limit}
use Rattle.spec_state.specs.Constants.{far_future_epoch}
use Rattle.spec_state.specs.Misc.{compute_epoch_at_slot}
use Rattle.spec_state.specs.Accessors.{get_current_epoch, get_beacon_proposer_index}
use Rattle.spec_state.specs.Soundness.{IsSound}
use Rattle.spec_blocks.specs.Checks.{check, item_at}
use Rattle.spec_blocks.specs.ProcessAttestation.{process_attestation}
use Rattle.spec_blocks.specs.ProcessBlockHeader.{process_block_header}
use Rattle.spec_blocks.specs.ProcessRandao.{process_randao}
use Rattle.spec_blocks.specs.ProcessEth1Data.{process_eth1_data, count_votes}
use Rattle.spec_blocks.specs.ProcessBlock.{process_block}
use Rattle.spec_blocks.specs.ProcessOperations.{process_operations}
use Rattle.spec_blocks.proofs.Done.{on_the_way, chosen, same_value, check_holds, item_is}
use Rattle.spec_blocks.proofs.Registry.{RegistryChange, operations_keep}
use Rattle.spec_blocks.proofs.Fixed.{Fixed, registry_fixed, attestation_fixed}
use Rattle.spec_blocks.proofs.SoundRegistry.{registry_sound}
use Rattle.spec_blocks.proofs.SoundOperations.{block_header_sound}
use Rattle.spec_blocks.proofs.SoundHeads.{eth1_sound, randao_sound}
use Rattle.spec_blocks.proofs.SoundAttestations.{attestation_sound}

-- A sound state of a preset and a slot, whose registry has so many validators at least
pub record Ready (preset : Preset) (slot known : ℕ) (s : PlainState) : Type 0 where
  pub sound : IsSound s
  pub fixed : Fixed preset slot known s

module _ (preset : Preset) (slot known : ℕ) (before : slot / preset.slots_per_epoch < far_future_epoch) (bounds : HasPresetBounds preset) where
  in_epoch : (s : PlainState) → Fixed preset slot known s → get_current_epoch s < far_future_epoch
  unfolding get_current_epoch
  in_epoch s fixed =
      let same : compute_epoch_at_slot s.preset s.slot ≡ compute_epoch_at_slot preset slot = ap (λ (p : Preset). compute_epoch_at_slot p s.slot) fixed.preset_is ∙ ap (compute_epoch_at_slot preset) fixed.slot_is in
      omega (arith, same)

  registry_ready : (s : PlainState) (validators : List Validator) (balances slashings : List ℕ) (deposits : ℕ) → RegistryChange s validators balances → Ready preset slot known s
      → Ready preset slot known (record s { validators = validators; balances = balances; slashings = slashings; eth1_deposit_index = deposits })
  registry_ready s validators balances slashings deposits change ready = record {
    sound = registry_sound s validators balances slashings deposits change (in_epoch s ready.fixed) ready.sound;
    fixed = registry_fixed preset slot known s validators balances slashings deposits change ready.fixed;
  }

  attestation_ready : (proposer : ℕ) → proposer < known → (s t : PlainState) (attestation : Attestation) → process_attestation s attestation proposer ≡ done t → Ready preset slot known s → Ready preset slot known t
  attestation_ready proposer in_registry s t attestation is ready = record {
    sound = attestation_sound s t attestation proposer is (subst HasPresetBounds (sym ready.fixed.preset_is) bounds) (let r = ready.fixed.registry in omega arith) ready.sound;
    fixed = attestation_fixed preset slot known s t attestation proposer is ready.fixed;
  }

  -- all operations of a block
  operations_ready : (s t : PlainState) (body : BeaconBlockBody) (proposer : ℕ) (config : ConfigValues) → proposer < known → process_operations s body proposer config ≡ done t → Ready preset slot known s → Ready preset slot known t
  operations_ready s t body proposer config in_registry is ready =
      operations_keep (Ready preset slot known) registry_ready proposer config (attestation_ready proposer in_registry) s t body is ready

in_list : {A : Type 0} (items : List A) (index : ℕ) (x : A) → slice_get items index ≡ Some x → index < length items
in_list items index x is = slice_get_within items index x is

-- the head of a block
head_fixed : (preset : Preset) (slot known : ℕ) (s t : PlainState) (block : BeaconBlock) (proposer : ℕ) → process_block_header s block proposer ≡ done t → Fixed preset slot known s → Fixed preset slot known t
unfolding process_block_header
head_fixed preset slot known s t block proposer is fixed =
    let right = on_the_way (check (block.proposer_index == proposer) WrongProposer) _ t is in
    let validator = on_the_way (item_at s.validators block.proposer_index) _ t right.then_done in
    let free = on_the_way (check (not validator.value.slashed) ProposerSlashed) _ t validator.then_done in
    subst (Fixed preset slot known) (same_value _ t free.then_done) (record { preset_is = fixed.preset_is; slot_is = fixed.slot_is; registry = fixed.registry })

-- its proposer is in the registry
proposer_known : (s t : PlainState) (block : BeaconBlock) (proposer : ℕ) → process_block_header s block proposer ≡ done t → proposer < length s.validators
unfolding process_block_header
proposer_known s t block proposer is =
    let right = on_the_way (check (block.proposer_index == proposer) WrongProposer) _ t is in
    let validator = on_the_way (item_at s.validators block.proposer_index) _ t right.then_done in
    let same = eqb-true block.proposer_index proposer (check_holds _ WrongProposer _ right.first) in
    let known = in_list s.validators block.proposer_index validator.value (item_is s.validators block.proposer_index validator.value validator.first) in
    omega arith

eth1_ready : (s t : PlainState) (body : BeaconBlockBody) (preset : Preset) (slot known : ℕ) → process_eth1_data s body ≡ done t → Ready preset slot known s → Ready preset slot known t
unfolding process_eth1_data
eth1_ready s t body preset slot known is ready =
    let votes = on_the_way (checked_push (votes_limit s.preset) s.eth1_data_votes body.eth1_data) _ t is in
    let given : (data_voted : Eth1Data) → Ready preset slot known (record s { eth1_data_votes = votes.value; eth1_data = data_voted }) = λ data_voted. record { sound = eth1_sound s votes.value data_voted ready.sound; fixed = record { preset_is = ready.fixed.preset_is; slot_is = ready.fixed.slot_is; registry = ready.fixed.registry } } in
    elim (chosen (nat_lt (votes_limit s.preset) (count_votes votes.value body.eth1_data * 2)) _ _ _ votes.then_done) [
      | inl won ↦ subst (Ready preset slot known) (same_value _ t won.1) (given body.eth1_data)
      | inr other ↦ subst (Ready preset slot known) (same_value _ t other.1) (given s.eth1_data)
    ]

randao_ready : (s : PlainState) (body : BeaconBlockBody) (preset : Preset) (slot known : ℕ) → HasPresetBounds preset → Ready preset slot known s → Ready preset slot known (process_randao s body)
unfolding process_randao
randao_ready s body preset slot known bounds ready = record {
  sound = randao_sound s _ (subst HasPresetBounds (sym ready.fixed.preset_is) bounds) ready.sound;
  fixed = record { preset_is = ready.fixed.preset_is; slot_is = ready.fixed.slot_is; registry = ready.fixed.registry };
}

-- a block of the state's slot
pub block_sound : (s t : PlainState) (block : BeaconBlock) (config : ConfigValues) → process_block s block config ≡ done t → block.slot ≡ s.slot → HasPresetBounds s.preset → s.slot / s.preset.slots_per_epoch < far_future_epoch → IsSound s → IsSound t
unfolding process_block
block_sound s t block config is same bounds before sound =
    let proposer = on_the_way (get_beacon_proposer_index s) _ t is in
    let header = on_the_way (process_block_header s block proposer.value) _ t proposer.then_done in
    let eth1 = on_the_way (process_eth1_data (process_randao header.value block.body) block.body) _ t header.then_done in
    let known : ℕ = length s.validators in
    let in_registry = proposer_known s header.value block proposer.value header.first in
    let with_header : Ready s.preset s.slot known header.value = record {
      sound = block_header_sound s header.value block proposer.value header.first same sound;
      fixed = head_fixed s.preset s.slot known s header.value block proposer.value header.first (record { preset_is = refl; slot_is = refl; registry = omega arith });
    } in
    let with_eth1 = eth1_ready (process_randao header.value block.body) eth1.value block.body s.preset s.slot known eth1.first (randao_ready header.value block.body s.preset s.slot known bounds with_header) in
    (operations_ready s.preset s.slot known before bounds eth1.value t block.body proposer.value config in_registry eth1.then_done with_eth1).sound
