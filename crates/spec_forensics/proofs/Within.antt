-- A block's steps leave its epoch and the committees of the epochs that it takes attestations of.
use Rattle.std.proofs.Common.{◌≡◌, ◌∙◌, ℕ, ◌*◌, ◌^◌, ◌<◌, ◌⊎◌, inl, inr, Bool, true, not, ◌||◌, ◌==◌, nat_lt, List, [], ◌∷◌, length, refl, sym, ap, subst, arith}
use Rattle.std.specs.List.{All}
use Rattle.std.proofs.lemmas.Bool.{eqb-true, ltb-true, or_cases}
use Rattle.std.proofs.lemmas.List.Elements.{All-cons, All-nil, All-weaker}
use Rattle.bc_words.specs.Outcome.{done, checked_sub, checked_push}
use Rattle.bc_words.specs.declared.refusal.Refusal.TheVariants.{AtTargetEpoch, AtSlotEpoch, AtIndex, AtSource, AtEmpty, WrongProposer, ProposerSlashed, StateRoot}
use Rattle.bc_preset.specs.declared.presets.Preset.{Preset}
use Rattle.bc_preset.specs.declared.configuration.ConfigValues.{ConfigValues}
use Rattle.bc_preset.specs.laws.Bounds.{HasPresetBounds}
use Rattle.beacon_types.specs.declared.validator.Validator.{Validator}
use Rattle.beacon_types.specs.declared.eth1_data.Eth1Data.{Eth1Data}
use Rattle.beacon_types.specs.declared.attestation_data.AttestationData.{AttestationData}
use Rattle.beacon_types.specs.declared.pending_attestation.PendingAttestation.{PendingAttestation}
use Rattle.beacon_types.specs.declared.attestation.Attestation.{Attestation}
use Rattle.beacon_types.specs.declared.body.BeaconBlockBody.{BeaconBlockBody}
use Rattle.beacon_types.specs.declared.block.BeaconBlock.{BeaconBlock}
use Rattle.spec_state.specs.declared.plain.PlainState.{PlainState}
use Rattle.spec_state.specs.Constants.{domain_beacon_attester, far_future_epoch}
use Rattle.spec_state.specs.States.{attestations_limit, votes_limit}
use Rattle.spec_state.specs.Misc.{compute_epoch_at_slot}
use Rattle.spec_state.specs.Accessors.{get_current_epoch, get_previous_epoch, get_active_validator_indices, get_randao_mix, get_committee_count_per_slot, get_attesting_indices, get_beacon_proposer_index, members_with_bits}
use Rattle.spec_blocks.specs.Checks.{check, item_at, each_of}
use Rattle.spec_blocks.specs.ProcessAttestation.{process_attestation, check_times, check_committee, with_pending, with_current_pending, with_previous_pending}
use Rattle.spec_blocks.specs.ProcessProposerSlashing.{process_proposer_slashing}
use Rattle.spec_blocks.specs.ProcessAttesterSlashing.{process_attester_slashing}
use Rattle.spec_blocks.specs.ProcessDeposit.{process_deposit}
use Rattle.spec_blocks.specs.ProcessVoluntaryExit.{process_voluntary_exit}
use Rattle.spec_blocks.specs.ProcessOperations.{process_operations, check_deposit_count}
use Rattle.spec_blocks.specs.ProcessBlockHeader.{process_block_header}
use Rattle.spec_blocks.specs.ProcessRandao.{process_randao}
use Rattle.spec_blocks.specs.ProcessEth1Data.{process_eth1_data, count_votes}
use Rattle.spec_blocks.specs.ProcessBlock.{process_block}
use Rattle.beacon_types.specs.Equality.{same_checkpoint, same_root}
use Rattle.beacon_types.specs.declared.signed_block.SignedBeaconBlock.{SignedBeaconBlock}
use Rattle.spec_state.specs.States.{state_codec}
use Rattle.spec_transition.specs.ProcessSlots.{Stepped, process_slots}
use Rattle.spec_transition.specs.StateTransition.{state_transition}
use Rattle.spec_transition.proofs.BlockStays.{block_stays}
use Rattle.spec_transition.proofs.HeaderChecks.{below}
use Rattle.spec_blocks.proofs.Done.{on_the_way, chosen, same_value, check_holds}
use Rattle.spec_blocks.proofs.Sound.{SameCommittees, same_count, same_committee, previous_below, same_previous}
use Rattle.spec_blocks.proofs.Registry.{RegistryChange, active_of, voluntary_exit_keeps, proposer_slashing_keeps, attester_slashing_keeps, deposit_keeps}
use Rattle.spec_blocks.proofs.SoundHeads.{same_seed}
use Rattle.spec_blocks.proofs.Each.{each_keeps}
use Rattle.spec_forensics.specs.CarriedVotes.{WasProcessed}

-- a state with the epoch of another one, and with its committees of the current and the previous epoch
pub record IsWithin (s t : PlainState) : Type 0 where
  pub epoch : get_current_epoch t ≡ get_current_epoch s
  pub current : SameCommittees s t (get_current_epoch s)
  pub previous : SameCommittees s t (get_previous_epoch s)

same_on : (s t u : PlainState) (epoch : ℕ) → SameCommittees s t epoch → SameCommittees t u epoch → SameCommittees s u epoch
same_on s t u epoch one other = record { preset = other.preset ∙ one.preset; active = other.active ∙ one.active; seed = other.seed ∙ one.seed }

within_on : (s t u : PlainState) → IsWithin s t → IsWithin t u → IsWithin s u
within_on s t u one other = record {
  epoch = other.epoch ∙ one.epoch;
  current = same_on s t u (get_current_epoch s) one.current (subst (λ (e : ℕ). SameCommittees t u e) one.epoch other.current);
  previous = same_on s t u (get_previous_epoch s) one.previous (subst (λ (e : ℕ). SameCommittees t u e) (same_previous s t one.epoch) other.previous);
}

within_itself : (s : PlainState) → IsWithin s s
within_itself s = record { epoch = refl; current = record { preset = refl; active = refl; seed = refl }; previous = record { preset = refl; active = refl; seed = refl } }

-- the committees of the previous or the current epoch
at_epoch : (s t : PlainState) (epoch : ℕ) → IsWithin s t → (epoch ≡ get_previous_epoch s) ⊎ (epoch ≡ get_current_epoch s) → SameCommittees s t epoch
at_epoch s t epoch within (inl e) = subst (λ (n : ℕ). SameCommittees s t n) (sym e) within.previous
at_epoch s t epoch within (inr e) = subst (λ (n : ℕ). SameCommittees s t n) (sym e) within.current

-- ---- one attestation

with_current_within : (s t : PlainState) (a : PendingAttestation) → with_current_pending s a ≡ done t → IsWithin s t
unfolding with_current_pending get_current_epoch get_previous_epoch get_active_validator_indices get_randao_mix
with_current_within s t a is =
    let source = on_the_way (check (same_checkpoint a.content.source s.current_justified_checkpoint) AtSource) _ t is in
    let list = on_the_way (checked_push (attestations_limit s.preset) s.current_epoch_attestations a) _ t source.then_done in
    subst (IsWithin s) (same_value _ t list.then_done) (record { epoch = refl; current = record { preset = refl; active = refl; seed = refl }; previous = record { preset = refl; active = refl; seed = refl } })

with_previous_within : (s t : PlainState) (a : PendingAttestation) → with_previous_pending s a ≡ done t → IsWithin s t
unfolding with_previous_pending get_current_epoch get_previous_epoch get_active_validator_indices get_randao_mix
with_previous_within s t a is =
    let source = on_the_way (check (same_checkpoint a.content.source s.previous_justified_checkpoint) AtSource) _ t is in
    let list = on_the_way (checked_push (attestations_limit s.preset) s.previous_epoch_attestations a) _ t source.then_done in
    subst (IsWithin s) (same_value _ t list.then_done) (record { epoch = refl; current = record { preset = refl; active = refl; seed = refl }; previous = record { preset = refl; active = refl; seed = refl } })

with_pending_within : (s t : PlainState) (a : PendingAttestation) → with_pending s a ≡ done t → IsWithin s t
unfolding with_pending
with_pending_within s t a is = elim (chosen (a.content.target.epoch == get_current_epoch s) _ _ _ is) [
  | inl current ↦ with_current_within s t a current.1
  | inr other ↦ with_previous_within s t a other.1
]

-- the target is of the previous or the current epoch, and of the slot's
record IsRecent (s : PlainState) (content : AttestationData) : Type 0 where
  target : (content.target.epoch ≡ get_previous_epoch s) ⊎ (content.target.epoch ≡ get_current_epoch s)
  epoch : content.target.epoch ≡ compute_epoch_at_slot s.preset content.slot

either_epoch : (s : PlainState) (epoch : ℕ) → ((epoch == get_previous_epoch s) || (epoch == get_current_epoch s)) ≡ true → (epoch ≡ get_previous_epoch s) ⊎ (epoch ≡ get_current_epoch s)
either_epoch s epoch is = elim (or_cases (epoch == get_previous_epoch s) (epoch == get_current_epoch s) is) [
  | inl previous ↦ inl (eqb-true _ _ previous)
  | inr current ↦ inr (eqb-true _ _ current)
]

recent : (s : PlainState) (content : AttestationData) (x : Unit {0}) → check_times s content ≡ done x → IsRecent s content
unfolding check_times
recent s content x is =
    let target = on_the_way (check ((content.target.epoch == get_previous_epoch s) || (content.target.epoch == get_current_epoch s)) AtTargetEpoch) _ x is in
    let slot = on_the_way (check (content.target.epoch == compute_epoch_at_slot s.preset content.slot) AtSlotEpoch) _ x target.then_done in
    record {
      target = either_epoch s content.target.epoch (check_holds _ AtTargetEpoch _ target.first);
      epoch = eqb-true _ _ (check_holds _ AtSlotEpoch _ slot.first);
    }

seated : (s : PlainState) (content : AttestationData) (bits : List Bool) (x : Unit {0}) → check_committee s content bits ≡ done x → content.index < get_committee_count_per_slot s content.target.epoch
unfolding check_committee
seated s content bits x is =
    let index = on_the_way (check (nat_lt content.index (get_committee_count_per_slot s content.target.epoch)) AtIndex) _ x is in
    ltb-true _ _ (check_holds _ AtIndex _ index.first)

record IsTaken (x y : PlainState) (attestation : Attestation) (proposer : ℕ) : Type 0 where
  within : IsWithin x y
  was : WasProcessed x attestation

taken : (x y : PlainState) (attestation : Attestation) (proposer : ℕ) → process_attestation x attestation proposer ≡ done y → IsTaken x y attestation proposer
unfolding process_attestation
taken x y attestation proposer is =
    let content : AttestationData = attestation.content in
    let times = on_the_way (check_times x content) _ y is in
    let committee = on_the_way (check_committee x content attestation.aggregation_bits) _ y times.then_done in
    let delay = on_the_way (checked_sub x.slot content.slot) _ y committee.then_done in
    let a : PendingAttestation = record { aggregation_bits = attestation.aggregation_bits; content = content; inclusion_delay = delay.value; proposer_index = proposer } in
    let next = on_the_way (with_pending x a) _ y delay.then_done in
    let some = on_the_way (check (not (length (get_attesting_indices x content attestation.aggregation_bits) == 0)) AtEmpty) _ y next.then_done in
    let timely = recent x content times.value times.first in
    record {
      within = subst (IsWithin x) (same_value next.value y some.then_done) (with_pending_within x next.value a next.first);
      was = record {
        by = x;
        next = y;
        proposer = proposer;
        processed = is;
        attesters = refl;
        recent = elim timely.target [ inl e ↦ inl (sym timely.epoch ∙ e) | inr e ↦ inr (sym timely.epoch ∙ e) ];
        index = subst (λ (e : ℕ). content.index < get_committee_count_per_slot x e) timely.epoch (seated x content attestation.aggregation_bits committee.value committee.first);
      };
    }

-- what was processed by one state was so by another one with the same committees
moves : (s t : PlainState) (attestation : Attestation) → IsWithin s t → WasProcessed s attestation → WasProcessed t attestation
unfolding get_attesting_indices
moves s t attestation within was =
    let content : AttestationData = attestation.content in
    let same : SameCommittees s t (compute_epoch_at_slot s.preset content.slot) = at_epoch s t (compute_epoch_at_slot s.preset content.slot) within was.recent in
    let slot : compute_epoch_at_slot t.preset content.slot ≡ compute_epoch_at_slot s.preset content.slot = ap (λ (p : Preset). compute_epoch_at_slot p content.slot) within.current.preset in
    let count = same_count s t (compute_epoch_at_slot s.preset content.slot) same in
    let low : content.index < get_committee_count_per_slot t (compute_epoch_at_slot s.preset content.slot) = let i = was.index in omega arith in
    record {
      by = was.by;
      next = was.next;
      proposer = was.proposer;
      processed = was.processed;
      attesters = was.attesters ∙ sym (ap (λ (committee : List ℕ). members_with_bits committee attestation.aggregation_bits) (same_committee s t content.slot content.index same));
      recent = elim was.recent [ inl e ↦ inl (slot ∙ e ∙ sym (same_previous s t within.epoch)) | inr e ↦ inr (slot ∙ e ∙ sym within.epoch) ];
      index = subst (λ (e : ℕ). content.index < get_committee_count_per_slot t e) (sym slot) low;
    }

-- and backwards
back : (s t : PlainState) → IsWithin s t → IsWithin t s
back s t within = record {
  epoch = sym within.epoch;
  current = subst (λ (e : ℕ). SameCommittees t s e) (sym within.epoch) (record { preset = sym within.current.preset; active = sym within.current.active; seed = sym within.current.seed });
  previous = subst (λ (e : ℕ). SameCommittees t s e) (sym (same_previous s t within.epoch)) (record { preset = sym within.previous.preset; active = sym within.previous.active; seed = sym within.previous.seed });
}

-- ---- all of a block's attestations, as the state before them has them
attestations_taken : (s : PlainState) (proposer : ℕ) (attestations : List Attestation) (x y : PlainState) → each_of (λ u attestation. process_attestation u attestation proposer) x attestations ≡ done y → IsWithin s x → IsWithin s y × All (WasProcessed s) attestations
unfolding each_of
attestations_taken s proposer [] x y is within = (subst (IsWithin s) (same_value x y is) within, All-nil (WasProcessed s))
attestations_taken s proposer (a ∷ attestations) x y is within =
    let first = on_the_way (process_attestation x a proposer) _ y is in
    let one = taken x first.value a proposer first.first in
    let rest = attestations_taken s proposer attestations first.value y first.then_done (within_on s x first.value within one.within) in
    (rest.0, All-cons (WasProcessed s) a attestations (moves x s a (back s x within) one.was) rest.1)

registry_within : (x : PlainState) (validators : List Validator) (balances slashings : List ℕ) (deposits : ℕ)
    → active_of validators (get_current_epoch x) ≡ active_of x.validators (get_current_epoch x)
    → active_of validators (get_previous_epoch x) ≡ active_of x.validators (get_previous_epoch x)
    → IsWithin x (record x { validators = validators; balances = balances; slashings = slashings; eth1_deposit_index = deposits })
unfolding get_current_epoch get_active_validator_indices get_randao_mix
registry_within x validators balances slashings deposits now then = record {
  epoch = refl;
  current = record { preset = refl; active = now; seed = refl };
  previous = record { preset = refl; active = then; seed = refl };
}

module _ (s : PlainState) (low : get_current_epoch s < far_future_epoch) where
  operations_within : (x y : PlainState) (body : BeaconBlockBody) (proposer : ℕ) (config : ConfigValues) → process_operations x body proposer config ≡ done y → IsWithin s x → IsWithin s y × All (WasProcessed s) body.attestations
  unfolding process_operations
  operations_within x y body proposer config is within =
      let P : PlainState → Type 0 = IsWithin s in
      let before : (z : PlainState) → P z → get_current_epoch z < far_future_epoch = λ z holds. let same = holds.epoch in omega arith in
      let registry : (z : PlainState) (validators : List Validator) (balances slashings : List ℕ) (deposits : ℕ) → RegistryChange z validators balances
      → P z → P (record z { validators = validators; balances = balances; slashings = slashings; eth1_deposit_index = deposits }) =
      λ z validators balances slashings deposits change holds.
      within_on s z _ holds
      (registry_within z validators balances slashings deposits (change.active (before z holds) (get_current_epoch z) (omega arith)) (change.active (before z holds) (get_previous_epoch z) (previous_below z).0)) in
      let count = on_the_way (check_deposit_count x body) _ y is in
      let one = on_the_way (each_of (λ s operation. process_proposer_slashing s operation proposer config) x body.proposer_slashings) _ y count.then_done in
      let two = on_the_way (each_of (λ s operation. process_attester_slashing s operation proposer config) one.value body.attester_slashings) _ y one.then_done in
      let three = on_the_way (each_of (λ s operation. process_attestation s operation proposer) two.value body.attestations) _ y two.then_done in
      let four = on_the_way (each_of process_deposit three.value body.deposits) _ y three.then_done in
      let after_one = each_keeps P (λ s operation. process_proposer_slashing s operation proposer config) (proposer_slashing_keeps P registry proposer config) body.proposer_slashings x one.value one.first within in
      let after_two = each_keeps P (λ s operation. process_attester_slashing s operation proposer config) (attester_slashing_keeps P registry proposer config) body.attester_slashings one.value two.value two.first after_one in
      let after_three = attestations_taken s proposer body.attestations two.value three.value three.first after_two in
      let after_four = each_keeps P process_deposit (deposit_keeps P registry) body.deposits three.value four.value four.first after_three.0 in
      (each_keeps P (λ s operation. process_voluntary_exit s operation config) (voluntary_exit_keeps P registry config) body.voluntary_exits four.value y four.then_done after_four, after_three.1)

-- ---- the head of a block

header_within : (s t : PlainState) (block : BeaconBlock) (proposer : ℕ) → process_block_header s block proposer ≡ done t → IsWithin s t
unfolding process_block_header get_current_epoch get_active_validator_indices get_randao_mix
header_within s t block proposer is =
    let right = on_the_way (check (block.proposer_index == proposer) WrongProposer) _ t is in
    let validator = on_the_way (item_at s.validators block.proposer_index) _ t right.then_done in
    let free = on_the_way (check (not validator.value.slashed) ProposerSlashed) _ t validator.then_done in
    subst (IsWithin s) (same_value _ t free.then_done) (record { epoch = refl; current = record { preset = refl; active = refl; seed = refl }; previous = record { preset = refl; active = refl; seed = refl } })

same_epoch : (s : PlainState) (mixes : List (List ℕ)) → get_current_epoch (record s { randao_mixes = mixes }) ≡ get_current_epoch s
unfolding get_current_epoch
same_epoch s mixes = refl

randao_within : (s : PlainState) (body : BeaconBlockBody) → HasPresetBounds s.preset → IsWithin s (process_randao s body)
unfolding process_randao get_active_validator_indices
randao_within s body bounds = record {
  epoch = same_epoch s _;
  current = record { preset = refl; active = refl; seed = same_seed domain_beacon_attester s (get_current_epoch s) (get_current_epoch s) _ bounds (omega arith) (omega arith) };
  previous = record { preset = refl; active = refl; seed = let (below, above) = previous_below s in same_seed domain_beacon_attester s (get_previous_epoch s) (get_current_epoch s) _ bounds below (omega arith) };
}

eth1_within : (s t : PlainState) (body : BeaconBlockBody) → process_eth1_data s body ≡ done t → IsWithin s t
unfolding process_eth1_data get_current_epoch get_active_validator_indices get_randao_mix
eth1_within s t body is =
    let votes = on_the_way (checked_push (votes_limit s.preset) s.eth1_data_votes body.eth1_data) _ t is in
    let given : (data_voted : Eth1Data) → IsWithin s (record s { eth1_data_votes = votes.value; eth1_data = data_voted }) = λ data_voted. record { epoch = refl; current = record { preset = refl; active = refl; seed = refl }; previous = record { preset = refl; active = refl; seed = refl } } in
    elim (chosen (nat_lt (votes_limit s.preset) (count_votes votes.value body.eth1_data * 2)) _ _ _ votes.then_done) [
      | inl won ↦ subst (IsWithin s) (same_value _ t won.1) (given body.eth1_data)
      | inr other ↦ subst (IsWithin s) (same_value _ t other.1) (given s.eth1_data)
    ]

-- each attestation of a block was processed by a state with the attesters that the state behind the block has
pub block_processed : (s t : PlainState) (block : BeaconBlock) (config : ConfigValues) → process_block s block config ≡ done t → HasPresetBounds s.preset → get_current_epoch s < far_future_epoch → All (WasProcessed t) block.body.attestations
unfolding process_block
block_processed s t block config is bounds low =
    let body = block.body in
    let proposer = on_the_way (get_beacon_proposer_index s) _ t is in
    let header = on_the_way (process_block_header s block proposer.value) _ t proposer.then_done in
    let eth1 = on_the_way (process_eth1_data (process_randao header.value body) body) _ t header.then_done in
    let with_header = header_within s header.value block proposer.value header.first in
    let with_randao = within_on s header.value (process_randao header.value body) with_header (randao_within header.value body (subst HasPresetBounds (sym with_header.current.preset) bounds)) in
    let with_eth1 = within_on s (process_randao header.value body) eth1.value with_randao (eth1_within (process_randao header.value body) eth1.value body eth1.first) in
    let end = operations_within s low eth1.value t body proposer.value config eth1.then_done with_eth1 in
    All-weaker (WasProcessed s) (WasProcessed t) (λ a was. moves s t a end.0 was) body.attestations end.1

pub transition_processed : (s : PlainState) (signed : SignedBeaconBlock) (config : ConfigValues) (t : Stepped) → state_transition s signed config ≡ done t → HasPresetBounds t.state.preset → t.state.slot < 2 ^ 64 → All (WasProcessed t.state) signed.message.body.attestations
unfolding state_transition get_current_epoch
transition_processed s signed config t is bounds low =
    let block : BeaconBlock = signed.message in
    let at_slot = on_the_way (process_slots s block.slot config) _ t is in
    let processed = on_the_way (process_block at_slot.value.state block config) _ t at_slot.then_done in
    let root = on_the_way (check (same_root block.state_root ((state_codec processed.value.preset).hash_tree_root processed.value)) StateRoot) _ t processed.then_done in
    let state_is : processed.value ≡ t.state = ap (λ (x : Stepped). x.state) (same_value _ t root.then_done) in
    let stays = block_stays at_slot.value.state processed.value block config processed.first in
    let preset : at_slot.value.state.preset ≡ t.state.preset = sym stays.preset ∙ ap (λ (x : PlainState). x.preset) state_is in
    let slot : at_slot.value.state.slot ≡ t.state.slot = sym stays.slot ∙ ap (λ (x : PlainState). x.slot) state_is in
    let has : HasPresetBounds at_slot.value.state.preset = subst HasPresetBounds (sym preset) bounds in
    subst (λ (x : PlainState). All (WasProcessed x) block.body.attestations) state_is
    (block_processed at_slot.value.state processed.value block config processed.first has (below at_slot.value.state.preset at_slot.value.state.slot has (omega arith)))
