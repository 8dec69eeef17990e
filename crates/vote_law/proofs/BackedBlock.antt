-- A block keeps the attestations that wait backed, by what it carries too.
use Rattle.std.proofs.Common.{◌≡◌, ◌∙◌, ℕ, ◌*◌, ◌<◌, ◌⊎◌, inl, inr, not, ◌==◌, nat_lt, List, [], ◌∷◌, refl, sym, ap, subst, arith}
use Rattle.bc_words.specs.Outcome.{Outcome, done, checked_push}
use Rattle.bc_words.specs.declared.refusal.Refusal.TheVariants.{WrongProposer, ProposerSlashed}
use Rattle.bc_preset.specs.declared.presets.Preset.{Preset}
use Rattle.bc_preset.specs.declared.configuration.ConfigValues.{ConfigValues}
use Rattle.bc_preset.specs.laws.Bounds.{HasPresetBounds}
use Rattle.beacon_types.specs.declared.validator.Validator.{Validator}
use Rattle.beacon_types.specs.declared.eth1_data.Eth1Data.{Eth1Data}
use Rattle.beacon_types.specs.declared.attestation_data.AttestationData.{AttestationData}
use Rattle.beacon_types.specs.declared.attestation.Attestation.{Attestation}
use Rattle.beacon_types.specs.declared.body.BeaconBlockBody.{BeaconBlockBody}
use Rattle.beacon_types.specs.declared.block.BeaconBlock.{BeaconBlock}
use Rattle.spec_state.specs.declared.plain.PlainState.{PlainState}
use Rattle.spec_state.specs.Constants.{domain_beacon_attester, far_future_epoch}
use Rattle.spec_state.specs.States.{votes_limit}
use Rattle.spec_state.specs.Misc.{compute_epoch_at_slot}
use Rattle.spec_state.specs.Accessors.{get_current_epoch, get_previous_epoch, get_active_validator_indices, get_randao_mix, get_beacon_proposer_index}
use Rattle.spec_blocks.specs.Checks.{check, item_at, each_of}
use Rattle.spec_blocks.specs.ProcessAttestation.{process_attestation}
use Rattle.spec_blocks.specs.ProcessProposerSlashing.{process_proposer_slashing}
use Rattle.spec_blocks.specs.ProcessAttesterSlashing.{process_attester_slashing}
use Rattle.spec_blocks.specs.ProcessDeposit.{process_deposit}
use Rattle.spec_blocks.specs.ProcessVoluntaryExit.{process_voluntary_exit}
use Rattle.spec_blocks.specs.ProcessOperations.{process_operations, check_deposit_count}
use Rattle.spec_blocks.specs.ProcessBlockHeader.{process_block_header}
use Rattle.spec_blocks.specs.ProcessRandao.{process_randao}
use Rattle.spec_blocks.specs.ProcessEth1Data.{process_eth1_data, count_votes}
use Rattle.spec_blocks.specs.ProcessBlock.{process_block}
use Rattle.spec_blocks.proofs.Done.{on_the_way, chosen, same_value}
use Rattle.spec_blocks.proofs.Sound.{SameCommittees, previous_below, same_previous}
use Rattle.spec_blocks.proofs.Registry.{RegistryChange, active_of, voluntary_exit_keeps, proposer_slashing_keeps, attester_slashing_keeps, deposit_keeps}
use Rattle.spec_blocks.proofs.SoundHeads.{same_seed}
use Rattle.spec_blocks.proofs.Each.{each_keeps}
use Rattle.ffg_law.specs.Links.{IsOneOf}
use Rattle.vote_law.specs.Backed.{Votes, Adding, IsBacked}
use Rattle.vote_law.proofs.Backed.{More, same_attesters, Stands, still_backed, backed_more, no_more, same_stays}
use Rattle.vote_law.proofs.BackedAttestation.{attestation_pends}

-- a step that keeps a property, for each item of a list
each_keeps_of : {A S : Type 0} (P : S → Type 0) (step : S → A → Outcome S) (items : List A) → ((s t : S) (a : A) → IsOneOf a items → step s a ≡ done t → P s → P t) → (s t : S) → each_of step s items ≡ done t → P s → P t
unfolding each_of
each_keeps_of P step [] keeps s t is holds = subst P (same_value s t is) holds
each_keeps_of P step (item ∷ items) keeps s t is holds =
    let first = on_the_way (step s item) _ t is in
    each_keeps_of P step items (λ x y a one. keeps x y a (inr one)) first.value t first.then_done (keeps s first.value item (inl refl) first.first holds)

-- ---- all operations

-- a state within a block: its epoch and committees are those at the block's beginning, and its attestations are backed
record IsWithin (votes : Votes) (s x : PlainState) : Type 0 where
  epoch : get_current_epoch x ≡ get_current_epoch s
  current : SameCommittees s x (get_current_epoch s)
  previous : SameCommittees s x (get_previous_epoch s)
  backed : IsBacked votes x

-- a step that stands still
stands_within : (votes : Votes) (s x y : PlainState) → Stands x y → IsWithin votes s x → IsWithin votes s y
stands_within votes s x y stands within = record {
  epoch = stands.epoch ∙ within.epoch;
  current = same_stays s x y (get_current_epoch s) within.current (subst (λ (e : ℕ). SameCommittees x y e) within.epoch stands.current);
  previous = same_stays s x y (get_previous_epoch s) within.previous (subst (λ (e : ℕ). SameCommittees x y e) (same_previous s x within.epoch) stands.previous);
  backed = still_backed votes votes x y (no_more votes) stands within.backed;
}

registry_stands : (x : PlainState) (validators : List Validator) (balances slashings : List ℕ) (deposits : ℕ)
    → active_of validators (get_current_epoch x) ≡ active_of x.validators (get_current_epoch x)
    → active_of validators (get_previous_epoch x) ≡ active_of x.validators (get_previous_epoch x)
    → Stands x (record x { validators = validators; balances = balances; slashings = slashings; eth1_deposit_index = deposits })
unfolding get_current_epoch get_active_validator_indices get_randao_mix
registry_stands x validators balances slashings deposits now then = record {
  epoch = refl;
  current = record { preset = refl; active = now; seed = refl };
  previous = record { preset = refl; active = then; seed = refl };
  previous_justified = refl;
  current_justified = refl;
  previous_attestations = refl;
  current_attestations = refl;
}

-- an attestation of the body
attestation_within : (votes : Votes) (attestations : List Attestation) (proposer : ℕ) (s x y : PlainState) (attestation : Attestation) → IsOneOf attestation attestations
    → process_attestation x attestation proposer ≡ done y → IsWithin (Adding votes attestations s) s x → IsWithin (Adding votes attestations s) s y
attestation_within votes attestations proposer s x y attestation one is within =
    let voted : AttestationData = attestation.content in
    let before = same_previous s x within.epoch in
    let pended = attestation_pends (Adding votes attestations s) x y attestation proposer is
    (λ timely.
    let same_slot : compute_epoch_at_slot s.preset voted.slot ≡ compute_epoch_at_slot x.preset voted.slot = ap (λ (p : Preset). compute_epoch_at_slot p voted.slot) (sym within.current.preset) in
    let epoch : (compute_epoch_at_slot s.preset voted.slot ≡ get_previous_epoch s) ⊎ (compute_epoch_at_slot s.preset voted.slot ≡ get_current_epoch s) = elim timely.target [
      | inl previous ↦ inl (same_slot ∙ (sym timely.epoch ∙ (previous ∙ before)))
      | inr current ↦ inr (same_slot ∙ (sym timely.epoch ∙ (current ∙ within.epoch)))
    ] in
    let same : SameCommittees s x (compute_epoch_at_slot s.preset voted.slot) = elim epoch [
      | inl previous ↦ subst (λ (e : ℕ). SameCommittees s x e) (sym previous) within.previous
      | inr current ↦ subst (λ (e : ℕ). SameCommittees s x e) (sym current) within.current
    ] in
    inr (record { attestation = attestation; listed = one; content = refl; recent = epoch; attest = sym (same_attesters s x voted attestation.aggregation_bits same) }))
    within.backed in
    record {
      epoch = pended.epoch ∙ within.epoch;
      current = same_stays s x y (get_current_epoch s) within.current (pended.committees (get_current_epoch s));
      previous = same_stays s x y (get_previous_epoch s) within.previous (pended.committees (get_previous_epoch s));
      backed = pended.backed;
    }

module _ (s : PlainState) (low : get_current_epoch s < far_future_epoch) where
  operations_within : (votes : Votes) (x y : PlainState) (body : BeaconBlockBody) (proposer : ℕ) (config : ConfigValues) → process_operations x body proposer config ≡ done y
      → IsWithin (Adding votes body.attestations s) s x → IsWithin (Adding votes body.attestations s) s y
  unfolding process_operations
  operations_within votes x y body proposer config is within =
      let P : PlainState → Type 0 = IsWithin (Adding votes body.attestations s) s in
      let before : (z : PlainState) → P z → get_current_epoch z < far_future_epoch = λ z holds. let same = holds.epoch in omega arith in
      let registry : (z : PlainState) (validators : List Validator) (balances slashings : List ℕ) (deposits : ℕ) → RegistryChange z validators balances
      → P z → P (record z { validators = validators; balances = balances; slashings = slashings; eth1_deposit_index = deposits }) =
      λ z validators balances slashings deposits change holds.
      stands_within (Adding votes body.attestations s) s z _
      (registry_stands z validators balances slashings deposits (change.active (before z holds) (get_current_epoch z) (omega arith)) (change.active (before z holds) (get_previous_epoch z) (previous_below z).0))
      holds in
      let count = on_the_way (check_deposit_count x body) _ y is in
      let one = on_the_way (each_of (λ s operation. process_proposer_slashing s operation proposer config) x body.proposer_slashings) _ y count.then_done in
      let two = on_the_way (each_of (λ s operation. process_attester_slashing s operation proposer config) one.value body.attester_slashings) _ y one.then_done in
      let three = on_the_way (each_of (λ s operation. process_attestation s operation proposer) two.value body.attestations) _ y two.then_done in
      let four = on_the_way (each_of process_deposit three.value body.deposits) _ y three.then_done in
      let after_one = each_keeps P (λ s operation. process_proposer_slashing s operation proposer config) (proposer_slashing_keeps P registry proposer config) body.proposer_slashings x one.value one.first within in
      let after_two = each_keeps P (λ s operation. process_attester_slashing s operation proposer config) (attester_slashing_keeps P registry proposer config) body.attester_slashings one.value two.value two.first after_one in
      let after_three = each_keeps_of P (λ s operation. process_attestation s operation proposer) body.attestations (λ u v a listed step holds. attestation_within votes body.attestations proposer s u v a listed step holds) two.value three.value three.first after_two in
      let after_four = each_keeps P process_deposit (deposit_keeps P registry) body.deposits three.value four.value four.first after_three in
      each_keeps P (λ s operation. process_voluntary_exit s operation config) (voluntary_exit_keeps P registry config) body.voluntary_exits four.value y four.then_done after_four

-- ---- the head of a block

header_stands : (s t : PlainState) (block : BeaconBlock) (proposer : ℕ) → process_block_header s block proposer ≡ done t → Stands s t
unfolding process_block_header get_current_epoch get_active_validator_indices get_randao_mix
header_stands s t block proposer is =
    let right = on_the_way (check (block.proposer_index == proposer) WrongProposer) _ t is in
    let validator = on_the_way (item_at s.validators block.proposer_index) _ t right.then_done in
    let free = on_the_way (check (not validator.value.slashed) ProposerSlashed) _ t validator.then_done in
    subst (Stands s) (same_value _ t free.then_done) (record { epoch = refl; current = record { preset = refl; active = refl; seed = refl }; previous = record { preset = refl; active = refl; seed = refl }; previous_justified = refl; current_justified = refl; previous_attestations = refl; current_attestations = refl })

same_epoch : (s : PlainState) (mixes : List (List ℕ)) → get_current_epoch (record s { randao_mixes = mixes }) ≡ get_current_epoch s
unfolding get_current_epoch
same_epoch s mixes = refl

randao_stands : (s : PlainState) (body : BeaconBlockBody) → HasPresetBounds s.preset → Stands s (process_randao s body)
unfolding process_randao get_active_validator_indices
randao_stands s body bounds = record {
  epoch = same_epoch s _;
  current = record { preset = refl; active = refl; seed = same_seed domain_beacon_attester s (get_current_epoch s) (get_current_epoch s) _ bounds (omega arith) (omega arith) };
  previous = record { preset = refl; active = refl; seed = let (below, above) = previous_below s in same_seed domain_beacon_attester s (get_previous_epoch s) (get_current_epoch s) _ bounds below (omega arith) };
  previous_justified = refl;
  current_justified = refl;
  previous_attestations = refl;
  current_attestations = refl;
}

eth1_stands : (s t : PlainState) (body : BeaconBlockBody) → process_eth1_data s body ≡ done t → Stands s t
unfolding process_eth1_data get_current_epoch get_active_validator_indices get_randao_mix
eth1_stands s t body is =
    let votes = on_the_way (checked_push (votes_limit s.preset) s.eth1_data_votes body.eth1_data) _ t is in
    let given : (data_voted : Eth1Data) → Stands s (record s { eth1_data_votes = votes.value; eth1_data = data_voted }) = λ data_voted. record { epoch = refl; current = record { preset = refl; active = refl; seed = refl }; previous = record { preset = refl; active = refl; seed = refl }; previous_justified = refl; current_justified = refl; previous_attestations = refl; current_attestations = refl } in
    elim (chosen (nat_lt (votes_limit s.preset) (count_votes votes.value body.eth1_data * 2)) _ _ _ votes.then_done) [
      | inl won ↦ subst (Stands s) (same_value _ t won.1) (given body.eth1_data)
      | inr other ↦ subst (Stands s) (same_value _ t other.1) (given s.eth1_data)
    ]

header_preset : (s t : PlainState) (block : BeaconBlock) (proposer : ℕ) → process_block_header s block proposer ≡ done t → t.preset ≡ s.preset
header_preset s t block proposer is = (header_stands s t block proposer is).current.preset

-- listed attestations, by the state behind the block
listed_behind : (votes : Votes) (attestations : List Attestation) (s t : PlainState) → get_current_epoch t ≡ get_current_epoch s → SameCommittees s t (get_current_epoch s) → SameCommittees s t (get_previous_epoch s)
    → More (Adding votes attestations s) (Adding votes attestations t)
listed_behind votes attestations s t epoch current previous voted attesters (inl before) = inl before
listed_behind votes attestations s t epoch current previous voted attesters (inr here) =
    let same_slot : compute_epoch_at_slot t.preset voted.slot ≡ compute_epoch_at_slot s.preset voted.slot = ap (λ (p : Preset). compute_epoch_at_slot p voted.slot) current.preset in
    let same : SameCommittees s t (compute_epoch_at_slot s.preset voted.slot) = elim here.recent [
      | inl is ↦ subst (λ (e : ℕ). SameCommittees s t e) (sym is) previous
      | inr is ↦ subst (λ (e : ℕ). SameCommittees s t e) (sym is) current
    ] in
    inr (record {
      attestation = here.attestation;
      listed = here.listed;
      content = here.content;
      recent = elim here.recent [
        | inl is ↦ inl (same_slot ∙ (is ∙ sym (same_previous s t epoch)))
        | inr is ↦ inr (same_slot ∙ (is ∙ sym epoch))
      ];
      attest = same_attesters s t voted here.attestation.aggregation_bits same ∙ here.attest;
    })

-- A block keeps attestations backed, by what was carried before and by its own, with the attesters that the state behind it has
pub block_backed : (votes : Votes) (s t : PlainState) (block : BeaconBlock) (config : ConfigValues) → process_block s block config ≡ done t → HasPresetBounds s.preset → get_current_epoch s < far_future_epoch
    → IsBacked votes s → IsBacked (Adding votes block.body.attestations t) t
unfolding process_block
block_backed votes s t block config is bounds low backed =
    let body = block.body in
    let all : Votes = Adding votes body.attestations s in
    let proposer = on_the_way (get_beacon_proposer_index s) _ t is in
    let header = on_the_way (process_block_header s block proposer.value) _ t proposer.then_done in
    let eth1 = on_the_way (process_eth1_data (process_randao header.value body) body) _ t header.then_done in
    let start : IsWithin all s s = record {
      epoch = refl;
      current = record { preset = refl; active = refl; seed = refl };
      previous = record { preset = refl; active = refl; seed = refl };
      backed = backed_more votes all s (λ voted attesters is. inl is) backed;
    } in
    let with_header = stands_within all s s header.value (header_stands s header.value block proposer.value header.first) start in
    let with_randao = stands_within all s header.value (process_randao header.value body) (randao_stands header.value body (subst HasPresetBounds (sym (header_preset s header.value block proposer.value header.first)) bounds)) with_header in
    let with_eth1 = stands_within all s (process_randao header.value body) eth1.value (eth1_stands (process_randao header.value body) eth1.value body eth1.first) with_randao in
    let end = operations_within s low votes eth1.value t body proposer.value config eth1.then_done with_eth1 in
    still_backed all (Adding votes body.attestations t) t t (listed_behind votes body.attestations s t end.epoch end.current end.previous)
    (record { epoch = refl; current = record { preset = refl; active = refl; seed = refl }; previous = record { preset = refl; active = refl; seed = refl }; previous_justified = refl; current_justified = refl; previous_attestations = refl; current_attestations = refl }) end.backed
