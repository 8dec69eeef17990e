-- No step of a block changes the proposer of its slot: the steps leave who is active, the effective balances and the seed. So they
-- may take the proposer as an argument.
use Rattle.std.proofs.Common.{◌≡◌, ◌∙◌, ℕ, ◌*◌, ◌<◌, Bool, true, false, not, nat_lt, ◌==◌, List, ◌++◌, length, slice_index, if◌then◌else◌, refl, sym, ap, subst, arith, inl, inr}
use Rattle.std.proofs.Math.Path.{fun_ext}
use Rattle.std.proofs.lemmas.Bool.{cases_lt, eqb-false}
use Rattle.std.proofs.lemmas.List.{get_or_past}
use Rattle.hash_tree.specs.Merkle.{hash, uint_to_bytes}
use Rattle.bc_words.specs.Outcome.{Outcome, done, refused, bind, checked_push}
use Rattle.bc_words.specs.Searches.{first_from}
use Rattle.bc_words.specs.declared.refusal.Refusal.TheVariants.{WrongProposer, ProposerSlashed, NoActive}
use Rattle.bc_preset.specs.declared.presets.Preset.{Preset}
use Rattle.bc_preset.specs.laws.Bounds.{HasPresetBounds}
use Rattle.bc_preset.specs.declared.configuration.ConfigValues.{ConfigValues}
use Rattle.beacon_types.specs.declared.validator.Validator.{Validator}
use Rattle.beacon_types.specs.declared.eth1_data.Eth1Data.{Eth1Data}
use Rattle.beacon_types.specs.declared.deposit.Deposit.{Deposit}
use Rattle.beacon_types.specs.declared.signed_exit.SignedVoluntaryExit.{SignedVoluntaryExit}
use Rattle.beacon_types.specs.declared.pending_attestation.PendingAttestation.{PendingAttestation}
use Rattle.beacon_types.specs.declared.proposer_slashing.ProposerSlashing.{ProposerSlashing}
use Rattle.beacon_types.specs.declared.attester_slashing.AttesterSlashing.{AttesterSlashing}
use Rattle.beacon_types.specs.declared.attestation.Attestation.{Attestation}
use Rattle.beacon_types.specs.declared.block.BeaconBlock.{BeaconBlock}
use Rattle.beacon_types.specs.declared.body.BeaconBlockBody.{BeaconBlockBody}
use Rattle.committees.specs.Proposers.{candidate, random_byte, weighs_enough, candidate_passes, candidate_found, proposer_below}
use Rattle.spec_state.specs.declared.plain.PlainState.{PlainState}
use Rattle.spec_state.specs.Constants.{domain_beacon_proposer, far_future_epoch, max_proposer_candidates}
use Rattle.spec_state.specs.States.{votes_limit}
use Rattle.spec_state.specs.Misc.{effective_balance, compute_epoch_at_slot}
use Rattle.spec_state.specs.Accessors.{get_current_epoch, get_active_validator_indices, get_randao_mix, get_seed, get_beacon_proposer_index}
use Rattle.spec_state.proofs.ActiveIndices.{active_below}
use Rattle.spec_blocks.specs.Checks.{check, item_at}
use Rattle.spec_blocks.specs.ProcessBlockHeader.{process_block_header}
use Rattle.spec_blocks.specs.ProcessRandao.{process_randao}
use Rattle.spec_blocks.specs.ProcessEth1Data.{process_eth1_data, count_votes}
use Rattle.spec_blocks.specs.ProcessProposerSlashing.{process_proposer_slashing}
use Rattle.spec_blocks.specs.ProcessAttesterSlashing.{process_attester_slashing}
use Rattle.spec_blocks.specs.ProcessAttestation.{process_attestation}
use Rattle.spec_blocks.specs.ProcessDeposit.{process_deposit}
use Rattle.spec_blocks.specs.ProcessVoluntaryExit.{process_voluntary_exit}
use Rattle.spec_blocks.specs.ProcessOperations.{process_operations}
use Rattle.spec_blocks.proofs.Done.{on_the_way, chosen, same_value}
use Rattle.spec_blocks.proofs.Registry.{RegistryChange, voluntary_exit_keeps, proposer_slashing_keeps, attester_slashing_keeps, deposit_keeps, operations_keep}
use Rattle.spec_blocks.proofs.Pending.{attestation_keeps}
use Rattle.spec_blocks.proofs.SoundHeads.{same_seed}

-- ---- who is proposed depends on effective balances of active validators alone

module _ (preset : Preset) (f g : ℕ → ℕ) (indices seed : List ℕ) (many : ℕ)
    (below : (k : ℕ) → k < length indices → slice_index indices k < many)
    (same : (i : ℕ) → i < many → f i ≡ g i) where
  some_below : (k : ℕ) → (length indices == 0) ≡ false → slice_index indices k < many
  some_below k some = elim (cases_lt k (length indices)) [
    | inl inside ↦ below k inside
    | inr past ↦
        let first : slice_index indices 0 < many = below 0 (let other = eqb-false (length indices) 0 some in elim (cases_lt 0 (length indices)) [ inl more ↦ more | inr none ↦ absurd (other (omega arith)) ]) in
        omega (arith, get_or_past indices k 0 past)
  ]

  passes_same : (length indices == 0) ≡ false → candidate_passes preset f indices seed ≡ candidate_passes preset g indices seed
  unfolding candidate_passes candidate
  passes_same some = fun_ext (λ i. ap (λ (balance : ℕ). weighs_enough preset balance (random_byte seed i)) (same _ (some_below _ some)))

  behind_check : (none : Bool) → (length indices == 0) ≡ none → (bound : ℕ)
      → (if none then refused NoActive else bind (first_from (candidate_passes preset f indices seed) bound 0) (candidate_found preset indices seed))
      ≡ (if none then refused NoActive else bind (first_from (candidate_passes preset g indices seed) bound 0) (candidate_found preset indices seed))
  behind_check true is bound = refl
  behind_check false is bound = ap (λ (passes : ℕ → Outcome Bool). bind (first_from passes bound 0) (candidate_found preset indices seed)) (passes_same is)

  proposer_same : (bound : ℕ) → proposer_below preset f indices seed bound ≡ proposer_below preset g indices seed bound
  unfolding proposer_below
  proposer_same bound = behind_check (length indices == 0) refl bound

-- ---- states of one proposer

-- what the proposer of a state's slot depends on is that of another state
record HasProposerOf (s t : PlainState) : Type 0 where
  preset : t.preset ≡ s.preset
  slot : t.slot ≡ s.slot
  active : get_active_validator_indices t (get_current_epoch s) ≡ get_active_validator_indices s (get_current_epoch s)
  seed : get_seed t (get_current_epoch s) domain_beacon_proposer ≡ get_seed s (get_current_epoch s) domain_beacon_proposer
  effective : (index : ℕ) → index < length s.validators → effective_balance t.validators index ≡ effective_balance s.validators index

proposer_by : Preset → (ℕ → ℕ) → List ℕ → List ℕ → ℕ → Outcome ℕ
proposer_by preset effective active seed slot = proposer_below preset effective active (hash (seed ++ uint_to_bytes slot)) max_proposer_candidates

proposer_in : PlainState → ℕ → Outcome ℕ
proposer_in s epoch = proposer_by s.preset (effective_balance s.validators) (get_active_validator_indices s epoch) (get_seed s epoch domain_beacon_proposer) s.slot

by_epoch : (s : PlainState) → get_beacon_proposer_index s ≡ proposer_in s (get_current_epoch s)
unfolding get_beacon_proposer_index proposer_in proposer_by
by_epoch s = refl

same_epoch : (s t : PlainState) → t.preset ≡ s.preset → t.slot ≡ s.slot → get_current_epoch t ≡ get_current_epoch s
unfolding get_current_epoch
same_epoch s t preset slot = ap (λ (p : Preset). compute_epoch_at_slot p t.slot) preset ∙ ap (compute_epoch_at_slot s.preset) slot

in_epoch : (s t : PlainState) → HasProposerOf s t → proposer_in t (get_current_epoch s) ≡ proposer_in s (get_current_epoch s)
unfolding proposer_in proposer_by
in_epoch s t of =
    let epoch : ℕ = get_current_epoch s in
    let active : List ℕ = get_active_validator_indices s epoch in
    let f : ℕ → ℕ = effective_balance t.validators in
    ap (λ (p : Preset). proposer_by p f (get_active_validator_indices t epoch) (get_seed t epoch domain_beacon_proposer) t.slot) of.preset
    ∙ (ap (λ (indices : List ℕ). proposer_by s.preset f indices (get_seed t epoch domain_beacon_proposer) t.slot) of.active
    ∙ (ap (λ (seed : List ℕ). proposer_by s.preset f active seed t.slot) of.seed
    ∙ (ap (proposer_by s.preset f active (get_seed s epoch domain_beacon_proposer)) of.slot
    ∙ proposer_same s.preset f (effective_balance s.validators) active (hash (get_seed s epoch domain_beacon_proposer ++ uint_to_bytes s.slot)) (length s.validators)
    (active_below s epoch) of.effective max_proposer_candidates)))

same_proposer : (s t : PlainState) → HasProposerOf s t → get_beacon_proposer_index t ≡ get_beacon_proposer_index s
same_proposer s t of = by_epoch t ∙ (ap (proposer_in t) (same_epoch s t of.preset of.slot) ∙ (in_epoch s t of ∙ sym (by_epoch s)))

-- ---- the head of a block

pub header_keeps_proposer : (s t : PlainState) (block : BeaconBlock) (proposer : ℕ) → process_block_header s block proposer ≡ done t → get_beacon_proposer_index t ≡ get_beacon_proposer_index s
unfolding process_block_header get_active_validator_indices get_randao_mix
header_keeps_proposer s t block proposer is =
    let right = on_the_way (check (block.proposer_index == proposer) WrongProposer) _ t is in
    let validator = on_the_way (item_at s.validators block.proposer_index) _ t right.then_done in
    let free = on_the_way (check (not validator.value.slashed) ProposerSlashed) _ t validator.then_done in
    subst (λ (x : PlainState). get_beacon_proposer_index x ≡ get_beacon_proposer_index s) (same_value _ t free.then_done)
    (same_proposer s _ (record { preset = refl; slot = refl; active = refl; seed = refl; effective = λ index inside. refl }))

pub randao_keeps_proposer : (s : PlainState) (body : BeaconBlockBody) → HasPresetBounds s.preset → get_beacon_proposer_index (process_randao s body) ≡ get_beacon_proposer_index s
unfolding process_randao get_active_validator_indices
randao_keeps_proposer s body bounds = same_proposer s (process_randao s body) (record {
  preset = refl;
  slot = refl;
  active = refl;
  seed = same_seed domain_beacon_proposer s (get_current_epoch s) (get_current_epoch s) _ bounds (omega arith) (omega arith);
  effective = λ index inside. refl;
})

with_votes : (s : PlainState) (votes : List Eth1Data) (data_voted : Eth1Data) → get_beacon_proposer_index (record s { eth1_data_votes = votes; eth1_data = data_voted }) ≡ get_beacon_proposer_index s
unfolding get_active_validator_indices get_randao_mix
with_votes s votes data_voted = same_proposer s _ (record { preset = refl; slot = refl; active = refl; seed = refl; effective = λ index inside. refl })

pub eth1_data_keeps_proposer : (s t : PlainState) (body : BeaconBlockBody) → process_eth1_data s body ≡ done t → get_beacon_proposer_index t ≡ get_beacon_proposer_index s
unfolding process_eth1_data
eth1_data_keeps_proposer s t body is =
    let votes = on_the_way (checked_push (votes_limit s.preset) s.eth1_data_votes body.eth1_data) _ t is in
    elim (chosen (nat_lt (votes_limit s.preset) (count_votes votes.value body.eth1_data * 2)) _ _ _ votes.then_done) [
      | inl won ↦ subst (λ (x : PlainState). get_beacon_proposer_index x ≡ get_beacon_proposer_index s) (same_value _ t won.1) (with_votes s votes.value body.eth1_data)
      | inr other ↦ subst (λ (x : PlainState). get_beacon_proposer_index x ≡ get_beacon_proposer_index s) (same_value _ t other.1) (with_votes s votes.value s.eth1_data)
    ]

-- ---- the operations

-- a state with another's proposer, whose epoch has epochs behind it
record Proposed (s x : PlainState) : Type 0 where
  same : get_beacon_proposer_index x ≡ get_beacon_proposer_index s
  before : get_current_epoch x < far_future_epoch

registry_proposed : (s x : PlainState) (validators : List Validator) (balances slashings : List ℕ) (deposits : ℕ) → RegistryChange x validators balances → Proposed s x
    → Proposed s (record x { validators = validators; balances = balances; slashings = slashings; eth1_deposit_index = deposits })
unfolding get_current_epoch get_active_validator_indices get_randao_mix
registry_proposed s x validators balances slashings deposits change proposed = record {
  same = same_proposer x _ (record {
    preset = refl;
    slot = refl;
    active = change.active proposed.before (get_current_epoch x) (omega arith);
    seed = refl;
    effective = change.effective;
  }) ∙ proposed.same;
  before = proposed.before;
}

with_pending_lists : (s : PlainState) (previous current : List PendingAttestation)
    → get_beacon_proposer_index (record s { previous_epoch_attestations = previous; current_epoch_attestations = current }) ≡ get_beacon_proposer_index s
unfolding get_active_validator_indices get_randao_mix
with_pending_lists s previous current = same_proposer s _ (record { preset = refl; slot = refl; active = refl; seed = refl; effective = λ index inside. refl })

pending_proposed : (s x : PlainState) (previous current : List PendingAttestation) → Proposed s x
    → Proposed s (record x { previous_epoch_attestations = previous; current_epoch_attestations = current })
unfolding get_current_epoch
pending_proposed s x previous current proposed = record { same = with_pending_lists x previous current ∙ proposed.same; before = proposed.before }

pub proposer_slashing_keeps_proposer : (s t : PlainState) (slashing : ProposerSlashing) (proposer : ℕ) (config : ConfigValues) → process_proposer_slashing s slashing proposer config ≡ done t
    → get_current_epoch s < far_future_epoch → get_beacon_proposer_index t ≡ get_beacon_proposer_index s
proposer_slashing_keeps_proposer s t slashing proposer config is before =
    (proposer_slashing_keeps (Proposed s) (registry_proposed s) proposer config s t slashing is (record { same = refl; before = before })).same

pub attester_slashing_keeps_proposer : (s t : PlainState) (slashing : AttesterSlashing) (proposer : ℕ) (config : ConfigValues) → process_attester_slashing s slashing proposer config ≡ done t
    → get_current_epoch s < far_future_epoch → get_beacon_proposer_index t ≡ get_beacon_proposer_index s
attester_slashing_keeps_proposer s t slashing proposer config is before =
    (attester_slashing_keeps (Proposed s) (registry_proposed s) proposer config s t slashing is (record { same = refl; before = before })).same

pub attestation_keeps_proposer : (s t : PlainState) (attestation : Attestation) (proposer : ℕ) → process_attestation s attestation proposer ≡ done t → get_beacon_proposer_index t ≡ get_beacon_proposer_index s
attestation_keeps_proposer s t attestation proposer is =
    attestation_keeps (λ (x : PlainState). get_beacon_proposer_index x ≡ get_beacon_proposer_index s) (λ x previous current same. with_pending_lists x previous current ∙ same) proposer s t attestation is refl

pub deposit_keeps_proposer : (s t : PlainState) (deposit : Deposit) → process_deposit s deposit ≡ done t → get_current_epoch s < far_future_epoch → get_beacon_proposer_index t ≡ get_beacon_proposer_index s
deposit_keeps_proposer s t deposit is before = (deposit_keeps (Proposed s) (registry_proposed s) s t deposit is (record { same = refl; before = before })).same

pub voluntary_exit_keeps_proposer : (s t : PlainState) (exit : SignedVoluntaryExit) (config : ConfigValues) → process_voluntary_exit s exit config ≡ done t
    → get_current_epoch s < far_future_epoch → get_beacon_proposer_index t ≡ get_beacon_proposer_index s
voluntary_exit_keeps_proposer s t exit config is before =
    (voluntary_exit_keeps (Proposed s) (registry_proposed s) config s t exit is (record { same = refl; before = before })).same

-- all operations of a block
pub operations_keep_proposer : (s t : PlainState) (body : BeaconBlockBody) (proposer : ℕ) (config : ConfigValues) → process_operations s body proposer config ≡ done t
    → get_current_epoch s < far_future_epoch → get_beacon_proposer_index t ≡ get_beacon_proposer_index s
operations_keep_proposer s t body proposer config is before =
    (operations_keep (Proposed s) (registry_proposed s) proposer config (λ x y attestation step proposed. attestation_keeps (Proposed s) (pending_proposed s) proposer x y attestation step proposed)
    s t body is (record { same = refl; before = before })).same
