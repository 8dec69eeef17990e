-- The parts of epoch processing that leave the registry's activity: rewards, slashings, resets, roots, effective balances.
use Rattle.std.proofs.Common.{◌≡◌, ◌∙◌, ℕ, suc, ◌+◌, ◌/◌, ◌%◌, ◌≤◌, Bool, min, not, ◌==◌, if◌then◌else◌, List, [], ◌∷◌, Option, Some, None, length, slice_get, slice_set, refl, sym, ap, subst, arith, inl, inr}
use Rattle.std.specs.List.{range_with_len}
use Rattle.std.proofs.lemmas.List.FromFn.{length-range_with_len}
use Rattle.bc_words.specs.Outcome.{Outcome, done, checked_mul, checked_sum, checked_push}
use Rattle.bc_preset.specs.laws.Bounds.{HasPresetBounds}
use Rattle.beacon_types.specs.declared.validator.Validator.{Validator}
use Rattle.beacon_types.specs.declared.eth1_data.Eth1Data.{Eth1Data}
use Rattle.spec_state.specs.declared.plain.PlainState.{PlainState}
use Rattle.spec_state.specs.Predicates.{is_active_validator}
use Rattle.spec_state.specs.Constants.{domain_beacon_attester}
use Rattle.spec_state.specs.Accessors.{get_current_epoch, get_active_validator_indices, get_randao_mix, get_total_active_balance, indices_from}
use Rattle.spec_blocks.specs.Checks.{item_at}
use Rattle.spec_blocks.proofs.Done.{on_the_way, chosen, same_value, item_is}
use Rattle.spec_blocks.proofs.SoundHeads.{same_seed}
use Rattle.spec_epochs.specs.Each.{validator_indices, checked_map}
use Rattle.spec_epochs.specs.GetAttestationDeltas.{get_attestation_deltas}
use Rattle.spec_epochs.specs.ProcessRewardsAndPenalties.{process_rewards_and_penalties, rewarded_balance}
use Rattle.spec_epochs.specs.ProcessSlashings.{process_slashings, penalized_balance}
use Rattle.spec_epochs.specs.ProcessEth1DataReset.{process_eth1_data_reset}
use Rattle.spec_epochs.specs.ProcessEffectiveBalanceUpdates.{process_effective_balance_updates, updated_validator, is_out_of_bounds}
use Rattle.spec_epochs.specs.ProcessSlashingsReset.{process_slashings_reset}
use Rattle.spec_epochs.specs.ProcessRandaoMixesReset.{process_randao_mixes_reset}
use Rattle.spec_epochs.specs.ProcessHistoricalRootsUpdate.{process_historical_roots_update, historical_batch_codec, historical_batch}
use Rattle.spec_epochs.proofs.Each.{length-checked_map}
use Rattle.spec_epochs.proofs.SoundWithin.{Leaves, leaves_all}

-- ---- parts that no committee depends on

-- as many values as validators
as_many : {B : Type 0} (s : PlainState) (make : ℕ → Outcome B) (values : List B) → checked_map make (validator_indices s) ≡ done values → length values ≡ length s.validators
unfolding validator_indices
as_many s make values is = length-checked_map make (range_with_len 0 (length s.validators)) values is ∙ length-range_with_len 0 (length s.validators)

-- other votes, slashings and roots, and as many balances as validators
with_others : (s : PlainState) (votes : List Eth1Data) (balances slashings : List ℕ) (roots : List (List ℕ)) → (length s.balances ≡ length s.validators → length balances ≡ length s.validators)
    → Leaves s (record s { eth1_data_votes = votes; balances = balances; slashings = slashings; historical_roots = roots })
unfolding get_active_validator_indices get_randao_mix
with_others s votes balances slashings roots paired = record {
  preset = refl;
  slot = refl;
  header = refl;
  validators = refl;
  balances = paired;
  previous_justified = refl;
  current_justified = refl;
  finalized = refl;
  previous_attestations = refl;
  current_attestations = refl;
  committees = λ epoch low high. record { preset = refl; active = refl; seed = refl };
}

with_balances : (s : PlainState) (balances : List ℕ) → length balances ≡ length s.validators → Leaves s (record s { balances = balances })
with_balances s balances paired = with_others s s.eth1_data_votes balances s.slashings s.historical_roots (λ before. paired)

-- process_rewards_and_penalties
pub rewards_leave : (s t : PlainState) → process_rewards_and_penalties s ≡ done t → Leaves s t
unfolding process_rewards_and_penalties
rewards_leave s t is = elim (chosen (get_current_epoch s == 0) _ _ _ is) [
  | inl first ↦ subst (Leaves s) (same_value s t first.1) (leaves_all s)
  | inr later ↦
      let deltas = on_the_way (get_attestation_deltas s) _ t later.1 in
      let balances = on_the_way (checked_map (rewarded_balance s deltas.value) (validator_indices s)) _ t deltas.then_done in
      subst (Leaves s) (same_value _ t balances.then_done) (with_balances s balances.value (as_many s (rewarded_balance s deltas.value) balances.value balances.first))
]

-- process_slashings
pub slashings_leave : (s t : PlainState) → process_slashings s ≡ done t → Leaves s t
unfolding process_slashings
slashings_leave s t is =
    let total = on_the_way (get_total_active_balance s) _ t is in
    let slashed = on_the_way (checked_sum s.slashings) _ t total.then_done in
    let multiplied = on_the_way (checked_mul slashed.value s.preset.proportional_slashing_multiplier) _ t slashed.then_done in
    let make : ℕ → Outcome ℕ = penalized_balance s (min multiplied.value total.value) total.value in
    let balances = on_the_way (checked_map make (validator_indices s)) _ t multiplied.then_done in
    subst (Leaves s) (same_value _ t balances.then_done) (with_balances s balances.value (as_many s make balances.value balances.first))

-- process_eth1_data_reset
pub eth1_data_reset_leaves : (s : PlainState) → Leaves s (process_eth1_data_reset s)
unfolding process_eth1_data_reset
eth1_data_reset_leaves s = elim (chosen ((get_current_epoch s + 1) % s.preset.epochs_per_eth1_voting_period == 0) (record s { eth1_data_votes = [] }) s _ refl) [
  | inl begins ↦ subst (Leaves s) begins.1 (with_others s [] s.balances s.slashings s.historical_roots (λ paired. paired))
  | inr goes_on ↦ subst (Leaves s) goes_on.1 (leaves_all s)
]

-- process_slashings_reset
pub slashings_reset_leaves : (s : PlainState) → Leaves s (process_slashings_reset s)
unfolding process_slashings_reset
slashings_reset_leaves s = with_others s s.eth1_data_votes s.balances (slice_set s.slashings ((get_current_epoch s + 1) % s.preset.epochs_per_slashings_vector) 0) s.historical_roots (λ paired. paired)

-- process_historical_roots_update
pub historical_roots_leave : (s t : PlainState) → process_historical_roots_update s ≡ done t → Leaves s t
unfolding process_historical_roots_update
historical_roots_leave s t is = elim (chosen (not ((get_current_epoch s + 1) % (s.preset.slots_per_historical_root / s.preset.slots_per_epoch) == 0)) _ _ _ is) [
  | inl other ↦ subst (Leaves s) (same_value s t other.1) (leaves_all s)
  | inr round ↦
      let roots = on_the_way (checked_push s.preset.historical_roots_limit s.historical_roots ((historical_batch_codec s.preset).hash_tree_root (historical_batch s))) _ t round.1 in
      subst (Leaves s) (same_value _ t roots.then_done) (with_others s s.eth1_data_votes s.balances s.slashings roots.value (λ paired. paired))
]

-- ---- the mix of the next epoch, by which the committees of the current and the previous epoch aren't shuffled

-- process_randao_mixes_reset
pub randao_mixes_reset_leaves : (s : PlainState) → HasPresetBounds s.preset → Leaves s (process_randao_mixes_reset s)
unfolding process_randao_mixes_reset get_active_validator_indices
randao_mixes_reset_leaves s bounds = record {
  preset = refl;
  slot = refl;
  header = refl;
  validators = refl;
  balances = λ paired. paired;
  previous_justified = refl;
  current_justified = refl;
  finalized = refl;
  previous_attestations = refl;
  current_attestations = refl;
  committees = λ epoch low high. record { preset = refl; active = refl; seed = same_seed domain_beacon_attester s epoch (get_current_epoch s + 1) (get_randao_mix s (get_current_epoch s)) bounds (omega arith) (omega arith) };
}

-- ---- effective balances

-- another registry, as large, in which the same are active in the current and the previous epoch
pub with_registry : (s : PlainState) (validators : List Validator) → length validators ≡ length s.validators
    → ((epoch : ℕ) → epoch ≤ get_current_epoch s → indices_from (λ v. is_active_validator v epoch) 0 validators ≡ indices_from (λ v. is_active_validator v epoch) 0 s.validators)
    → Leaves s (record s { validators = validators })
unfolding get_active_validator_indices get_randao_mix
with_registry s validators count same = record {
  preset = refl;
  slot = refl;
  header = refl;
  validators = count;
  balances = λ paired. paired ∙ sym count;
  previous_justified = refl;
  current_justified = refl;
  finalized = refl;
  previous_attestations = refl;
  current_attestations = refl;
  committees = λ epoch low high. record { preset = refl; active = same epoch low; seed = refl };
}

-- the list of those that pass a test, where what is made of each passes as before
indices_of_made : (test : Validator → Bool) (make : ℕ → Outcome Validator) (all : List Validator)
    → ((index : ℕ) (old new : Validator) → slice_get all index ≡ Some old → make index ≡ done new → test new ≡ test old)
    → (first : ℕ) (vs made : List Validator) → ((k : ℕ) → slice_get all (first + k) ≡ slice_get vs k)
    → checked_map make (range_with_len first (length vs)) ≡ done made → indices_from test first made ≡ indices_from test first vs
unfolding indices_from checked_map
indices_of_made test make all same first [] made at is = ap (indices_from test first) (sym (same_value [] made is))
indices_of_made test make all same first (v ∷ vs) made at is =
    let one = on_the_way (make first) _ made is in
    let others = on_the_way (checked_map make (range_with_len (first + 1) (length vs))) _ made one.then_done in
    let here : slice_get all first ≡ Some v = let e : first + 0 ≡ first = omega arith in subst (λ (i : ℕ). slice_get all i ≡ Some v) e (at 0) in
    let next : (k : ℕ) → slice_get all (first + 1 + k) ≡ slice_get vs k = λ (k : ℕ). let e : first + suc k ≡ first + 1 + k = omega arith in subst (λ (i : ℕ). slice_get all i ≡ slice_get vs k) e (at (suc k)) in
    let rest : indices_from test (suc first) others.value ≡ indices_from test (suc first) vs =
    let e : first + 1 ≡ suc first = omega arith in
    subst (λ (i : ℕ). indices_from test i others.value ≡ indices_from test i vs) e (indices_of_made test make all same (first + 1) vs others.value next others.first) in
    ap (indices_from test first) (sym (same_value (one.value ∷ others.value) made others.then_done))
    ∙ (ap (λ (passes : Bool). if passes then first ∷ indices_from test (suc first) others.value else indices_from test (suc first) others.value) (same first v one.value here one.first)
    ∙ ap (λ (list : List ℕ). if test v then first ∷ list else list) rest)

abbrev held : Validator → Option Validator → Validator
held v None = v
held v (Some w) = w

-- its activity doesn't depend on its effective balance
updated_active : (s : PlainState) (epoch index : ℕ) (old new : Validator) → slice_get s.validators index ≡ Some old → updated_validator s index ≡ done new → is_active_validator new epoch ≡ is_active_validator old epoch
unfolding updated_validator is_active_validator
updated_active s epoch index old new at is =
    let validator = on_the_way (item_at s.validators index) _ new is in
    let balance = on_the_way (item_at s.balances index) _ new validator.then_done in
    let changes = on_the_way (is_out_of_bounds s.preset balance.value validator.value.effective_balance) _ new balance.then_done in
    let found : Some validator.value ≡ Some old = sym (item_is s.validators index validator.value validator.first) ∙ at in
    let active : Validator → Bool = λ (v : Validator). is_active_validator v epoch in
    let kept : active new ≡ active validator.value = elim (chosen changes.value _ _ _ (same_value _ new changes.then_done)) [
      | inl out ↦ ap active (sym out.1)
      | inr within ↦ ap active (sym within.1)
    ] in
    kept ∙ ap (λ (o : Option Validator). active (held old o)) found

-- process_effective_balance_updates
pub effective_balances_leave : (s t : PlainState) → process_effective_balance_updates s ≡ done t → Leaves s t
unfolding process_effective_balance_updates validator_indices
effective_balances_leave s t is =
    let validators = on_the_way (checked_map (updated_validator s) (validator_indices s)) _ t is in
    let same = λ (epoch : ℕ) (low : epoch ≤ get_current_epoch s). indices_of_made (λ v. is_active_validator v epoch) (updated_validator s) s.validators (updated_active s epoch) 0 s.validators validators.value (λ k. let e : 0 + k ≡ k = omega arith in ap (slice_get s.validators) e) validators.first in
    subst (Leaves s) (same_value _ t validators.then_done) (with_registry s validators.value (as_many s (updated_validator s) validators.value validators.first) same)
