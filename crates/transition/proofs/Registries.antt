-- What was gathered of the validators holds until it was needed last: before the registry's updates justification changes bits and
-- checkpoints alone, and rewards balances alone; behind them, up to the effective balances, slashings change balances alone, and a new
-- period the eth1 votes alone.
use Rattle.std.proofs.Common.{◌≡◌, ◌∙◌, ℕ, ◌+◌, ◌-◌, ◌%◌, ◌/◌, ◌==◌, min, List, [], map, refl, sym, ap, subst, inl, inr}
use Rattle.std.specs.List.{list_any}
use Rattle.bc_words.specs.Outcome.{done, checked_mul, checked_sum}
use Rattle.bc_preset.specs.declared.presets.Preset.{Preset}
use Rattle.bc_preset.specs.declared.configuration.ConfigValues.{ConfigValues}
use Rattle.beacon_types.specs.declared.validator.Validator.{Validator}
use Rattle.spec_state.specs.declared.plain.PlainState.{PlainState}
use Rattle.spec_state.specs.Accessors.{get_current_epoch, get_previous_epoch, get_total_active_balance}
use Rattle.spec_blocks.proofs.Done.{on_the_way, chosen, same_value}
use Rattle.spec_epochs.specs.Each.{validator_indices, checked_map}
use Rattle.spec_epochs.specs.GetAttestationDeltas.{get_attestation_deltas}
use Rattle.spec_epochs.specs.ProcessJustificationAndFinalization.{process_justification_and_finalization}
use Rattle.spec_epochs.specs.ProcessRewardsAndPenalties.{process_rewards_and_penalties, rewarded_balance}
use Rattle.spec_epochs.specs.ProcessRegistryUpdates.{process_registry_updates}
use Rattle.spec_epochs.specs.ProcessSlashings.{process_slashings, penalized_balance}
use Rattle.spec_epochs.specs.ProcessEth1DataReset.{process_eth1_data_reset}
use Rattle.spec_epochs.proofs.SoundJustification.{justification_leaves}
use Rattle.balance_totals.specs.declared.stake.Stake.{Stake}
use Rattle.balance_totals.specs.inside.Stakes.{stake_of, stakes_of, balances_read, effective_balances}
use Rattle.balance_totals.specs.inside.Stirring.{stirs, registry_stirs}
use Rattle.epoch_processing.proofs.Gathered.{gathered_balances}
use Rattle.epoch_processing.proofs.BalancesKept.{keeps_effective_balances}

-- ---- what is gathered depends on the preset, the slot and the registry alone

record Keeps (s t : PlainState) : Type 0 where
  preset : t.preset ≡ s.preset
  slot : t.slot ≡ s.slot
  validators : t.validators ≡ s.validators

kept : (s : PlainState) → Keeps s s
kept s = record { preset = refl; slot = refl; validators = refl }

same_stakes : (s t : PlainState) → Keeps s t → stakes_of t ≡ stakes_of s
unfolding stakes_of get_previous_epoch get_current_epoch
same_stakes s t keeps =
    let of = λ (preset : Preset) (slot : ℕ) (validators : List Validator). map (stake_of (slot / preset.slots_per_epoch - 1)) validators in
    ap (of t.preset t.slot) keeps.validators ∙ ap (λ (slot : ℕ). of t.preset slot s.validators) keeps.slot ∙ ap (λ (preset : Preset). of preset s.slot s.validators) keeps.preset

same_stirs : (s t : PlainState) (config : ConfigValues) → Keeps s t → registry_stirs t config ≡ registry_stirs s config
unfolding registry_stirs get_current_epoch
same_stirs s t config keeps =
    let of = λ (preset : Preset) (slot : ℕ) (validators : List Validator). list_any (stirs preset config (slot / preset.slots_per_epoch)) validators in
    ap (of t.preset t.slot) keeps.validators ∙ ap (λ (slot : ℕ). of t.preset slot s.validators) keeps.slot ∙ ap (λ (preset : Preset). of preset s.slot s.validators) keeps.preset

-- ---- the parts that leave them

justification_keeps : (s t : PlainState) → process_justification_and_finalization s ≡ done t → Keeps s t
justification_keeps s t is = let leaves = justification_leaves s t is in record { preset = leaves.preset; slot = leaves.slot; validators = leaves.validators }

rewards_keep : (s t : PlainState) → process_rewards_and_penalties s ≡ done t → Keeps s t
unfolding process_rewards_and_penalties
rewards_keep s t is = elim (chosen (get_current_epoch s == 0) _ _ _ is) [
  | inl first ↦ subst (Keeps s) (same_value s t first.1) (kept s)
  | inr later ↦
      let deltas = on_the_way (get_attestation_deltas s) _ t later.1 in
      let balances = on_the_way (checked_map (rewarded_balance s deltas.value) (validator_indices s)) _ t deltas.then_done in
      subst (Keeps s) (same_value _ t balances.then_done) (record { preset = refl; slot = refl; validators = refl })
]

slashings_keep : (s t : PlainState) → process_slashings s ≡ done t → Keeps s t
unfolding process_slashings
slashings_keep s t is =
    let total = on_the_way (get_total_active_balance s) _ t is in
    let slashed = on_the_way (checked_sum s.slashings) _ t total.then_done in
    let multiplied = on_the_way (checked_mul slashed.value s.preset.proportional_slashing_multiplier) _ t slashed.then_done in
    let balances = on_the_way (checked_map (penalized_balance s (min multiplied.value total.value) total.value) (validator_indices s)) _ t multiplied.then_done in
    subst (Keeps s) (same_value _ t balances.then_done) (record { preset = refl; slot = refl; validators = refl })

votes_keep : (s : PlainState) → Keeps s (process_eth1_data_reset s)
unfolding process_eth1_data_reset
votes_keep s = elim (chosen ((get_current_epoch s + 1) % s.preset.epochs_per_eth1_voting_period == 0) (record s { eth1_data_votes = [] }) s _ refl) [
  | inl begins ↦ subst (Keeps s) begins.1 (record { preset = refl; slot = refl; validators = refl })
  | inr goes_on ↦ subst (Keeps s) goes_on.1 (kept s)
]

-- ---- what is lent to the parts

module _ (s t : PlainState) (justified : process_justification_and_finalization s ≡ done t) where
  pub justified_stakes : stakes_of t ≡ stakes_of s
  justified_stakes = same_stakes s t (justification_keeps s t justified)

  module _ (u : PlainState) (rewarded : process_rewards_and_penalties t ≡ done u) where
    rewarded_keeps : Keeps s u
    rewarded_keeps =
        let first = justification_keeps s t justified in
        let next = rewards_keep t u rewarded in
        record { preset = next.preset ∙ first.preset; slot = next.slot ∙ first.slot; validators = next.validators ∙ first.validators }

    pub rewarded_stirs : (config : ConfigValues) → registry_stirs s config ≡ registry_stirs u config
    rewarded_stirs config = sym (same_stirs s u config rewarded_keeps)

    pub registered_balances : (r : PlainState) (config : ConfigValues) (stakes : List Stake) → process_registry_updates u config ≡ done r → stakes ≡ stakes_of s → balances_read stakes ≡ effective_balances r.validators
    registered_balances r config stakes registered are =
        gathered_balances s stakes are
        ∙ ap effective_balances (sym rewarded_keeps.validators)
        ∙ sym (keeps_effective_balances u r config registered)

-- behind slashings and the eth1 votes effective balances are as before
pub penalized_balances : (s t : PlainState) → process_slashings s ≡ done t → effective_balances (process_eth1_data_reset t).validators ≡ effective_balances s.validators
penalized_balances s t penalized = ap effective_balances ((votes_keep t).validators ∙ (slashings_keep s t penalized).validators)
