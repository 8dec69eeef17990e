-- Who leaves or enters now does so in a later epoch.
use Rattle.std.proofs.Common.{◌≡◌, ℕ, ◌<◌, ◌≤◌, nat_lt, List, [], ◌∷◌, ◌++◌, arith, inl, inr}
use Rattle.bc_preset.specs.declared.presets.Preset.{Preset}
use Rattle.bc_preset.specs.declared.configuration.ConfigValues.{ConfigValues}
use Rattle.bc_words.specs.Outcome.{done, checked_add}
use Rattle.spec_state.specs.declared.plain.PlainState.{PlainState}
use Rattle.spec_state.specs.Accessors.{get_current_epoch, get_validator_churn_limit}
use Rattle.spec_state.specs.Misc.{compute_activation_exit_epoch}
use Rattle.spec_blocks.specs.InitiateValidatorExit.{exit_queue_epoch, exit_queue_churn, exit_epochs, greatest}
use Rattle.spec_blocks.proofs.Done.{on_the_way, chosen, same_value, sum_is}

greatest_of_last : (numbers : List ℕ) (n : ℕ) → n ≤ greatest (numbers ++ n ∷ [])
unfolding greatest
greatest_of_last [] n = omega arith
greatest_of_last (m ∷ numbers) n = let rest = greatest_of_last numbers n in omega arith

-- who leaves or enters now does so later
pub earliest_later : (p : Preset) (epoch earliest : ℕ) → compute_activation_exit_epoch p epoch ≡ done earliest → epoch < earliest
unfolding compute_activation_exit_epoch
earliest_later p epoch earliest is =
    let next = on_the_way (checked_add epoch 1) _ earliest is in
    let one = sum_is epoch 1 next.value next.first in
    let all = sum_is next.value p.max_seed_lookahead earliest next.then_done in
    omega arith

-- who leaves next leaves behind the current epoch
pub queue_later : (s : PlainState) (config : ConfigValues) (epoch : ℕ) → exit_queue_epoch s config ≡ done epoch → get_current_epoch s < epoch
unfolding exit_queue_epoch
queue_later s config epoch is =
    let earliest = on_the_way (compute_activation_exit_epoch s.preset (get_current_epoch s)) _ epoch is in
    let later = earliest_later s.preset (get_current_epoch s) earliest.value earliest.first in
    let last : ℕ = greatest (exit_epochs s.validators ++ earliest.value ∷ []) in
    let behind = greatest_of_last (exit_epochs s.validators) earliest.value in
    elim (chosen (nat_lt (exit_queue_churn s.validators last) (get_validator_churn_limit s config)) _ _ _ earliest.then_done) [
      | inl free ↦ let same = same_value last epoch free.1 in omega arith
      | inr full ↦ let same = sum_is last 1 epoch full.1 in omega arith
    ]
