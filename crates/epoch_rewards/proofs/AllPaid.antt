-- All balances after rewards and penalties, where what decides them is known.
use Rattle.std.proofs.Common.{◌≡◌, ℕ, Bool, List, Option, sym, ap, ◌∙◌}
use Rattle.bc_words.specs.Outcome.{Outcome, done, bind}
use Rattle.spec_state.specs.declared.plain.PlainState.{PlainState}
use Rattle.spec_state.specs.Accessors.{get_total_active_balance}
use Rattle.spec_epochs.specs.RewardHelpers.{is_in_inactivity_leak}
use Rattle.epoch_rewards.specs.declared.inclusions.Inclusion.{Inclusion}
use Rattle.epoch_rewards.specs.declared.get_attestation_component_deltas.Weights.{Weights}
use Rattle.epoch_rewards.specs.inside.Components.{needed_balance}
use Rattle.epoch_rewards.specs.inside.InclusionRewards.{all_gains}
use Rattle.epoch_rewards.specs.inside.Paid.{weights_by, paid_balances, all_paid}

known : {A B : Type 0} (outcome : Outcome A) (next : A → Outcome B) (x : A) → outcome ≡ done x → bind outcome next ≡ next x
known outcome next x e = ap (λ o. bind o next) e

module _ (state : PlainState) (sources targets heads : List ℕ) (entries : List (Option Inclusion)) (total : ℕ) (leak : Bool) (source target head : ℕ)
    (total_is : get_total_active_balance state ≡ done total) (leak_is : is_in_inactivity_leak state ≡ done leak)
    (source_is : needed_balance state sources leak ≡ done source) (target_is : needed_balance state targets leak ≡ done target) (head_is : needed_balance state heads leak ≡ done head) where
  abbrev by : ℕ → Weights
  by attesting = weights_by state leak attesting total

  opened : all_paid state sources targets heads entries ≡ bind (all_gains state entries sources) (λ gains. paid_balances state sources targets heads (by source) (by target) (by head) entries gains)
  unfolding all_paid
  opened = known _ _ total total_is ∙ known _ _ leak leak_is ∙ known _ _ source source_is ∙ known _ _ target target_is ∙ known _ _ head head_is

  pub paid_by : (by_source by_target by_head : Weights) → by_source ≡ by source → by_target ≡ by target → by_head ≡ by head
      → bind (all_gains state entries sources) (λ gains. paid_balances state sources targets heads by_source by_target by_head entries gains) ≡ all_paid state sources targets heads entries
  paid_by by_source by_target by_head source_by target_by head_by = rw (source_by, target_by, head_by) (sym opened)
