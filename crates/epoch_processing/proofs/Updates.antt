-- The registry's updates, put together from their parts.
use Rattle.std.proofs.Common.{◌≡◌, ◌∙◌, ℕ, if◌then◌else◌, sym, ap}
use Rattle.bc_words.specs.Outcome.{Outcome, done, bind}
use Rattle.bc_preset.specs.declared.configuration.ConfigValues.{ConfigValues}
use Rattle.beacon_types.specs.declared.validator.Validator.{Validator}
use Rattle.spec_state.specs.declared.plain.PlainState.{PlainState}
use Rattle.spec_state.specs.Misc.{compute_activation_exit_epoch}
use Rattle.spec_state.specs.Accessors.{get_current_epoch}
use Rattle.spec_blocks.specs.Checks.{each_of}
use Rattle.spec_epochs.specs.Each.{validator_indices}
use Rattle.spec_epochs.specs.ProcessRegistryUpdates.{eligibility_and_ejection, is_dequeued, with_activations, process_registry_updates}

-- a validator that is active from an epoch on where it is dequeued
abbrev pub let_in : PlainState → ConfigValues → ℕ → ℕ × Validator → Validator
let_in state config epoch entry = if is_dequeued state config entry then record entry.1 { activation_epoch = epoch } else entry.1

-- the activations behind the ejections
abbrev pub then_activations : ConfigValues → PlainState → Outcome PlainState
then_activations config ejected =
    bind (compute_activation_exit_epoch ejected.preset (get_current_epoch ejected)) (λ epoch. done (record ejected { validators = with_activations ejected config epoch }))

pub updates_are : (config : ConfigValues) (old ejected last : PlainState) (epoch : ℕ) → each_of (eligibility_and_ejection config) old (validator_indices old) ≡ done ejected
    → compute_activation_exit_epoch ejected.preset (get_current_epoch ejected) ≡ done epoch → last ≡ record ejected { validators = with_activations ejected config epoch }
    → process_registry_updates old config ≡ done last
unfolding process_registry_updates
updates_are config old ejected last epoch is comes activated =
    ap (λ o. bind o (then_activations config)) is
    ∙ (ap (λ (o : Outcome ℕ). bind o (λ epoch. done (record ejected { validators = with_activations ejected config epoch }))) comes
    ∙ ap done (sym activated))
