-- Validators that the registry's updates may change.
use Rattle.std.specs.Prelude.{ℕ, Bool, not, ◌&&◌, ◌||◌, leb, ◌==◌}
use Rattle.std.specs.List.{list_any}
use Rattle.bc_preset.specs.declared.presets.Preset.{Preset}
use Rattle.bc_preset.specs.declared.configuration.ConfigValues.{ConfigValues}
use Rattle.beacon_types.specs.declared.validator.Validator.{Validator}
use Rattle.spec_state.specs.declared.plain.PlainState.{PlainState}
use Rattle.spec_state.specs.Constants.{far_future_epoch}
use Rattle.spec_state.specs.Predicates.{is_active_validator, is_eligible_for_activation_queue}
use Rattle.spec_state.specs.Accessors.{get_current_epoch}

-- whether a validator is ejected: it is active at the epoch, with too low an effective balance
unfoldable pub is_ejected : ConfigValues → ℕ → Validator → Bool
is_ejected config epoch v = is_active_validator v epoch && leb v.effective_balance config.ejection_balance

-- whether a validator was found eligible and isn't activated
unfoldable pub is_pending : Validator → Bool
is_pending v = not (v.activation_eligibility_epoch == far_future_epoch) && (v.activation_epoch == far_future_epoch)

-- whether a validator begins to wait, is ejected, or waits to be let in
unfoldable pub stirs : Preset → ConfigValues → ℕ → Validator → Bool
stirs preset config epoch v = is_eligible_for_activation_queue preset v || is_ejected config epoch v || is_pending v

-- whether any does
unfoldable pub registry_stirs : PlainState → ConfigValues → Bool
registry_stirs state config = list_any (stirs state.preset config (get_current_epoch state)) state.validators
