-- Predicates (beacon-chain.md, "Predicates"), in the published order. A plain state holds its preset; what else a text
-- takes from its preset stands first.
use Rattle.std.specs.Prelude.{ℕ, Bool, ◌&&◌, not, leb, nat_lt, ◌==◌}
use Rattle.bc_preset.specs.declared.presets.Preset.{Preset}
use Rattle.beacon_types.specs.declared.validator.Validator.{Validator}
use Rattle.spec_state.specs.declared.plain.PlainState.{PlainState}
use Rattle.spec_state.specs.Constants.{far_future_epoch}

-- is_active_validator
unfoldable pub is_active_validator : Validator → ℕ → Bool
is_active_validator validator epoch = leb validator.activation_epoch epoch && nat_lt epoch validator.exit_epoch

-- is_eligible_for_activation_queue: it does not wait yet, and its effective balance is the greatest
unfoldable pub is_eligible_for_activation_queue : Preset → Validator → Bool
is_eligible_for_activation_queue preset validator =
    (validator.activation_eligibility_epoch == far_future_epoch) && (validator.effective_balance == preset.max_effective_balance)

-- is_eligible_for_activation: what made it eligible is final, and it is not activated
unfoldable pub is_eligible_for_activation : PlainState → Validator → Bool
is_eligible_for_activation state validator =
    leb validator.activation_eligibility_epoch state.finalized_checkpoint.epoch && (validator.activation_epoch == far_future_epoch)

-- is_slashable_validator
unfoldable pub is_slashable_validator : Validator → ℕ → Bool
is_slashable_validator validator epoch =
    not validator.slashed && (leb validator.activation_epoch epoch && nat_lt epoch validator.withdrawable_epoch)
