-- Who counts among the offenders that are active at genesis.
use Rattle.std.specs.Prelude.{ℕ, Bool, ◌&&◌}
use Rattle.beacon_types.specs.declared.validator.Validator.{Validator}
use Rattle.spec_state.specs.Predicates.{is_active_validator}
use Rattle.forensics.specs.Carried.{Held, has_offence}

unfoldable pub counts : Held → ℕ → Validator → Bool
counts votes index validator = is_active_validator validator 0 && has_offence votes index
