-- Indices of active validators, for the part of a registry that is left to look at.
use Rattle.std.specs.Prelude.{ℕ, List}
use Rattle.beacon_types.specs.declared.validator.Validator.{Validator}
use Rattle.spec_state.specs.Predicates.{is_active_validator}
use Rattle.spec_state.specs.Accessors.{indices_from}

-- The indices of those who are active at an epoch, where the first of these validators has this index
unfoldable pub active_from : ℕ → ℕ → List Validator → List ℕ
active_from epoch index validators = indices_from (λ v. is_active_validator v epoch) index validators
