-- The lists that are kept, of two epochs at most.
use Rattle.std.specs.Prelude.{◌≡◌, ℕ, List, IfSome}
use Rattle.beacon_types.specs.declared.validator.Validator.{Validator}
use Rattle.active_sets.specs.declared.active_lists.ActiveLists.{ActiveLists}
use Rattle.active_sets.specs.inside.Active.{IsActiveIn}

-- each kept list is that of its epoch
pub record AreActiveIn (validators : List Validator) (lists : ActiveLists) : Type 0 where
  pub latest : IfSome lists.latest (IsActiveIn validators)
  pub earlier : IfSome lists.earlier (IsActiveIn validators)
