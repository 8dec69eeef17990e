-- The validator in its group, or none.
use Rattle.std.proofs.Common.{◌∙◌, List, sym, ap}
use Rattle.std.specs.Prelude.{slice_get}
use Rattle.beacon_types.specs.declared.validator.Validator.{Validator}
use Rattle.validator_registry.proofs.Groups.{get_joined, get_behind}
use Rattle.validator_registry.proofs.registry.Registry.get.Goals as goal

pub returns-in-Some : goal.returns-in-Some
returns-in-Some c =
    c.get-in-Some.ensures
    ∙ (get_joined c.self.inside.tree.1 c.args.i c.in-Some.group.now c.self.invariant.tree_is.groups (sym c.in-Some.ensures)
    ∙ ap (λ (vs : List Validator). slice_get vs c.args.i) c.self.view_is)

pub returns-in-None : goal.returns-in-None
returns-in-None c =
    get_behind c.self.inside.tree.1 c.args.i c.self.invariant.tree_is.groups (sym c.in-None.ensures)
    ∙ ap (λ (vs : List Validator). slice_get vs c.args.i) c.self.view_is
