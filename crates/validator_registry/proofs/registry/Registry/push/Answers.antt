-- One more validator, where there is room.
use Rattle.std.proofs.Common.{◌∙◌, List, ◌∷◌, [], ◌++◌, refl, ap}
use Rattle.beacon_types.specs.declared.validator.Validator.{Validator}
use Rattle.validator_registry.specs.inside.Groups.{joined}
use Rattle.validator_registry.proofs.RegistryTrees.{push_full, pushed}
use Rattle.validator_registry.proofs.registry.Registry.push.Goals as goal

pub returns-then-self-ge-LIMIT-clause-pushes : goal.returns-then-self-ge-LIMIT-clause-pushes
returns-then-self-ge-LIMIT-clause-pushes g c = (refl, push_full (joined c.self.inside.tree.1) c.args.self.now c.args.validator.now c.self.inside.len c.self.view_is c.self.invariant.len_is c.if-self-ge-LIMIT.true)

pub returns-clause-pushes : goal.returns-clause-pushes
returns-clause-pushes g c =
    pushed (joined c.self.inside.tree.1) c.args.self.now (joined c.put_behind.new.tree.1) c.args.validator.now c.self.inside.len c.self.view_is c.self.invariant.len_is c.if-self-ge-LIMIT.false
    (c.in_ok-put_behind.ensures.tree.validators_are ∙ ap (λ (vs : List Validator). vs ++ c.args.validator.now ∷ []) c.in_ok-tree.ensures.tree.validators_are)
