-- The next validator is that of the group in which the walk stands, or the first of the group behind it.
use Rattle.validator_registry.proofs.Walks.{no_group, next_group, goes_on}
use Rattle.validator_registry.proofs.validators.ValidatorsIterator.next.Goals as goal

pub returns-in_err-group-clause-steps : goal.returns-in_err-group-clause-steps
returns-in_err-group-clause-steps c =
    no_group c.args.self.now c.self.inside.entries c.next.new.self c.self.inside.groups c.next-2.new.self c.from_residual.result
    c.self.view_is c.in_default.ensures.steps.0 c.in_default.ensures.steps.1
    c.in_err-group.ensures.steps.0 c.in_err-group.ensures.steps.1 c.from_residual.ensures

pub returns-clause-steps : goal.returns-clause-steps
returns-clause-steps c =
    next_group c.args.self.now c.self.inside.entries c.next-3.new.self c.in_ok-group.group.now c.entries-self-inside.result
    c.self.inside.groups c.next-2.new.self c.next-3.result
    c.self.view_is c.in_default.ensures.steps.0 c.in_ok-group.ensures.steps c.self.invariant
    c.entries-self-inside.ensures c.next-3.ensures.steps

pub returns-clause-goes : goal.returns-clause-goes
returns-clause-goes c = goes_on _ (λ _. tt) _ _ _ (returns-clause-steps c)
