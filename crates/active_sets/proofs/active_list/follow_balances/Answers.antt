-- Without a change the sum stays true.
use Rattle.std.proofs.Common.{IfSome, sym, subst, ◌∙◌}
use Rattle.std.proofs.lemmas.Bool.{eqb-true}
use Rattle.active_sets.specs.inside.Active.{IsActiveIn}
use Rattle.validator_registry.proofs.GroupChanges.{balance_none}
use Rattle.active_sets.proofs.active_list.follow_balances.Goals as goal

pub returns-then-is_empty-clause-behind : goal.returns-then-is_empty-clause-behind
returns-then-is_empty-clause-behind c =
    subst (λ registry. IfSome c.args.kept.now (IsActiveIn registry))
    (sym (balance_none c.args.validators.now c.args.changes.now (eqb-true _ _ (sym c.is_empty.ensures ∙ c.if-is_empty.true)))) c.requires
