use Rattle.std.proofs.Common.{sym, ◌∙◌}
use Rattle.balance_totals.proofs.LookedUp.{effective_some, effective_none}
use Rattle.balance_totals.proofs.validators.effective_at.Goals as goal

pub returns-in-Some : goal.returns-in-Some
returns-in-Some c =
    let h = rw c.in-Some.is at c.validators_at.ensures in
    c.effective_balance.ensures ∙ sym (effective_some (c.args.state.now.validators) c.args.index c.in-Some.validator h)

pub returns-in-None : goal.returns-in-None
returns-in-None c =
    let h = rw c.in-None.is at c.validators_at.ensures in
    sym (effective_none (c.args.state.now.validators) c.args.index h)
