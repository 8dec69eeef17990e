-- As many validators as members.
use Rattle.std.proofs.Common.{rules, ◌≡◌, ◌∙◌, arith, sym, ap, length}
use Rattle.validator_registry.proofs.Members.{count_validators}
use Rattle.validator_registry.proofs.group.Group.len.Goals as goal

pub returns-clause-len : goal.returns-clause-len
returns-clause-len c =
    let count : length c.self.inside.members.value.items ≡ length c.args.self.now =
    sym (count_validators c.self.inside.members.value.items c.self.inside.balances (omega (arith, c.self.invariant.few, c.self.invariant.room)))
    ∙ ap length c.self.view_is in
    search (rules, count)
