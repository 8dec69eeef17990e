-- Another member with its balance is another validator.
use Rattle.std.proofs.Common.{rules, ◌≡◌, ◌∙◌, ◌<◌, ◌≤◌, length, sym, ap, arith}
use Rattle.validator_registry.proofs.Members.{count_validators, validator_set}
use Rattle.validator_registry.proofs.group.Group.with.Goals as goal

pub members_with-requires : goal.members_with-requires
members_with-requires c =
    let count : length c.self.inside.members.value.items ≡ length c.args.self.now =
    sym (count_validators c.self.inside.members.value.items c.self.inside.balances (omega (arith, c.self.invariant.few, c.self.invariant.room)))
    ∙ ap length c.self.view_is in
    let place : c.args.at < length c.self.inside.members.value.items = omega (arith, c.requires) in
    search (rules, place)

pub returns : goal.returns
returns c =
    let fits : length c.self.inside.members.value.items ≤ length c.self.inside.balances = omega (arith, c.self.invariant.few, c.self.invariant.room) in
    let count : length c.self.inside.members.value.items ≡ length c.args.self.now =
    sym (count_validators c.self.inside.members.value.items c.self.inside.balances fits) ∙ ap length c.self.view_is in
    validator_set c.self.inside.members.value.items _ c.self.inside.balances c.args.self.now c.args.at c.of.result c.args.validator.now c.self.view_is (search rules) c.of.ensures (omega (arith, c.requires)) fits
