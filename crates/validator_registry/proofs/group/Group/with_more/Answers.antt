-- One more member with its balance is one more validator.
use Rattle.std.proofs.Common.{rules, ◌≡◌, ◌∙◌, length, sym, ap, arith}
use Rattle.validator_registry.proofs.Members.{count_validators, more_fit, validator_more}
use Rattle.validator_registry.proofs.group.Group.with_more.Goals as goal

pub returns : goal.returns
returns c =
    let count : length c.self.inside.members.value.items ≡ length c.args.self.now =
    sym (count_validators c.self.inside.members.value.items c.self.inside.balances (omega (arith, c.self.invariant.few, c.self.invariant.room)))
    ∙ ap length c.self.view_is in
    validator_more c.self.inside.members.value.items _ c.self.inside.balances c.args.self.now c.len-len.result c.of.result c.args.validator.now c.self.view_is (search rules) c.of.ensures (c.len-len.ensures.len ∙ sym count) (omega (arith, c.requires, c.self.invariant.room))

pub invariant_of-result : goal.invariant_of-result
invariant_of-result c =
    let count : length c.self.inside.members.value.items ≡ length c.args.self.now =
    sym (count_validators c.self.inside.members.value.items c.self.inside.balances (omega (arith, c.self.invariant.few, c.self.invariant.room)))
    ∙ ap length c.self.view_is in
    record { few = more_fit c.self.inside.members.value.items _ c.of.result (search rules) (omega (arith, c.requires)); room = search rules }
