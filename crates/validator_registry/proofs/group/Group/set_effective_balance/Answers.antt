-- The balance of the validator at the place.
use Rattle.std.proofs.Common.{◌≡◌, ◌∙◌, ◌≤◌, List, arith, sym, ap, length}
use Rattle.beacon_types.specs.declared.validator.Validator.{Validator}
use Rattle.validator_registry.specs.Registries.{with_balance}
use Rattle.validator_registry.proofs.Members.{count_validators, balance_set}
use Rattle.validator_registry.proofs.group.Group.set_effective_balance.Goals as goal

pub returns : goal.returns
returns c =
    let fits : length c.self.inside.members.value.items ≤ length c.self.inside.balances = omega (arith, c.self.invariant.few, c.self.invariant.room) in
    let count : length c.args.self.now ≡ length c.self.inside.members.value.items = ap length (sym c.self.view_is) ∙ count_validators c.self.inside.members.value.items c.self.inside.balances fits in
    balance_set c.self.inside.members.value.items c.self.inside.balances c.args.at c.args.balance (omega (arith, c.requires)) fits
    ∙ ap (λ (vs : List Validator). with_balance vs c.args.at c.args.balance) c.self.view_is
