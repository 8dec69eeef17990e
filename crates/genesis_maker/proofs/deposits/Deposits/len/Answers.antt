use Rattle.std.proofs.Common.{◌∙◌, ◌≤◌, ◌^◌, ap, subst, length}
use Rattle.std.specs.List.{AllByRecursion}
use Rattle.beacon_types.specs.Containers.{deposit_data_codec}
use Rattle.genesis_maker.proofs.Readings.{count_of, within_of, few_of}
use Rattle.genesis_maker.proofs.deposits.Deposits.len.Goals as goal

pub returns-clause-len : goal.returns-clause-len
returns-clause-len c = count_of c.self.inside.rest.now c.self.invariant ∙ ap length c.self.view_is

pub returns-clause-within : goal.returns-clause-within
returns-clause-within c = subst (AllByRecursion deposit_data_codec.Within) c.self.view_is (within_of c.self.inside.rest.now c.self.invariant)

pub returns-clause-few : goal.returns-clause-few
returns-clause-few c = subst (λ ds. length ds ≤ 2 ^ 32) c.self.view_is (few_of c.self.inside.rest.now c.self.invariant)
