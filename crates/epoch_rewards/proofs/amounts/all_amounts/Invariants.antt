use Rattle.std.proofs.Common.{◌≡◌, drop, length}
use Rattle.spec_epochs.specs.Each.{checked_map, validator_indices}
use Rattle.spec_epochs.proofs.Each.{made_from}
use Rattle.epoch_rewards.specs.inside.Rates.{AreRates}
use Rattle.epoch_rewards.proofs.amounts.all_amounts.Given as goal

abbrev pub invariant-loop-index : goal.invariant-loop-index
invariant-loop-index g l =
    let amount = g.A.Amounts.amount_of l.kept l.state in
    record {
      beside : l.balances ≡ drop l.index l.state.balances;
      rates : AreRates l.state l.rates;
      made : made_from amount (length l.state.validators) l.index l.all.items ≡ checked_map amount (validator_indices l.state);
    }
