-- Each part is what is published of the validator.
use Rattle.std.proofs.Common.{sym}
use Rattle.epoch_rewards.proofs.Rated.{base_rated, proposer_rated, absence_rated}
use Rattle.epoch_rewards.proofs.standing.standing_of.Goals as goal

pub returns-clause-is : goal.returns-clause-is
returns-clause-is c =
    let state = c.args.state.now in
    let rates = c.args.rates.now in
    record {
      stake = c.requires.stake;
      source = sym c.has_right.ensures;
      target = sym c.has_right-2.ensures;
      head = sym c.has_right-3.ensures;
      inclusion = sym c.inclusion_at.ensures;
      base = base_rated state c.args.index c.args.stake rates c.requires.stake c.requires.rates c.requires.of;
      proposer = proposer_rated state c.args.index c.args.stake rates c.requires.stake c.requires.rates c.requires.of;
      absence = absence_rated state c.args.index c.args.stake rates c.requires.stake c.requires.rates c.requires.of;
      balance = c.requires.balance;
    }
