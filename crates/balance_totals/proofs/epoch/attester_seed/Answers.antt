-- The seed is that of the epoch.
use Rattle.balance_totals.proofs.epoch.attester_seed.Goals as goal

pub returns : goal.returns
returns c = c.seed_of.ensures
