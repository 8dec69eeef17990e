-- A rank is before another by its epoch, and by its index where the epochs are the same.
use Rattle.std.proofs.Common.{rules, tests}
use Rattle.epoch_processing.specs.inside.Ranks.{before}
use Rattle.epoch_processing.proofs.activations.is_before.Goals as goal

pub returns-then-rank-other : goal.returns-then-rank-other
unfolding before
returns-then-rank-other c = search (rules, tests)

pub returns-then-rank-other-2 : goal.returns-then-rank-other-2
unfolding before
returns-then-rank-other-2 c = search (rules, tests)

pub returns-else-rank-other-2 : goal.returns-else-rank-other-2
unfolding before
returns-else-rank-other-2 c = search (rules, tests)
