-- The later of the two, where it is behind the finalized one.
use Rattle.std.proofs.Common.{rules}
use Rattle.spec_fork_choice.specs.OnTick.{is_better_justified}
use Rattle.fork_store.proofs.on_tick.is_better_justified.Goals as goal

pub returns-then-justified-best : goal.returns-then-justified-best
unfolding is_better_justified
returns-then-justified-best c = search rules
