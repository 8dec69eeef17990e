-- The boost is gone, in an epoch's first slot and in any other.
use Rattle.std.proofs.Common.{rules}
use Rattle.spec_fork_choice.specs.OnTick.{in_new_slot}
use Rattle.fork_store.proofs.on_tick.in_new_slot.Goals as goal

pub returns-then-behind-eq0-clause-exact : goal.returns-then-behind-eq0-clause-exact
unfolding in_new_slot
returns-then-behind-eq0-clause-exact c = search rules

pub returns-else-behind-eq0-clause-exact : goal.returns-else-behind-eq0-clause-exact
unfolding in_new_slot
returns-else-behind-eq0-clause-exact c = search rules
