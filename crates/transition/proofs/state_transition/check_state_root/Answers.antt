-- The root is compared with that of the state.
use Rattle.std.proofs.Common.{rules}
use Rattle.transition.proofs.state_transition.check_state_root.Goals as goal

pub returns-then-ne-clause-exact : goal.returns-then-ne-clause-exact
returns-then-ne-clause-exact c = search rules

pub returns-clause-exact : goal.returns-clause-exact
returns-clause-exact c = search rules
