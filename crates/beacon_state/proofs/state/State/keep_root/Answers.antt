-- The root that is kept is that of the state.
use Rattle.std.proofs.Common.{rules}
use Rattle.beacon_state.proofs.state.State.keep_root.Goals as goal

pub invariant_of-self : goal.invariant_of-self
invariant_of-self c = search rules
