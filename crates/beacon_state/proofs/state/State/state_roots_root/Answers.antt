-- The root of a vector has no length in it.
use Rattle.std.proofs.Common.{rules}
use Rattle.beacon_state.proofs.state.State.state_roots_root.Goals as goal

pub returns : goal.returns
returns c = search rules
