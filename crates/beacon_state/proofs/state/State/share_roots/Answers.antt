-- The lists of roots are those of the state.
use Rattle.std.proofs.Common.{rules}
use Rattle.beacon_state.proofs.state.State.share_roots.Goals as goal

pub returns : goal.returns
returns c = search rules
