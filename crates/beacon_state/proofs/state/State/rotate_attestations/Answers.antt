-- The attestations of the current epoch are those of the previous one.
use Rattle.std.proofs.Common.{rules}
use Rattle.beacon_state.proofs.state.State.rotate_attestations.Goals as goal

pub returns : goal.returns
returns c = search rules
