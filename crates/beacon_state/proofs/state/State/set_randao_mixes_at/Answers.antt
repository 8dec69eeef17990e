-- The mix at that place changes alone.
use Rattle.std.proofs.Common.{rules}
use Rattle.beacon_state.proofs.state.State.set_randao_mixes_at.Goals as goal

pub returns : goal.returns
returns c = search rules
