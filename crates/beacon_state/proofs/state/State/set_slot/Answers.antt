-- The slot changes alone.
use Rattle.std.proofs.Common.{rules}
use Rattle.beacon_state.proofs.state.State.set_slot.Goals as goal

pub returns : goal.returns
returns c = search rules
