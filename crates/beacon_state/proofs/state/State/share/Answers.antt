-- The lists are those of the state.
use Rattle.std.proofs.Common.{arith}
use Rattle.std.proofs.lemmas.Grind.{common_steps}
use Rattle.beacon_state.proofs.state.State.share.Goals as goal

pub returns : goal.returns
returns c = grind (arith, common_steps)

pub of-requires : goal.of-requires
of-requires c = grind (arith, common_steps)
