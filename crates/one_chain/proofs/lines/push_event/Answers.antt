-- The number stands before the kind.
use Rattle.std.proofs.Common.{arith}
use Rattle.std.proofs.lemmas.Grind.{common_steps}
use Rattle.one_chain.proofs.lines.push_event.Goals as goal

pub returns : goal.returns
returns c = grind (arith, common_steps)
