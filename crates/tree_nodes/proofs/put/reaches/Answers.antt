-- The last change is at the place or behind, or none is.
use Rattle.std.proofs.Common.{arith}
use Rattle.std.proofs.lemmas.Grind.{common_steps}
use Rattle.tree_nodes.proofs.put.reaches.Goals as goal

pub returns-else-count-gt0 : goal.returns-else-count-gt0
returns-else-count-gt0 g c = grind (arith, common_steps)

pub returns-then-count-gt0 : goal.returns-then-count-gt0
returns-then-count-gt0 g c = grind (arith, common_steps)
