-- A list without items is a tree without, and another one is built by layers.
use Rattle.std.proofs.lemmas.Grind.{common_steps}
use Rattle.std.proofs.Common.{arith}
use Rattle.tree_nodes.proofs.layers.built_apart.Goals as goal

pub returns : goal.returns
returns g c = grind (arith, common_steps)

pub returns-then-is_empty : goal.returns-then-is_empty
returns-then-is_empty g c = grind (arith, common_steps)

pub layered-requires-clause-some : goal.layered-requires-clause-some
layered-requires-clause-some g c = grind (arith, common_steps)
