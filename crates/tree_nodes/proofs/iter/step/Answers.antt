-- The first of what is left, or none where there is none.
use Rattle.std.proofs.lemmas.Grind.{common_steps}
use Rattle.std.proofs.Common.{arith}
use Rattle.tree_nodes.proofs.iter.step.Goals as goal

pub returns-in-None-clause-gives : goal.returns-in-None-clause-gives
returns-in-None-clause-gives g c = grind (arith, common_steps)

pub returns-in-Some-clause-gives : goal.returns-in-Some-clause-gives
returns-in-Some-clause-gives g c = grind (arith, common_steps)

pub returns-in-Some-split_first-clause-gives : goal.returns-in-Some-split_first-clause-gives
returns-in-Some-split_first-clause-gives g c = grind (arith, common_steps)
