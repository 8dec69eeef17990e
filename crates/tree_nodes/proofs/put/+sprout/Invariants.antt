use Rattle.tree_nodes.proofs.put.+sprout.Given as goal

abbrev pub decreases-sprout : goal.decreases-sprout
decreases-sprout g l = l.depth
