use Rattle.tree_nodes.proofs.iter.+enter.Given as goal

abbrev pub decreases-enter : goal.decreases-enter
decreases-enter g l = l.from
