use Rattle.tree_nodes.proofs.several.+settle.Given as goal

abbrev pub decreases-settle : goal.decreases-settle
decreases-settle g l = l.depth
