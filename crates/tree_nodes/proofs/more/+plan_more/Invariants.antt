use Rattle.tree_nodes.proofs.more.+plan_more.Given as goal

abbrev pub decreases-plan_more : goal.decreases-plan_more
decreases-plan_more g l = l.depth
