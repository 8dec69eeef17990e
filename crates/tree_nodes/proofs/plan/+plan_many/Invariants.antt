use Rattle.tree_nodes.proofs.plan.+plan_many.Given as goal

abbrev pub decreases-plan_many : goal.decreases-plan_many
decreases-plan_many g l = l.depth
