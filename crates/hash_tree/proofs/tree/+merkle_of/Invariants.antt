use Rattle.hash_tree.proofs.tree.+merkle_of.Given as goal

abbrev pub decreases-merkle_of : goal.decreases-merkle_of
decreases-merkle_of g l = l.depth
