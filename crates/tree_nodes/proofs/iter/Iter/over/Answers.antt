-- The first node is the whole path.
use Rattle.tree_nodes.proofs.Walks.{last_path, held_last}
use Rattle.tree_nodes.proofs.iter.Iter.over.Goals as goal

pub invariant_of-result : goal.invariant_of-result
invariant_of-result g c = last_path c.args.root.now c.requires

pub returns : goal.returns
returns g c = held_last c.args.root.now
