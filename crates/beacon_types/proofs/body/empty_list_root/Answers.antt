use Rattle.hash_tree.specs.Merkle.{merkleize}
use Rattle.beacon_types.proofs.body.empty_list_root.Goals as goal

-- no leaf, and no length
pub returns : goal.returns
unfolding merkleize
returns c = cc
