-- The root is that of the halves in this order.
use Rattle.tree_nodes.proofs.node.Node.pair.Goals as goal

pub rooted-requires-clause-halves : goal.rooted-requires-clause-halves
rooted-requires-clause-halves g c = c.requires

pub returns : goal.returns
returns g c = c.rooted.ensures

pub rooted-requires-clause-root : goal.rooted-requires-clause-root
rooted-requires-clause-root g c = cc
