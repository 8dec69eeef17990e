-- A block clashes, or the book finds something.
use Rattle.std.proofs.Common.{[]}
use Rattle.beacon_node.specs.inside.Nodes.{plain_node}
use Rattle.beacon_node.proofs.Pairing.{pair_clashes}
use Rattle.beacon_node.proofs.node_pairs.pair_line.Goals as goal

pub returns-in-Some-clause-over : goal.returns-in-Some-clause-over
returns-in-Some-clause-over c = pair_clashes c.args.genesis.now (plain_node [] c.args.first.now) (plain_node [] c.args.second.now) _ _ c.in-Some.ensures
