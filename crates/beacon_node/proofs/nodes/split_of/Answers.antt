-- The split is of the plan of the number.
use Rattle.beacon_node.proofs.ManyNodes.{split_is}
use Rattle.beacon_node.proofs.nodes.split_of.Goals as goal

pub returns : goal.returns
returns c = split_is _ c.in_ok-maker.maker c.split_by.result c.in_ok-maker.ensures c.split_by.ensures
