-- Beside the first record there are no other blocks.
use Rattle.beacon_node.proofs.Following.{none_beside}
use Rattle.beacon_node.proofs.follow.Side.clash.Goals as goal

pub returns-in-First : goal.returns-in-First
returns-in-First c = none_beside c.args.self.now c.args.root c.args.block.now c.in-First.is
