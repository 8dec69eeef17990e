-- An event that is no block changes no history.
use Rattle.beacon_node.specs.inside.Nodes.{history_in}
use Rattle.beacon_node.proofs.Delivering.{other_in_history}
use Rattle.beacon_node.proofs.node.Node.accept.Goals as goal

pub returns-in-Other-clause-history : goal.returns-in-Other-clause-history
returns-in-Other-clause-history c = rw c.in-Other.is (other_in_history c.args.number (history_in c.args.self.now.blocks.items) c.args.self.now.store.plain)
