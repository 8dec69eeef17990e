-- A store that opened follows nothing.
use Rattle.beacon_node.proofs.Delivering.{new_is_node}
use Rattle.beacon_node.proofs.node.Node.new.Goals as goal

pub returns-clause-is : goal.returns-clause-is
returns-clause-is c = new_is_node c.args.config.now c.args.genesis.now _ c.requires c.in_ok-store.ensures.opened c.new.ensures.items
