-- The store opens, or it doesn't.
use Rattle.beacon_node.proofs.Openings.{no_memory_opens, opened_store, opening_ends}
use Rattle.beacon_node.proofs.histories.store_at.Goals as goal

pub returns-in-Err-clause-over : goal.returns-in-Err-clause-over
returns-in-Err-clause-over c = no_memory_opens _

pub returns-in-Ok-new-clause-opened : goal.returns-in-Ok-new-clause-opened
returns-in-Ok-new-clause-opened c = opened_store c.args.config.now c.args.genesis.now _ (rw c.in-Ok.ensures at c.in-Ok-new.ensures)

pub returns-in-Err-new-clause-over : goal.returns-in-Err-new-clause-over
returns-in-Err-new-clause-over c = rw c.no_store.ensures (opening_ends c.args.config.now c.args.genesis.now c.in-Err-new.stop (rw c.in-Ok.ensures at c.in-Err-new.ensures))
