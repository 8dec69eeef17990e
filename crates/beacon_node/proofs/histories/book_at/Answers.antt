-- The genesis begins a book.
use Rattle.beacon_node.proofs.Beginnings.{begins_book}
use Rattle.beacon_node.proofs.Openings.{no_memory_opens}
use Rattle.beacon_node.proofs.histories.book_at.Goals as goal

pub new-requires : goal.new-requires
new-requires c = begins_book c.args.config.now c.args.genesis.now c.requires.genesis c.requires.opened

pub returns-in-Err-clause-ends : goal.returns-in-Err-clause-ends
returns-in-Err-clause-ends c = no_memory_opens _
