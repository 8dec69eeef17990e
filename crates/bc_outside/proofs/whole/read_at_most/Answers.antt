use Rattle.bc_outside.proofs.Taking.{takes_some_none, stays_same}
use Rattle.bc_outside.proofs.whole.read_at_most.Goals as goal

pub returns-clause-reads : goal.returns-clause-reads
returns-clause-reads g c = takes_some_none c.args.limit c.args.file (stays_same (g.F.Shelf.told c.args.shelf.now))
