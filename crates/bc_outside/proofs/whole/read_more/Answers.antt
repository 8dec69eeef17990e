use Rattle.std.proofs.Common.{length}
use Rattle.bc_outside.proofs.Taking.{takes_some_none, stays_same}
use Rattle.bc_outside.proofs.whole.read_more.Goals as goal

pub returns-in-Err-clause-err : goal.returns-in-Err-clause-err
returns-in-Err-clause-err g c = takes_some_none (length c.args.piece.now) c.args.file (stays_same (g.F.Shelf.told c.args.shelf.now))

pub returns-in-Err-read-clause-err : goal.returns-in-Err-read-clause-err
returns-in-Err-read-clause-err g c = takes_some_none (length c.args.piece.now) c.args.file c.in-Err-read.ensures.reads
