use Rattle.bc_outside.proofs.Taking.{end_tested}
use Rattle.bc_outside.proofs.shelf.meets_end.Goals as goal

pub returns : goal.returns
returns c = rw c.is_empty.ensures (end_tested c.args.piece.now c.args.n)
