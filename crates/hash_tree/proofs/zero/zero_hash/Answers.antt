use Rattle.std.proofs.Common.{arith}
use Rattle.hash_tree.proofs.Zeros.{zero_row}
use Rattle.hash_tree.proofs.zero.zero_hash.Goals as goal

pub returns : goal.returns
returns c = zero_row c.args.depth _ (omega arith)
