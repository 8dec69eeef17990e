use Rattle.std.proofs.Common.{arith}
use Rattle.hash_tree.proofs.Choice.{shorter}
use Rattle.hash_tree.proofs.single.choose.Goals as goal

pub returns : goal.returns
returns c = shorter c.args.x c.args.y c.args.z (omega arith) (omega arith) (omega arith)
