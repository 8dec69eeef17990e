use Rattle.hash_tree.proofs.Majority.{fewer}
use Rattle.hash_tree.proofs.single.majority.Goals as goal

pub returns : goal.returns
returns c = fewer c.args.x c.args.y c.args.z
