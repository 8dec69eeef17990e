-- The numbers of all chunks are left.
use Rattle.std.proofs.Common.{refl}
use Rattle.shared_tree.proofs.Turns.{numbers_all}
use Rattle.shared_tree.proofs.numbers.Numbers.over.Goals as goal

pub returns : goal.returns
returns c = numbers_all c.args.len _ c.iter.result c.args.tree.now.1 refl c.iter.ensures
