-- The node is the first of the path.
use Rattle.std.proofs.Common.{arith}
use Rattle.tree_nodes.proofs.Walks.{ahead_set}
use Rattle.tree_nodes.proofs.iter.lay.Goals as goal

pub returns-clause-laid : goal.returns-clause-laid
returns-clause-laid g c =
    let begun = c.requires.begun in
    let room = c.requires.room in
    ahead_set c.args.path.now c.args.from c.args.node c.requires.some (omega arith)
