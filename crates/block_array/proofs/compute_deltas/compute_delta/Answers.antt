use Rattle.std.proofs.Common.{sym, ◌∙◌, arith}
use Rattle.block_array.proofs.Silencing.{vote_below}
use Rattle.block_array.proofs.compute_deltas.compute_delta.Goals as goal

pub count-requires-clause-node : goal.count-requires-clause-node
count-requires-clause-node g c =
    let below = vote_below c.args.inputs.now.array c.args.validator c.in-Some.message c.nodes-nodes.ensures.plain (sym c.vote.ensures ∙ c.in-Some.is) in
    let nodes = c.requires.nodes in
    omega arith
