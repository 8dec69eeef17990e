use Rattle.std.proofs.Common.{◌++◌, arith}
use Rattle.hash_tree.proofs.sources.fill.Goals as goal

pub returns : goal.returns
returns c j tail less tails =
    c.expand.ensures j (c.args.seed.now ++ tail) less (λ k before. c.load.invariant.so_far j tail less tails k (omega arith))
