use Rattle.std.proofs.Common.{arith}
use Rattle.hash_tree.specs.inside.Lanes.{source_block}
use Rattle.hash_tree.proofs.sources.fill_near.Goals as goal

pub returns : goal.returns
returns c j round page seed less near common ahead head =
    c.expand_from.ensures j (source_block seed round page) less
    (c.expand_near.ensures j round page seed less near ahead
    (λ i before. c.load.invariant.so_far j round page seed less near common head i (omega arith)))
