use Rattle.std.proofs.Common.{◌+◌, arith}
use Rattle.committees.proofs.Pass.{begin, join_source}
use Rattle.committees.specs.inside.Pass.{by_source}
use Rattle.committees.proofs.narrow.swap_each.Goals as goal

pub loop-position-init : goal.loop-position-init
loop-position-init c = begin (by_source c.args.source.now c.args.sum) c.args.sum c.args.first c.args.list.now

pub loop-position-preserved : goal.loop-position-preserved
loop-position-preserved c =
    let loop = c.loop-position in
    join_source c.args.source.now c.args.sum c.args.first loop.position (loop.position + 1) c.args.list.now loop.list c.swap_one.new.list
    (omega arith) (omega arith) (omega arith) loop.invariant c.swap_one.ensures
