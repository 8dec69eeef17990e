use Rattle.std.proofs.Common.{arith}
use Rattle.committees.proofs.Pass.{join_source, join_word}
use Rattle.committees.proofs.narrow.swap_planes.Goals as goal

pub loop-position-preserved : goal.loop-position-preserved
loop-position-preserved c =
    let loop = c.loop-position in
    let bits = c.sixteen_bits-bits in
    record {
      from = omega arith;
      to = omega (arith, loop.invariant.whole);
      whole = omega (arith, loop.invariant.whole);
      aligned = λ less. omega (arith, loop.invariant.aligned (omega arith));
      low = join_word c.args.source.now c.args.sum c.args.first loop.position bits.result c.args.low.now loop.low c.swap_loaded.new.list
          loop.invariant.from (omega (arith, loop.invariant.whole)) bits.ensures loop.invariant.low c.swap_loaded.ensures;
      middle = join_word c.args.source.now c.args.sum c.args.first loop.position bits.result c.args.middle.now loop.middle c.swap_loaded-in-loop-position.new.list
          loop.invariant.from (omega (arith, loop.invariant.whole)) bits.ensures loop.invariant.middle c.swap_loaded-in-loop-position.ensures;
      high = join_word c.args.source.now c.args.sum c.args.first loop.position bits.result c.args.high.now loop.high c.swap_loaded-in-loop-position-2.new.list
          loop.invariant.from (omega (arith, loop.invariant.whole)) bits.ensures loop.invariant.high c.swap_loaded-in-loop-position-2.ensures;
    }

pub returns-clause-low : goal.returns-clause-low
returns-clause-low c =
    let loop = c.loop-position in
    join_source c.args.source.now c.args.sum c.args.first loop.position c.args.last c.args.low.now loop.low c.swap_three-2.new.low
    loop.invariant.from (omega arith) c.requires.images loop.invariant.low c.swap_three-2.ensures.low

pub returns-clause-middle : goal.returns-clause-middle
returns-clause-middle c =
    let loop = c.loop-position in
    join_source c.args.source.now c.args.sum c.args.first loop.position c.args.last c.args.middle.now loop.middle c.swap_three-2.new.middle
    loop.invariant.from (omega arith) c.requires.images loop.invariant.middle c.swap_three-2.ensures.middle

pub returns-clause-high : goal.returns-clause-high
returns-clause-high c =
    let loop = c.loop-position in
    join_source c.args.source.now c.args.sum c.args.first loop.position c.args.last c.args.high.now loop.high c.swap_three-2.new.high
    loop.invariant.from (omega arith) c.requires.images loop.invariant.high c.swap_three-2.ensures.high
