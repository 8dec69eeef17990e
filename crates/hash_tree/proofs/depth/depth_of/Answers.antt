use Rattle.std.proofs.Common.{◌≡◌, ◌≤◌, ◌<◌, ◌^◌, arith, sym, subst}
use Rattle.hash_tree.proofs.Depths.{depth_start, depth_more, depth_found, depth_last}
use Rattle.hash_tree.proofs.depth.depth_of.Goals as goal

pub loop-depth-init : goal.loop-depth-init
loop-depth-init c = record { within = omega arith; so_far = depth_start c.args.limit }

pub loop-depth-preserved : goal.loop-depth-preserved
loop-depth-preserved c =
    let above : 2 ^ c.loop-depth.depth < c.args.limit = subst (λ k. k < c.args.limit) c.leaves_of.ensures c.if-limit-leaves_of.false in
    record { within = omega arith; so_far = depth_more c.args.limit c.loop-depth.depth c.loop-depth-test.true c.loop-depth.invariant.so_far above }

pub returns-then-limit-leaves_of-clause-depth : goal.returns-then-limit-leaves_of-clause-depth
returns-then-limit-leaves_of-clause-depth c =
    let fits : c.args.limit ≤ 2 ^ c.loop-depth.depth = subst (λ k. c.args.limit ≤ k) c.leaves_of.ensures c.if-limit-leaves_of.true in
    sym (depth_found c.args.limit c.loop-depth.depth c.loop-depth-test.true c.loop-depth.invariant.so_far fits)

pub returns-then-limit-leaves_of-clause-fits : goal.returns-then-limit-leaves_of-clause-fits
returns-then-limit-leaves_of-clause-fits c = subst (λ k. c.args.limit ≤ k) c.leaves_of.ensures c.if-limit-leaves_of.true

pub returns-clause-depth : goal.returns-clause-depth
returns-clause-depth c =
    let at : c.loop-depth.depth ≡ 40 = omega arith in
    sym (depth_last c.args.limit c.loop-depth.depth at c.loop-depth.invariant.so_far)

pub returns-clause-fits : goal.returns-clause-fits
returns-clause-fits c =
    let at : c.loop-depth.depth ≡ 40 = omega arith in
    subst (λ k. c.args.limit ≤ 2 ^ k) (sym at) c.requires
