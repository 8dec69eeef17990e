-- A full tree becomes the left half of a deeper one.
use Rattle.std.proofs.Common.{ℕ, ap, sym, ◌∙◌, arith}
use Rattle.tree_nodes.specs.inside.Puts.{put_at}
use Rattle.tree_nodes.proofs.Pairs.{grown, both_made, pair_made, pair_counted_right, stays_low, grows_high}
use Rattle.tree_nodes.proofs.put.put_or_grow.Goals as goal

pub put-requires-clause-room : goal.put-requires-clause-room
put-requires-clause-room g c = stays_low c.args.depth c.args.at c.args.grown c.requires.grows c.if-grown-depth.true

pub pair_step-requires : goal.pair_step-requires
pair_step-requires g c =
    let full = grows_high c.args.depth c.args.at c.args.grown c.requires.grows c.if-grown-depth.false in
    both_made c.share.result c.sprout-right.result c.share.ensures c.sprout-right.ensures.one (λ left right shared one. (grown c.args.node.now left right c.args.depth c.args.at c.args.leaf c.requires.same c.requires.fits full.0 c.requires.place shared one).0)

pub returns-clause-put : goal.returns-clause-put
returns-clause-put g c =
    let full = grows_high c.args.depth c.args.at c.args.grown c.requires.grows c.if-grown-depth.false in
    pair_made c.share.result c.sprout-right.result c.pair_step.result (c.args.grown, put_at c.args.node.now.1 c.args.at c.args.leaf) c.share.ensures c.sprout-right.ensures.one c.pair_step.ensures.pair
    (λ left right shared one. (grown c.args.node.now left right c.args.depth c.args.at c.args.leaf c.requires.same c.requires.fits full.0 c.requires.place shared one).1 ∙ ap (λ (d : ℕ). (d, put_at c.args.node.now.1 c.args.at c.args.leaf)) (sym full.1))

pub returns-clause-steps : goal.returns-clause-steps
returns-clause-steps g c =
    let full = grows_high c.args.depth c.args.at c.args.grown c.requires.grows c.if-grown-depth.false in
    pair_counted_right c.share.result c.sprout-right.result c.pair_step.result c.sprout-right.ensures.steps c.pair_step.ensures.pair c.pair_step.ensures.steps (λ below above. omega (arith, full.1))

pub returns-clause-at_most : goal.returns-clause-at_most
returns-clause-at_most g c =
    let full = grows_high c.args.depth c.args.at c.args.grown c.requires.grows c.if-grown-depth.false in
    omega (arith, full.1, c.sprout-right.ensures.at_most, c.pair_step.ensures.at_most)
