-- From the leaves to the one node that holds all.
use Rattle.std.proofs.Common.{◌≡◌, ℕ, suc, ◌+◌, List, length, ap, sym, subst, ◌∙◌, arith}
use Rattle.tree_nodes.specs.inside.Layers.{held, IsLayer}
use Rattle.tree_nodes.proofs.Climbs.{length_leaves, held_leaves, leaves_layer, whole_width, whole_left, width_left, level_more, last_of}
use Rattle.tree_nodes.proofs.layers.layered.Goals as goal

pub layers-init : goal.layers-init
layers-init g c =
    let long = ap length c.in_ok-nodes.ensures ∙ length_leaves c.args.items.items in
    let has = c.requires.some in
    let fits = c.requires.fits in
    record {
      upto = omega arith;
      layer = subst (λ (ns : List (ℕ × List _)). IsLayer 0 ns) (sym c.in_ok-nodes.ensures) (leaves_layer c.args.items.items);
      all = ap (λ (ns : List (ℕ × List _)). held ns) c.in_ok-nodes.ensures ∙ held_leaves c.args.items.items;
      some = omega arith;
      few = omega arith;
      narrow = whole_width c.args.depth (length c.in_ok-nodes.nodes.items) (omega arith);
      work = omega arith;
      left = whole_left c.args.depth c.args.steps.now;
    }

pub returns-in_err-nodes-2-clause-nodes : goal.returns-in_err-nodes-2-clause-nodes
returns-in_err-nodes-2-clause-nodes g c =
    let width = width_left c.layers.level c.args.depth c.layers-test.true in
    omega (arith, width, c.climb.ensures.steps, c.layers.invariant.some, c.layers.invariant.narrow, c.layers.invariant.left)

pub layers-preserved : goal.layers-preserved
layers-preserved g c =
    let width = width_left c.layers.level c.args.depth c.layers-test.true in
    let next : suc c.layers.level ≡ c.layers.level + 1 = omega arith in
    let more = level_more (length c.args.items.items) c.layers.level in
    let count = c.in_ok-nodes-2.ensures.count in
    let has = c.layers.invariant.some in
    let fewer = c.layers.invariant.few in
    let narrower = c.layers.invariant.narrow in
    let worked = c.layers.invariant.work in
    let so_left = c.layers.invariant.left in
    let took = c.climb.ensures.steps in
    let low = c.layers-test.true in
    record {
      upto = omega arith;
      layer = subst (λ (d : ℕ). IsLayer d c.in_ok-nodes-2.nodes.items) next c.in_ok-nodes-2.ensures.layer;
      all = c.in_ok-nodes-2.ensures.held ∙ c.layers.invariant.all;
      some = omega arith;
      few = omega arith;
      narrow = omega arith;
      work = omega arith;
      left = omega arith;
    }

pub returns-clause-built : goal.returns-clause-built
returns-clause-built g c =
    last_of c.args.depth c.layers.level c.layers.nodes.items c.pop.new.self.items c.in-Some.node c.args.items.items (omega (arith, c.layers-test.false, c.layers.invariant.upto)) c.in-Some.ensures.items c.layers.invariant.narrow c.layers.invariant.layer c.layers.invariant.all
