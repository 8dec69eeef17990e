-- One root more.
use Rattle.std.proofs.Common.{arith}
use Rattle.tree_nodes.proofs.Climbs.{root_more, root_all}
use Rattle.tree_nodes.proofs.layers.roots_of.Goals as goal

pub roots-preserved : goal.roots-preserved
roots-preserved g c =
    let test = c.roots-test.true in
    record {
      made = root_more g.T.Leaf.root_of c.args.nodes.now c.roots.k c.roots.roots.items c.push.new.self.items c.root.result c.index-nodes-k.result test c.index-nodes-k.is c.root.ensures c.in_ok-push.ensures.items c.roots.invariant.made;
      upto = omega arith;
    }

pub returns : goal.returns
returns g c =
    root_all g.T.Leaf.root_of c.args.nodes.now c.roots.k c.roots.roots.items (omega (arith, c.roots-test.false)) c.roots.invariant.made
