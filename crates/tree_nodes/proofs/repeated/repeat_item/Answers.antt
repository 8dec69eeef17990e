-- A level more has twice as many leaves.
use Rattle.std.proofs.Common.{arith}
use Rattle.tree_nodes.proofs.Doubled.{doubled}
use Rattle.tree_nodes.proofs.repeated.repeat_item.Goals as goal

pub levels-preserved : goal.levels-preserved
levels-preserved g c = record {
  upto = omega (arith, c.levels-test.true);
  node = doubled c.levels.level c.args.item c.in_ok-left.left c.levels.node c.in_ok-node-2.node c.levels.invariant.node c.in_ok-left.ensures c.in_ok-node-2.ensures;
}
