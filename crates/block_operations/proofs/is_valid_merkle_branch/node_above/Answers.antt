use Rattle.std.proofs.Common.{◌/◌, sym, ap, ◌∙◌, arith}
use Rattle.block_operations.proofs.Branch.{climbed, at_the_leaf, halved}
use Rattle.block_operations.proofs.is_valid_merkle_branch.node_above.Goals as goal

pub loop-sibling-init : goal.loop-sibling-init
loop-sibling-init c = record {
  value = sym (at_the_leaf c.args.leaf c.args.branch.now c.args.index);
  place = omega arith;
}

-- one level more
pub loop-sibling-preserved : goal.loop-sibling-preserved
loop-sibling-preserved c =
    let more = climbed c.args.leaf c.args.branch.now c.loop-sibling.sibling-index c.args.index in
    record {
      value = rw (more, ← c.loop-sibling.invariant.value, ← c.loop-sibling.invariant.place) c.hash_with_sibling-value.ensures;
      place = ap (λ n. n / 2) c.loop-sibling.invariant.place ∙ halved c.args.index c.loop-sibling.sibling-index;
    }
