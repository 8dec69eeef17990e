use Rattle.std.proofs.Common.{◌≡◌, ◌/◌, ◌^◌}
use Rattle.spec_blocks.specs.IsValidMerkleBranch.{node_above}
use Rattle.block_operations.proofs.is_valid_merkle_branch.node_above.Given as goal

-- so many levels are climbed
abbrev pub invariant-loop-sibling : goal.invariant-loop-sibling
invariant-loop-sibling l = record {
  value : l.value ≡ node_above l.initial.value l.branch l.sibling-index l.index;
  place : l.place ≡ l.index / 2 ^ l.sibling-index;
}
