-- A leaf for each number so far.
use Rattle.std.proofs.Common.{◌≡◌, length}
use Rattle.layer_tests.proofs.trees.new_leaves.Given as goal

abbrev pub invariant-items : goal.invariant-items
invariant-items l = length l.leaves.items ≡ l.k
