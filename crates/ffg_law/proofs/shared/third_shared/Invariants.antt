-- What is left of both lists answers for all validators from the index on, and what those share is still to come.
use Rattle.std.proofs.Common.{◌≡◌, ◌≤◌, ◌+◌, ℕ, drop}
use Rattle.ffg_law.specs.Weights.{among, both, weight_from, weight_of, AscendsFrom}
use Rattle.ffg_law.proofs.shared.third_shared.Given as goal

abbrev pub invariant-loop-index : goal.invariant-loop-index
invariant-loop-index l = record {
  left_ascends : AscendsFrom l.index l.left;
  right_ascends : AscendsFrom l.index l.right;
  left_same : (k : ℕ) → l.index ≤ k → among l.left k ≡ among l.first k;
  right_same : (k : ℕ) → l.index ≤ k → among l.right k ≡ among l.second k;
  to_come : l.shared + weight_from (both (among l.first) (among l.second)) l.index (drop l.index l.weights) ≡ weight_of l.weights (both (among l.first) (among l.second));
}
