use Rattle.std.proofs.Common.{◌≡◌, ◌+◌, length, vec_capacity}
use Rattle.block_array.specs.inside.BestDescendants.{AreFresh}
use Rattle.block_array.proofs.apply_score_changes.begin.Given as goal

abbrev pub invariant-loop-number : goal.invariant-loop-number
invariant-loop-number g l = record {
  length_is : length l.bests.items ≡ length l.fn.bests.items;
  fresh : AreFresh l.tally l.first l.bests.items l.number;
  room : vec_capacity l.bests ≡ vec_capacity l.fn.bests;
  steps : l.steps + l.first ≡ l.fn.steps + l.number;
}
