use Rattle.std.proofs.Common.{◌≡◌, ◌+◌, ◌-◌, vec_capacity}
use Rattle.block_array.specs.inside.BestDescendants.{AreBest}
use Rattle.block_array.proofs.apply_score_changes.apply_score_changes.Given as goal

abbrev pub invariant-loop-done : goal.invariant-loop-done
invariant-loop-done g l = record {
  are_best : AreBest l.inputs.array l.tally l.bests.items (l.count - l.done);
  room : vec_capacity l.bests ≡ vec_capacity l.initial.bests;
  steps : l.steps ≡ l.initial.steps + l.done;
}
