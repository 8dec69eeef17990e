use Rattle.std.proofs.Common.{◌≡◌, ◌≤◌, length, vec_capacity}
use Rattle.block_array.specs.UpdateLatestMessages.{with_message}
use Rattle.block_array.proofs.inputs.put.Given as goal

abbrev pub invariant-loop-place : goal.invariant-loop-place
invariant-loop-place l = record {
  exact : with_message l.items.items l.validator l.message ≡ with_message l.fn.items.items l.validator l.message;
  places : length l.items.items ≡ l.place;
  room : vec_capacity l.fn.items ≤ vec_capacity l.items;
}
