use Rattle.std.proofs.Common.{◌≡◌, ℕ, ◌+◌, ◌≤◌, length}
use Rattle.block_array.specs.inside.Counts.{counted_of}
use Rattle.block_array.specs.inside.Noted.{AreDue, deltas_below}
use Rattle.block_array.proofs.compute_deltas.compute_deltas_in_order.Given as goal

abbrev pub invariant-loop-validator : goal.invariant-loop-validator
invariant-loop-validator g l = record {
  same : l.tally ≡ record l.fn.tally { validators = l.tally.validators };
  length_is : length l.tally.validators ≡ length l.fn.tally.validators;
  made : AreDue l.inputs.array l.tally.validators l.validator;
  rest : (v : ℕ) → l.validator ≤ v → counted_of l.tally.validators v ≡ counted_of l.fn.tally.validators v;
  steps : l.steps ≡ l.fn.steps + deltas_below l.inputs.array l.fn.tally.validators l.validator;
}
