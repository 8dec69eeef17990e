use Rattle.std.proofs.Common.{◌≡◌, ◌+◌, length, take}
use Rattle.block_array.specs.inside.Noted.{AreMade}
use Rattle.block_array.proofs.compute_deltas.compute_changed_deltas.Given as goal

abbrev pub invariant-loop-i : goal.invariant-loop-i
invariant-loop-i g l = record {
  same : l.tally ≡ record l.fn.tally { validators = l.tally.validators };
  length_is : length l.tally.validators ≡ length l.fn.tally.validators;
  made : AreMade l.inputs.array l.fn.tally.validators l.tally.validators (take l.i l.changed);
  steps : l.steps ≡ l.fn.steps + l.i;
}
