-- What is of fixed size is within the preset's bounds.
use Rattle.std.proofs.Common.{arith}
use Rattle.bc_preset.proofs.Bounds.{preset_bounds}
use Rattle.state_parts.proofs.reading.state_layout.Goals as goal

pub overflow_mul-roots : goal.overflow_mul-roots
overflow_mul-roots c = grind (arith, preset_bounds)

pub overflow_mul-mixes : goal.overflow_mul-mixes
overflow_mul-mixes c = grind (arith, preset_bounds)

pub overflow_mul-slashings : goal.overflow_mul-slashings
overflow_mul-slashings c = grind (arith, preset_bounds)
