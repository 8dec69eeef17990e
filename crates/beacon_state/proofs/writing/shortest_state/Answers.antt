-- What is of fixed size is within the preset's bounds.
use Rattle.std.proofs.Common.{arith}
use Rattle.bc_preset.proofs.Bounds.{preset_bounds}
use Rattle.beacon_state.proofs.writing.shortest_state.Goals as goal

pub overflow_mul-roots : goal.overflow_mul-roots
overflow_mul-roots c = grind (arith, preset_bounds)

pub overflow_mul-mixes : goal.overflow_mul-mixes
overflow_mul-mixes c = grind (arith, preset_bounds)

pub overflow_mul-slashings : goal.overflow_mul-slashings
overflow_mul-slashings c = grind (arith, preset_bounds)

pub overflow_add-result : goal.overflow_add-result
overflow_add-result c = grind (arith, preset_bounds)

pub overflow_add-result-2 : goal.overflow_add-result-2
overflow_add-result-2 c = grind (arith, preset_bounds)

pub overflow_add-result-3 : goal.overflow_add-result-3
overflow_add-result-3 c = grind (arith, preset_bounds)

pub overflow_add-result-4 : goal.overflow_add-result-4
overflow_add-result-4 c = grind (arith, preset_bounds)
