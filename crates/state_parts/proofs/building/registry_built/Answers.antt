-- Each list is within its limit.
use Rattle.std.proofs.Common.{arith}
use Rattle.bc_preset.proofs.Bounds.{preset_bounds}
use Rattle.state_parts.proofs.building.registry_built.Goals as goal

pub from_items-validators-requires-clause-fits : goal.from_items-validators-requires-clause-fits
from_items-validators-requires-clause-fits c = grind (arith, preset_bounds)

pub from_items-validators-requires-clause-within : goal.from_items-validators-requires-clause-within
from_items-validators-requires-clause-within c = c.requires.validators.1

pub from_items-requires-clause-fits : goal.from_items-requires-clause-fits
from_items-requires-clause-fits c = omega (arith, c.requires.balances.0)

pub from_items-requires-clause-low : goal.from_items-requires-clause-low
from_items-requires-clause-low c = grind (arith, preset_bounds)

pub from_items-requires-2-clause-fits : goal.from_items-requires-2-clause-fits
from_items-requires-2-clause-fits c = omega (arith, c.requires.slashings.0)

pub from_items-requires-2-clause-low : goal.from_items-requires-2-clause-low
from_items-requires-2-clause-low c = grind (arith, preset_bounds)
