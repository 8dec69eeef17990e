-- Each list is within its limit.
use Rattle.std.proofs.Common.{arith}
use Rattle.bc_preset.proofs.Bounds.{preset_bounds}
use Rattle.state_parts.proofs.building.lists_built.Goals as goal

pub from_items-requires-clause-within : goal.from_items-requires-clause-within
from_items-requires-clause-within c = c.requires.roots.1

pub from_items-requires-clause-fits : goal.from_items-requires-clause-fits
from_items-requires-clause-fits c = c.requires.roots.0

pub from_items-requires-clause-low : goal.from_items-requires-clause-low
from_items-requires-clause-low c = grind (arith, preset_bounds)

pub from_items-requires-2-clause-within : goal.from_items-requires-2-clause-within
from_items-requires-2-clause-within c = c.requires.votes.1

pub from_items-requires-2-clause-fits : goal.from_items-requires-2-clause-fits
from_items-requires-2-clause-fits c = omega (arith, c.requires.votes.0)

pub from_items-requires-2-clause-low : goal.from_items-requires-2-clause-low
from_items-requires-2-clause-low c = grind (arith, preset_bounds)
