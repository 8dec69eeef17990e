-- A shelf in memory tells what its names hold, and that agrees with all that it hands out.
use Rattle.std.proofs.Common.{refl}
use Rattle.bc_outside.specs.Memory.{held_in}
use Rattle.beacon_node.specs.laws.Memory.{RunsInMemory}

pub in_memory : RunsInMemory
in_memory files failing greatest words status t p q replayed keeps =
    rw replayed.files (replayed.answers (held_in files) (keeps.shelf.honest (held_in files) refl tt))
