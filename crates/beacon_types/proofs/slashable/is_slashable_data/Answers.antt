use Rattle.std.proofs.Common.{rules}
use Rattle.beacon_types.specs.Slashable.{is_slashable_attestation_data}
use Rattle.beacon_types.proofs.slashable.is_slashable_data.Goals as goal
use Prim.{search}

pub returns-then-double : goal.returns-then-double
unfolding is_slashable_attestation_data
returns-then-double c = search rules
