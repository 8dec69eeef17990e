use Rattle.std.proofs.Common.{rules}
use Rattle.beacon_types.proofs.body.BeaconBlockBody.equals.Goals as goal
use Prim.{search}

pub returns-then-equals-4 : goal.returns-then-equals-4
returns-then-equals-4 c = search rules
