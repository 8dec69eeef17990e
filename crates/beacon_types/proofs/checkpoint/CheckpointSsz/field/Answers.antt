use Rattle.std.proofs.Common.{refl}
use Rattle.beacon_types.proofs.checkpoint.CheckpointSsz.field.Goals as goal

-- an epoch and a root
pub returns : goal.returns
returns c = refl
