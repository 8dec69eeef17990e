use Rattle.std.proofs.Common.{refl}
use Rattle.beacon_types.proofs.body_limits.AttesterSlashingsLimitListLimit.LIMIT.Goals as goal

-- MAX_ATTESTER_SLASHINGS
pub returns : goal.returns
returns c = refl
