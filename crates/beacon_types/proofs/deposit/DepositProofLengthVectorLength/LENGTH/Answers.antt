use Rattle.std.proofs.Common.{refl}
use Rattle.beacon_types.proofs.deposit.DepositProofLengthVectorLength.LENGTH.Goals as goal

-- one more than the depth of the tree
pub returns : goal.returns
returns c = refl
