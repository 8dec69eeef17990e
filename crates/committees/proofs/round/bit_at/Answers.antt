-- The bit of a position is the bit of its byte.
use Rattle.std.proofs.Common.{refl}
use Rattle.committees.specs.Shuffling.{bit_in}
use Rattle.committees.proofs.round.bit_at.Goals as goal

pub returns-clause-bit : goal.returns-clause-bit
unfolding bit_in
returns-clause-bit c = refl
