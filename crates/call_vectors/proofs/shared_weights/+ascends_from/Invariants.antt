-- The rest is shorter.
use Rattle.std.proofs.Common.{length}
use Rattle.call_vectors.proofs.shared_weights.+ascends_from.Given as goal

abbrev pub decreases-ascends_from : goal.decreases-ascends_from
decreases-ascends_from l = length l.indices.now
