-- The rest is shorter.
use Rattle.std.proofs.Common.{length}
use Rattle.call_vectors.proofs.shared_weights.+total.Given as goal

abbrev pub decreases-total : goal.decreases-total
decreases-total l = length l.weights.now
