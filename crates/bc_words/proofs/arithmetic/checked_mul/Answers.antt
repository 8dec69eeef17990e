-- The product is the value where it fits, and an overflow where it does not.
use Rattle.std.proofs.Common.{rules}
use Rattle.bc_words.specs.Outcome.{checked_mul}
use Rattle.bc_words.proofs.arithmetic.checked_mul.Goals as goal

pub returns : goal.returns
unfolding checked_mul
returns c = search rules
