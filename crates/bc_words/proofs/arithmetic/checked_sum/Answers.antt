-- A number added leaves the sum of those behind it.
use Rattle.std.proofs.Common.{rules}
use Rattle.bc_words.proofs.Sums.{sum_by_number}
use Rattle.bc_words.proofs.arithmetic.checked_sum.Goals as goal

pub loop-number-preserved : goal.loop-number-preserved
loop-number-preserved c = search (rules, sum_by_number)
