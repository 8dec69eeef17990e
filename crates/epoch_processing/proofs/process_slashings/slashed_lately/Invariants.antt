use Rattle.std.proofs.Common.{◌≡◌, ℕ, drop}
use Rattle.bc_words.specs.Outcome.{checked_sum_from, checked_sum}
use Rattle.epoch_processing.proofs.process_slashings.slashed_lately.Given as goal

abbrev pub invariant-loop-i : goal.invariant-loop-i
invariant-loop-i l = let one = λ (x : ℕ). x in checked_sum_from one l.sum (drop l.i l.state.slashings) ≡ checked_sum l.state.slashings
