use Rattle.std.proofs.Common.{◌≡◌, ℕ, drop}
use Rattle.bc_words.specs.Outcome.{checked_sum_from, checked_sum}
use Rattle.bc_words.proofs.arithmetic.checked_sum.Given as goal

abbrev pub invariant-loop-number : goal.invariant-loop-number
invariant-loop-number l =
    let itself = λ (x : ℕ). x in
    checked_sum_from itself l.sum (drop l.number-index l.numbers) ≡ checked_sum l.numbers
