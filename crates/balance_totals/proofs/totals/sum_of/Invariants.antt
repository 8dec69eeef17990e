use Rattle.std.proofs.Common.{◌≡◌, drop}
use Rattle.bc_words.specs.Outcome.{checked_sum_from, checked_sum_by}
use Rattle.spec_state.specs.Misc.{effective_balance}
use Rattle.balance_totals.proofs.totals.sum_of.Given as goal

abbrev pub invariant-loop-index : goal.invariant-loop-index
invariant-loop-index l =
    let balance = effective_balance l.state.validators in
    checked_sum_from balance l.sum (drop l.index-index l.indices) ≡ checked_sum_by balance l.indices
