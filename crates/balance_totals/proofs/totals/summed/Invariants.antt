use Rattle.std.proofs.Common.{◌≡◌}
use Rattle.bc_words.specs.Outcome.{checked_sum_by}
use Rattle.spec_state.specs.Misc.{effective_balance}
use Rattle.spec_state.specs.Accessors.{get_active_validator_indices}
use Rattle.balance_totals.proofs.ActiveLeft.{sum_left}
use Rattle.balance_totals.proofs.totals.summed.Given as goal

abbrev pub invariant-loop-validator : goal.invariant-loop-validator
invariant-loop-validator l = sum_left l.epoch l.sum l.validator-iterator ≡ checked_sum_by (effective_balance l.state.validators) (get_active_validator_indices l.state l.epoch)
