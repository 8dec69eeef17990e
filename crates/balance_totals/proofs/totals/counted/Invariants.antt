use Rattle.std.proofs.Common.{◌≡◌, ◌+◌, length}
use Rattle.spec_state.specs.Accessors.{get_active_validator_indices}
use Rattle.balance_totals.proofs.ActiveLeft.{count_left}
use Rattle.balance_totals.proofs.totals.counted.Given as goal

abbrev pub invariant-loop-validator : goal.invariant-loop-validator
invariant-loop-validator l = l.count + count_left l.epoch l.validator-iterator ≡ length (get_active_validator_indices l.state l.epoch)
