use Rattle.std.proofs.Common.{◌≡◌, ◌++◌, IfSome}
use Rattle.spec_state.specs.Accessors.{get_active_validator_indices}
use Rattle.active_sets.specs.inside.Active.{balance_in}
use Rattle.balance_totals.proofs.ActiveLeft.{indices_left, sum_left}
use Rattle.balance_totals.proofs.totals.listed.Given as goal

abbrev pub invariant-loop-index : goal.invariant-loop-index
invariant-loop-index l = record {
  indices : l.indices.items ++ indices_left l.epoch l.index-iterator.count l.index-iterator.iter ≡ get_active_validator_indices l.state l.epoch;
  balance : IfSome l.balance (λ sum. sum_left l.epoch sum l.index-iterator.iter ≡ balance_in l.state.validators l.epoch);
}
