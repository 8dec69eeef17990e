use Rattle.std.proofs.Common.{◌≡◌, ◌+◌, ◌*◌, ◌++◌, ◌≤◌, ◌^◌, map, length}
use Rattle.std.specs.List.{sum_by}
use Rattle.spec_state.specs.Accessors.{get_current_epoch}
use Rattle.fork_store.specs.Arrays.{balance_in}
use Rattle.fork_store.proofs.ready_balances.list_of.Given as goal

abbrev pub invariant-loop-validator : goal.invariant-loop-validator
invariant-loop-validator l =
    let balance = balance_in (get_current_epoch l.state) in
    record {
      list : l.list.items ++ map balance l.validator-iterator ≡ map balance l.state.validators;
      few : length l.list.items + length l.validator-iterator ≡ length l.state.validators;
      sum : l.sum + sum_by balance l.validator-iterator ≡ sum_by balance l.state.validators;
      low : l.sum ≤ length l.list.items * 2 ^ 64;
    }
