-- A total is at least one increment.
use Rattle.std.proofs.Common.{◌≡◌, ℕ, ◌≤◌, max, arith, List}
use Rattle.bc_words.specs.Outcome.{done, checked_sum_by}
use Rattle.spec_state.specs.declared.plain.PlainState.{PlainState}
use Rattle.spec_state.specs.Misc.{effective_balance}
use Rattle.spec_state.specs.Accessors.{get_total_balance}
use Rattle.spec_epochs.proofs.Each.{bound_done}

pub least_total : (state : PlainState) (indices : List ℕ) (total : ℕ) → get_total_balance state indices ≡ done total → state.preset.effective_balance_increment ≤ total
unfolding get_total_balance
least_total state indices total e =
    let parts = bound_done (checked_sum_by (effective_balance state.validators) indices) (λ sum. done (max state.preset.effective_balance_increment sum)) total e in
    let h : total ≡ max state.preset.effective_balance_increment parts.0 = cc (parts.2) in
    omega (arith, h)
