use Rattle.std.proofs.Common.{ℕ}
use Rattle.ssz_codec.specs.Basic.{uint64}
use Rattle.state_parts.proofs.Within.{all_taken_next}
use Rattle.state_parts.proofs.validators.balances_in_range.Goals as goal

pub loop-change-preserved : goal.loop-change-preserved
loop-change-preserved c =
    all_taken_next (λ (change : ℕ × ℕ). uint64.Within change.1) c.args.changes.now c.loop-change.change-index _ c.loop-change-test.true c.loop-change.invariant c.change_in_range.ensures
