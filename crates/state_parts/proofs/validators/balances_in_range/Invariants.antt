use Rattle.std.proofs.Common.{ℕ, take}
use Rattle.std.specs.List.{AllByRecursion}
use Rattle.ssz_codec.specs.Basic.{uint64}
use Rattle.state_parts.proofs.validators.balances_in_range.Given as goal

abbrev pub invariant-loop-change : goal.invariant-loop-change
invariant-loop-change l = AllByRecursion (λ (change : ℕ × ℕ). uint64.Within change.1) (take l.change-index l.changes)
