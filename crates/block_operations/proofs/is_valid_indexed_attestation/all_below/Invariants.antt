use Rattle.std.proofs.Common.{◌≡◌, ℕ, true, ltb, take}
use Rattle.std.specs.List.{list_all}
use Rattle.block_operations.proofs.is_valid_indexed_attestation.all_below.Given as goal

abbrev pub invariant-loop-index : goal.invariant-loop-index
invariant-loop-index l = list_all (λ (index : ℕ). ltb index l.count) (take l.index-index l.indices) ≡ true
