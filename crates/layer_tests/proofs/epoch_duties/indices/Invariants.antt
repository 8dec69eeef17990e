use Rattle.std.proofs.Common.{◌≡◌, ℕ, ◌<◌, length, slice_index}
use Rattle.layer_tests.proofs.epoch_duties.indices.Given as goal

abbrev pub invariant-loop-index : goal.invariant-loop-index
invariant-loop-index l =
    (length l.indices.items ≡ l.index) × ((k : ℕ) → k < l.index → slice_index l.indices.items k ≡ k)
