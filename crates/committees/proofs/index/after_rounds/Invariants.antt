use Rattle.std.proofs.Common.{◌≡◌, ℕ, ◌+◌, ◌<◌}
use Rattle.committees.specs.Shuffling.{compute_shuffled_index}
use Rattle.committees.proofs.index.after_rounds.Given as goal

abbrev pub invariant-rounds : goal.invariant-rounds
invariant-rounds l = record {
  below : l.place < l.count;
  place : (start : ℕ) → l.index ≡ compute_shuffled_index l.first start l.count l.seed → l.place ≡ compute_shuffled_index (l.first + l.j) start l.count l.seed;
}
