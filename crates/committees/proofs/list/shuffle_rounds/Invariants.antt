use Rattle.std.proofs.Common.{◌≡◌, ℕ, ◌/◌, ◌%◌, ◌<◌, ◌≤◌, length, slice_index}
use Rattle.committees.specs.Shuffling.{compute_shuffled_index, pivot_of}
use Rattle.committees.proofs.list.shuffle_rounds.Given as goal

abbrev pub invariant-loop-round : goal.invariant-loop-round
invariant-loop-round l = record {
  long : length l.list ≡ length l.fn.list;
  fits : l.round ≤ l.rounds;
  pivots : l.round < l.rounds → 0 < l.round % 8 → (k : ℕ) → k / 8 ≡ l.round / 8 → slice_index l.pivots (k % 8) ≡ pivot_of l.seed k l.count;
  shuffled : (index : ℕ) → index < length l.fn.list → slice_index l.list (compute_shuffled_index l.round index (length l.fn.list) l.seed) ≡ slice_index l.fn.list (compute_shuffled_index l.rounds index (length l.fn.list) l.seed);
}

abbrev pub decreases-loop-round : goal.decreases-loop-round
decreases-loop-round l = l.round
