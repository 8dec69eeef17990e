-- The words written so far are those of each block.
use Rattle.std.proofs.Common.{◌≡◌, ℕ, ◌*◌, ◌<◌, List, ◌++◌, length}
use Rattle.sha2.specs.Sha256.{word_at}
use Rattle.hash_tree.specs.inside.Lanes.{lane_at}
use Rattle.hash_tree.proofs.sources.fill.Given as goal

abbrev pub invariant-load : goal.invariant-load
invariant-load l = record {
  room : length l.w ≡ 64;
  so_far : (j : ℕ) (tail : List ℕ) → j < 8 → ((i : ℕ) → i < 8 → lane_at l.tails i j ≡ word_at tail (4 * i)) → (k : ℕ) → k < l.k → lane_at l.w k j ≡ word_at (l.seed ++ tail) (4 * k);
}
