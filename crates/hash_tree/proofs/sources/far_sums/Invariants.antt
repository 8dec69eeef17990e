-- The sums written so far are those of the first lane.
use Rattle.std.proofs.Common.{◌≡◌, ℕ, ◌+◌, ◌<◌, length, slice_index}
use Rattle.sha2.specs.Sha256.{add32, small_sigma0}
use Rattle.hash_tree.specs.inside.Lanes.{lane_at}
use Rattle.hash_tree.proofs.sources.far_sums.Given as goal

abbrev pub invariant-sums : goal.invariant-sums
invariant-sums l = record {
  room : length l.sums ≡ 13;
  so_far : (i : ℕ) → i < l.k → slice_index l.sums i ≡ add32 (small_sigma0 (lane_at l.w (i + 10) 0)) (lane_at l.w (i + 9) 0);
}
