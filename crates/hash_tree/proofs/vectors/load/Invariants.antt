-- The words written so far are those of each pair.
use Rattle.std.proofs.Common.{◌≡◌, ℕ, ◌*◌, ◌<◌, [], length, slice_index_or}
use Rattle.sha2.specs.Sha256.{word_at}
use Rattle.hash_tree.specs.Pairs.{message}
use Rattle.hash_tree.specs.inside.Lanes.{lane_at}
use Rattle.hash_tree.proofs.vectors.load.Given as goal

abbrev pub invariant-load : goal.invariant-load
invariant-load g l = record {
  room : length l.w ≡ 64;
  so_far : (j k : ℕ) → j < g.row.N → k < l.k → lane_at l.w k j ≡ word_at (message (slice_index_or l.pairs j [])) (4 * k);
  long : 0 < l.k → (j : ℕ) → j < g.row.N → length (message (slice_index_or l.pairs j [])) ≡ 64;
}
