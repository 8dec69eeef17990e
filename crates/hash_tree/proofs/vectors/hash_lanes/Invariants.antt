-- The hashes written so far are those of their pairs.
use Rattle.std.proofs.Common.{◌≡◌, ℕ, ◌<◌, [], length, slice_index_or}
use Rattle.sha2.specs.Sha256.{sha256}
use Rattle.hash_tree.specs.Pairs.{message}
use Rattle.hash_tree.proofs.vectors.hash_lanes.Given as goal

abbrev pub invariant-hashes : goal.invariant-hashes
invariant-hashes g l = record {
  room : length l.out ≡ g.row.N;
  so_far : (j : ℕ) → j < l.j → slice_index_or l.out j [] ≡ sha256 (message (slice_index_or l.pairs j []));
}
