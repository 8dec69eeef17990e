-- The hashes before the index are those of their pairs.
use Rattle.std.proofs.Common.{◌≡◌, ℕ, ◌<◌, [], length, slice_index_or}
use Rattle.sha2.specs.Sha256.{sha256}
use Rattle.hash_tree.specs.Pairs.{message}
use Rattle.hash_tree.proofs.pairs.hash_few.Given as goal

abbrev pub invariant-pairs : goal.invariant-pairs
invariant-pairs l = record {
  room : length l.out ≡ length l.pairs;
  so_far : (k : ℕ) → k < l.k → slice_index_or l.out k [] ≡ sha256 (message (slice_index_or l.pairs k []));
}
