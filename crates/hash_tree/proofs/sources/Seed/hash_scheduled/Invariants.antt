-- The hashes written so far are those of the lanes.
use Rattle.std.proofs.Common.{◌≡◌, ℕ, ◌<◌, [], length, slice_index_or}
use Rattle.sha2.specs.Sha256.{digest_bytes}
use Rattle.hash_tree.specs.inside.Lanes.{variables}
use Rattle.hash_tree.proofs.sources.Seed.hash_scheduled.Given as goal

abbrev pub invariant-hashes : goal.invariant-hashes
invariant-hashes l = record {
  room : length l.out ≡ 8;
  so_far : (j : ℕ) → j < l.j → slice_index_or l.out j [] ≡ digest_bytes (variables j l.h) 8;
}
