-- The words written so far are those of their pairs.
use Rattle.std.proofs.Common.{◌≡◌, ℕ, ◌*◌, ◌<◌, [], length, slice_index, slice_index_or}
use Rattle.sha2.specs.Sha256.{word_at}
use Rattle.hash_tree.specs.Pairs.{message}
use Rattle.hash_tree.proofs.vectors.words.Given as goal

abbrev pub invariant-lanes : goal.invariant-lanes
invariant-lanes g l = record {
  room : length l.lanes ≡ g.row.N;
  so_far : (i : ℕ) → i < l.j → slice_index l.lanes i ≡ word_at (message (slice_index_or l.pairs i [])) (4 * l.place);
  long : (i : ℕ) → i < l.j → length (message (slice_index_or l.pairs i [])) ≡ 64;
}
