-- The words written so far are those of the first lane.
use Rattle.std.proofs.Common.{◌≡◌, ℕ, ◌<◌, length, slice_index}
use Rattle.hash_tree.specs.inside.Lanes.{lane_at}
use Rattle.hash_tree.proofs.sources.first_words.Given as goal

abbrev pub invariant-words : goal.invariant-words
invariant-words l = record {
  room : length l.words ≡ 23;
  so_far : (i : ℕ) → i < l.k → slice_index l.words i ≡ lane_at l.w i 0;
}
