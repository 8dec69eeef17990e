-- The words written so far are the pair's.
use Rattle.std.proofs.Common.{◌≡◌, ℕ, ◌*◌, ◌<◌, ◌++◌, length, slice_index}
use Rattle.sha2.specs.Sha256.{word_at}
use Rattle.hash_tree.proofs.single.load.Given as goal

abbrev pub invariant-load : goal.invariant-load
invariant-load l = record {
  room : length l.w ≡ 16;
  so_far : (k : ℕ) → k < l.k → slice_index l.w k ≡ word_at (l.a ++ l.b) (4 * k);
}
