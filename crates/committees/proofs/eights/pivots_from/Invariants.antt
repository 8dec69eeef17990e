-- The pivots written so far are those of the rounds.
use Rattle.std.proofs.Common.{◌≡◌, ℕ, ◌+◌, ◌<◌, length, slice_index}
use Rattle.committees.specs.Shuffling.{pivot_of}
use Rattle.committees.proofs.eights.pivots_from.Given as goal

abbrev pub invariant-pivots : goal.invariant-pivots
invariant-pivots l = record {
  room : length l.pivots ≡ 8;
  so_far : (i : ℕ) → i < l.j → slice_index l.pivots i ≡ pivot_of l.seed (l.first + i) l.count;
}
