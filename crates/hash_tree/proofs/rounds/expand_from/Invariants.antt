-- The words written so far are those of each lane's schedule.
use Rattle.std.proofs.Common.{◌≡◌, ℕ, ◌<◌, List, length, slice_index}
use Rattle.sha2.specs.Sha256.{schedule}
use Rattle.hash_tree.specs.inside.Lanes.{lane_at}
use Rattle.hash_tree.proofs.rounds.expand_from.Given as goal

abbrev pub invariant-words : goal.invariant-words
invariant-words g l = record {
  room : length l.w ≡ 64;
  so_far : (j : ℕ) (b : List ℕ) → j < g.row.N → ((k : ℕ) → k < l.from → lane_at l.initial.w k j ≡ slice_index (schedule b 48) k) → (k : ℕ) → k < l.t → lane_at l.w k j ≡ slice_index (schedule b 48) k;
}
