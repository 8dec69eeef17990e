-- The words written so far are those of each lane's schedule.
use Rattle.std.proofs.Common.{◌≡◌, ℕ, ◌^◌, ◌<◌, List, length, slice_index}
use Rattle.sha2.specs.Sha256.{schedule}
use Rattle.hash_tree.specs.inside.Lanes.{Ahead, lane_at, source_block}
use Rattle.hash_tree.proofs.rounds.expand_near.Given as goal

abbrev pub invariant-words : goal.invariant-words
invariant-words l = record {
  room : length l.w ≡ 64;
  so_far : (j round page : ℕ) (seed : List ℕ) → j < 8 → page < 2 ^ 24 → Ahead seed l.sums
      → ((k : ℕ) → k < 23 → lane_at l.initial.w k j ≡ slice_index (schedule (source_block seed round page) 48) k)
      → (k : ℕ) → k < l.t → lane_at l.w k j ≡ slice_index (schedule (source_block seed round page) 48) k;
}
