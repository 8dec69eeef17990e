-- The words written so far are those of each source's schedule.
use Rattle.std.proofs.Common.{◌≡◌, ℕ, ◌^◌, ◌<◌, List, length, slice_index}
use Rattle.sha2.specs.Sha256.{schedule}
use Rattle.hash_tree.specs.inside.Lanes.{Common, lane_at, source_block}
use Rattle.hash_tree.proofs.sources.fill_near.Given as goal

abbrev pub invariant-load : goal.invariant-load
invariant-load l = record {
  room : length l.w ≡ 64;
  so_far : (j round page : ℕ) (seed : List ℕ) → j < 8 → page < 2 ^ 24 → Common seed l.common
      → slice_index l.heads j ≡ slice_index (schedule (source_block seed round page) 48) 8
      → (k : ℕ) → k < l.k → lane_at l.w k j ≡ slice_index (schedule (source_block seed round page) 48) k;
}
