use Rattle.std.proofs.Common.{◌≡◌, ℕ, ◌-◌, ◌%◌, ◌/◌, ◌<◌, ◌≤◌, [], length, slice_index_or}
use Rattle.committees.specs.Shuffling.{after_round, source_of}
use Rattle.committees.specs.inside.Pass.{Passed}
use Rattle.committees.proofs.list.swap_mirror_images.Given as goal

abbrev pub invariant-loop-position : goal.invariant-loop-position
invariant-loop-position l = record {
  from : l.middle ≤ l.position;
  to : l.position ≤ l.end;
  pages : l.middle < l.position → 0 < l.position % 2048 → (k : ℕ) → k / 8 ≡ l.position / 2048 → slice_index_or l.pages (k % 8) [] ≡ source_of l.seed l.round k;
  long : length l.list ≡ length l.fn.list;
  passed : Passed (after_round l.seed l.round (length l.fn.list)) l.sum l.middle l.position l.fn.list l.list;
}

abbrev pub decreases-loop-position : goal.decreases-loop-position
decreases-loop-position l = l.end - l.position
