use Rattle.std.proofs.Common.{◌≡◌, ◌≤◌, ◌-◌}
use Rattle.hash_tree.specs.Merkle.{depth_of, depth_from}
use Rattle.hash_tree.proofs.depth.depth_of.Given as goal

abbrev pub invariant-loop-depth : goal.invariant-loop-depth
invariant-loop-depth l = record { within : l.depth ≤ 40; so_far : depth_from (40 - l.depth) l.depth l.limit ≡ depth_of l.limit }

abbrev pub decreases-loop-depth : goal.decreases-loop-depth
decreases-loop-depth l = 40 - l.depth
