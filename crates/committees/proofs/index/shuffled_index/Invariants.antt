use Rattle.std.proofs.Common.{◌≡◌, ◌-◌, ◌%◌, ◌<◌, ◌≤◌}
use Rattle.committees.specs.Shuffling.{compute_shuffled_index}
use Rattle.committees.proofs.index.shuffled_index.Given as goal

abbrev pub invariant-loop-round : goal.invariant-loop-round
invariant-loop-round l = record {
  fits : l.round ≤ l.rounds;
  eights : l.round < l.rounds → l.round % 8 ≡ 0;
  place : l.place ≡ compute_shuffled_index l.round l.index l.count l.seed;
  below : l.place < l.count;
}

abbrev pub decreases-loop-round : goal.decreases-loop-round
decreases-loop-round l = l.rounds - l.round
