use Rattle.std.proofs.Common.{◌≡◌, ◌++◌, List, length, map, take, drop}
use Rattle.forensics.specs.Carried.{Carried, Holds, HasRoomFor}
use Rattle.forensics.specs.inside.BlockVotes.{carried_from}
use Rattle.forensics.proofs.block_votes.add_votes.Given as goal

abbrev pub invariant-loop-i : goal.invariant-loop-i
invariant-loop-i l = record {
  holds : (before : List Carried) → Holds l.fn.votes before → Holds l.votes (before ++ take l.i (carried_from l.which l.event l.root 0 l.attestations (map (λ x. x.items) l.lists)));
  room : HasRoomFor l.votes (drop l.i (map (λ x. x.items) l.lists));
  count : length l.votes.spans.spans ≡ length l.fn.votes.spans.spans;
}
