use Rattle.std.proofs.Common.{map, take, length}
use Rattle.forensics.specs.Room.{AreReserved, IsSame}
use Rattle.forensics.proofs.spans.reserve.reserve_all.Given as goal

abbrev pub invariant-loop-attesters : goal.invariant-loop-attesters
invariant-loop-attesters l = record {
  same : IsSame l.fn.spans.items l.spans.items;
  room : AreReserved l.spans.items (length l.lists) (take l.attesters-index (map (λ x. x.items) l.lists));
}
