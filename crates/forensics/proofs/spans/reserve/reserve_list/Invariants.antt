use Rattle.std.proofs.Common.{take}
use Rattle.forensics.specs.Room.{IsReserved, IsSame}
use Rattle.forensics.proofs.spans.reserve.reserve_list.Given as goal

abbrev pub invariant-loop-validator : goal.invariant-loop-validator
invariant-loop-validator l = record {
  same : IsSame l.fn.spans.items l.spans.items;
  room : IsReserved l.spans.items l.count (take l.validator-index l.attesters);
}
