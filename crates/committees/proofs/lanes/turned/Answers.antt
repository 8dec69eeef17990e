use Rattle.std.proofs.Common.{arith}
use Rattle.std.proofs.lemmas.List.{get_or_append_left}
use Rattle.committees.proofs.SixteenLanes.{below_sixteen}
use Rattle.committees.proofs.lanes.turned.Goals as goal

pub returns : goal.returns
returns c = let same = get_or_append_left c.args.items c.args.items 0 in
    below_sixteen _ (same 15 (omega arith)) (same 14 (omega arith)) (same 13 (omega arith)) (same 12 (omega arith)) (same 11 (omega arith)) (same 10 (omega arith)) (same 9 (omega arith)) (same 8 (omega arith)) (same 7 (omega arith)) (same 6 (omega arith)) (same 5 (omega arith)) (same 4 (omega arith)) (same 3 (omega arith)) (same 2 (omega arith)) (same 1 (omega arith)) (same 0 (omega arith))
