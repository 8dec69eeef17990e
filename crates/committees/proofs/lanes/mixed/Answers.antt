use Rattle.std.proofs.Common.{arith}
use Rattle.committees.proofs.SixteenLanes.{chosen}
use Rattle.committees.proofs.lanes.mixed.Goals as goal

pub returns : goal.returns
returns c = chosen c.args.bits c.bytes_of.result c.bytes_of.ensures.long c.bytes_of.ensures.low c.bytes_of.ensures.high c.args.one c.args.other (omega arith) (omega arith)
