-- The bytes are read from the last one to the first.
use Rattle.std.proofs.Common.{rules, arith}
use Rattle.committees.proofs.lanes.load_turned.Goals as goal

pub returns : goal.returns
returns c = search (rules, arith)
