-- The low byte of a length comes first.
use Rattle.std.proofs.Common.{arith}
use Rattle.record_file.proofs.found.length_in.Goals as goal

pub returns : goal.returns
returns c = omega arith
