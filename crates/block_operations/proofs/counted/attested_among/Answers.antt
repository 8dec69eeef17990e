-- There are as many bits as members, and somebody attested where one is set.
use Rattle.std.proofs.Common.{rules}
use Rattle.block_operations.proofs.counted.attested_among.Goals as goal

pub returns : goal.returns
returns c = search rules
