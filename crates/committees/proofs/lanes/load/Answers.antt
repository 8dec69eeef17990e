use Rattle.std.proofs.lemmas.Simd.{get_or-chunk}
use Rattle.committees.proofs.lanes.load.Goals as goal

pub returns : goal.returns
returns c j less = get_or-chunk c.args.at 16 c.args.list.now j 0 less
