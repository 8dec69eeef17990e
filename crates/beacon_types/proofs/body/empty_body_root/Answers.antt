use Rattle.std.proofs.Common.{rules}
use Rattle.beacon_types.specs.Blocks.{empty_body_root}
use Rattle.beacon_types.proofs.body.empty_body_root.Goals as goal
use Prim.{search}

-- the roots of no value, and of empty lists within their limits
pub returns : goal.returns
unfolding empty_body_root
returns c = search rules
