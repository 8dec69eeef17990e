use Rattle.std.proofs.Common.{◌-◌, arith}
use Rattle.std.proofs.lemmas.Simd.{shifts_fit_splat}
use Rattle.hash_tree.proofs.Lanes.{turns}
use Rattle.hash_tree.proofs.words.turn.Goals as goal

pub overflow_shr-result : goal.overflow_shr-result
overflow_shr-result g c = shifts_fit_splat 32 c.args.x g.row.N c.args.bits c.requires.1

pub overflow_shl-result : goal.overflow_shl-result
overflow_shl-result g c = shifts_fit_splat 32 c.args.x g.row.N (32 - c.args.bits) (omega arith)

pub returns : goal.returns
returns g c = turns g.row.N c.args.bits c.requires.0 c.requires.1 c.args.x c.fits-x.0
