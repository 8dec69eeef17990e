use Rattle.std.proofs.lemmas.Simd.{shifts_fit_splat}
use Rattle.hash_tree.proofs.Lanes.{shifts}
use Rattle.hash_tree.proofs.words.shift.Goals as goal

pub overflow_shr-result : goal.overflow_shr-result
overflow_shr-result g c = shifts_fit_splat 32 c.args.x g.row.N c.args.bits c.requires

pub returns : goal.returns
returns g c = shifts g.row.N c.args.bits c.args.x c.fits-x.0
