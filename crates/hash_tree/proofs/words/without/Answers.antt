use Rattle.hash_tree.proofs.Lanes.{lacks}
use Rattle.hash_tree.proofs.words.without.Goals as goal

pub returns : goal.returns
returns g c = lacks g.row.N c.args.a c.args.b c.fits-a.0 c.fits-b.0
