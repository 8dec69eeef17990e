use Rattle.std.proofs.Common.{slice_index}
use Rattle.std.proofs.lemmas.List.{get_or-replicate}
use Rattle.sha2.specs.Sha256.{big_sigma1}
use Rattle.hash_tree.proofs.SumOrder.{reordered}
use Rattle.hash_tree.proofs.rounds.first_sum.Goals as goal

pub returns : goal.returns
returns g c j less =
    rw (c.add.ensures j less, c.add-near.ensures j less, c.add-begun.ensures j less, c.add-ready.ensures j less, c.big_sigma1-turned.ensures j less, get_or-replicate g.row.N j c.args.constant 0 less)
    (reordered (slice_index c.args.h j) (big_sigma1 (slice_index c.args.e j)) (slice_index c.args.chosen j) c.args.constant (slice_index c.args.word j))
