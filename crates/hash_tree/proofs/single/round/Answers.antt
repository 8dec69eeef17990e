use Rattle.std.proofs.Common.{slice_index, ap}
use Rattle.sha2.specs.Sha256.{big_sigma1, ch}
use Rattle.hash_tree.proofs.SumOrder.{reordered, round_from}
use Rattle.hash_tree.proofs.single.round.Goals as goal

pub returns : goal.returns
returns c =
    let v = c.args.v in
    rw (c.choose.ensures, c.big_sigma1.ensures, c.big_sigma0.ensures, c.majority.ensures)
    (ap (round_from v) (reordered (slice_index v 7) (big_sigma1 (slice_index v 4)) (ch (slice_index v 4) (slice_index v 5) (slice_index v 6)) c.args.constant c.args.word))
