-- A checked sum over ascending indices.
use Rattle.ffg_law.proofs.Totals.{total_is}
use Rattle.ffg_law.proofs.laws.totals_are_weights.Goals as goal

pub returns : goal.returns
returns c = total_is
