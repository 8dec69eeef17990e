-- The conditions of links are those of attestations.
use Rattle.ffg_law.proofs.Finals.{slashable_data}
use Rattle.ffg_law.proofs.laws.votes_are_slashable.Goals as goal

pub returns : goal.returns
returns c = slashable_data c.args.first.now c.args.second.now c.requires
