-- The argument over links.
use Rattle.ffg_law.proofs.Finals.{finals_conflict_proof}
use Rattle.ffg_law.proofs.laws.finals_conflict.Goals as goal

pub returns : goal.returns
returns c =
    finals_conflict_proof c.args.genesis c.args.first.now c.args.second.now c.args.first_final c.args.second_final
    c.requires.genesis_epoch c.requires.first_chain c.requires.second_chain c.requires.first_finalized c.requires.second_finalized c.requires.apart
