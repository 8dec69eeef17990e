-- The conflict of two links, and what their validators share.
use Rattle.ffg_law.specs.Links.{voted, links_of}
use Rattle.ffg_law.proofs.Finals.{finals_conflict_proof, third_of_conflict}
use Rattle.ffg_law.proofs.laws.finals_convict.Goals as goal

pub returns : goal.returns
returns c =
    third_of_conflict c.args.weights.now (voted c.args.first.now) (voted c.args.second.now) c.requires.first_thirds c.requires.second_thirds
    (finals_conflict_proof c.args.genesis (links_of (voted c.args.first.now)) (links_of (voted c.args.second.now)) c.args.first_final c.args.second_final
    c.requires.genesis_epoch c.requires.first_chain c.requires.second_chain c.requires.first_finalized c.requires.second_finalized c.requires.apart)
