-- The links of both histories are such chains.
use Rattle.std.proofs.Common.{refl}
use Rattle.ffg_law.specs.Links.{links_of}
use Rattle.ffg_law.specs.Histories.{genesis_checkpoint, finalized_of, made_by}
use Rattle.ffg_law.proofs.Finals.{finals_conflict_proof, third_of_conflict}
use Rattle.ffg_law.proofs.Histories.{history_promises}
use Rattle.ffg_law.proofs.laws.a_third_is_convicted.Goals as goal

pub returns : goal.returns
returns c increment weights first second large first_history second_history first_final second_final apart =
    let one = history_promises increment weights large first first_history in
    let two = history_promises increment weights large second second_history in
    let made = made_by increment weights first in
    let other = made_by increment weights second in
    third_of_conflict weights made other one.thirds two.thirds
    (finals_conflict_proof genesis_checkpoint (links_of made) (links_of other) (finalized_of first) (finalized_of second)
    refl one.chain two.chain (one.final first_final) (two.final second_final) apart)
