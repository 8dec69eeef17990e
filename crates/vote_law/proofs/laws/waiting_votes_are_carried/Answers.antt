-- Slots and blocks keep the attestations that wait backed.
use Rattle.std.proofs.Common.{◌++◌}
use Rattle.vote_law.specs.Backed.{Adding, AreAmong, votes_of}
use Rattle.vote_law.proofs.Backed.{backed_more}
use Rattle.vote_law.proofs.ListedVotes.{added_are_among}
use Rattle.vote_law.proofs.BackedSlots.{transition_backed}
use Rattle.vote_law.proofs.laws.waiting_votes_are_carried.Goals as goal

pub returns-clause-behind : goal.returns-clause-behind
returns-clause-behind c votes state signed_block config step is bounds low backed =
    let attestations = signed_block.message.body.attestations in
    backed_more (Adding (AreAmong votes) attestations step.state) (AreAmong (votes_of attestations step.state ++ votes)) step.state (added_are_among votes attestations step.state)
    (transition_backed (AreAmong votes) state signed_block config step is bounds low backed).0

pub returns-clause-entered : goal.returns-clause-entered
returns-clause-entered c votes state signed_block config step is bounds low backed = (transition_backed (AreAmong votes) state signed_block config step is bounds low backed).1
