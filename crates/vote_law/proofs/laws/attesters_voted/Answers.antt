-- The attesters of a state whose attestations are backed are voters.
use Rattle.spec_state.specs.Accessors.{get_previous_epoch}
use Rattle.spec_epochs.specs.WeighJustificationAndFinalization.{justification_of}
use Rattle.vote_law.specs.Backed.{AreAmong}
use Rattle.vote_law.proofs.Voters.{current_voted, previous_voted}
use Rattle.vote_law.proofs.laws.attesters_voted.Goals as goal

pub returns-clause-previous : goal.returns-clause-previous
unfolding get_previous_epoch justification_of
returns-clause-previous c votes genesis state after attester bounds late steady backed attests = previous_voted (AreAmong votes) genesis state attester bounds late steady.previous backed attests

pub returns-clause-current : goal.returns-clause-current
unfolding justification_of
returns-clause-current c votes genesis state after attester bounds steady backed attests = current_voted (AreAmong votes) genesis state attester bounds steady.current backed attests
