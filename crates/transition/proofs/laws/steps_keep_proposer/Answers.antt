use Rattle.spec_blocks.proofs.ProposerStays.{header_keeps_proposer, randao_keeps_proposer, eth1_data_keeps_proposer, proposer_slashing_keeps_proposer, attester_slashing_keeps_proposer, attestation_keeps_proposer, deposit_keeps_proposer, voluntary_exit_keeps_proposer}
use Rattle.transition.proofs.laws.steps_keep_proposer.Goals as goal

pub returns-clause-header : goal.returns-clause-header
returns-clause-header c = header_keeps_proposer

pub returns-clause-randao : goal.returns-clause-randao
returns-clause-randao c = randao_keeps_proposer

pub returns-clause-eth1_data : goal.returns-clause-eth1_data
returns-clause-eth1_data c = eth1_data_keeps_proposer

pub returns-clause-proposer_slashing : goal.returns-clause-proposer_slashing
returns-clause-proposer_slashing c = proposer_slashing_keeps_proposer

pub returns-clause-attester_slashing : goal.returns-clause-attester_slashing
returns-clause-attester_slashing c = attester_slashing_keeps_proposer

pub returns-clause-attestation : goal.returns-clause-attestation
returns-clause-attestation c = attestation_keeps_proposer

pub returns-clause-deposit : goal.returns-clause-deposit
returns-clause-deposit c = deposit_keeps_proposer

pub returns-clause-voluntary_exit : goal.returns-clause-voluntary_exit
returns-clause-voluntary_exit c = voluntary_exit_keeps_proposer
