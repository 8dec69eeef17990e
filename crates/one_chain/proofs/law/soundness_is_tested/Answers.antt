-- The law as it stands.
use Rattle.spec_fork_choice.proofs.Soundness as proofs
use Rattle.one_chain.proofs.law.soundness_is_tested.Goals as goal

pub returns : goal.returns
returns c = proofs.soundness_is_tested
