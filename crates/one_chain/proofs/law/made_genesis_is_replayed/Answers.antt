-- The law as it stands.
use Rattle.one_chain.proofs.MakingGenesis.{is_replayed}
use Rattle.one_chain.proofs.law.made_genesis_is_replayed.Goals as goal

pub returns : goal.returns
returns c = is_replayed
