-- The law as it stands.
use Rattle.duties.proofs.Members.{stand_once_in_duties}
use Rattle.duties.proofs.law.validators_stand_once.Goals as goal

pub returns : goal.returns
returns c = stand_once_in_duties
