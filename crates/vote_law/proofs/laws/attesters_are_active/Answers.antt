-- Members of committees are active.
use Rattle.vote_law.proofs.Members.{attester_is_active}
use Rattle.vote_law.proofs.laws.attesters_are_active.Goals as goal

pub returns : goal.returns
returns c state content bits attester bounds few attests = attester_is_active state content bits attester bounds few attests
