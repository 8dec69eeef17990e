use Rattle.spec_transition.proofs.HeaderChecks.{checks_hold}
use Rattle.transition.proofs.state_transition.header_checks_hold.Goals as goal

pub returns : goal.returns
returns c = checks_hold
