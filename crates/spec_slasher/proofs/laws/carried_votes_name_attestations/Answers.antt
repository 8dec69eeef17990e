use Rattle.spec_slasher.proofs.Named.{carried_where_named, named_where_carried}
use Rattle.spec_slasher.proofs.One.{only_attestation}
use Rattle.spec_slasher.proofs.laws.carried_votes_name_attestations.Goals as goal

pub returns-clause-carried : goal.returns-clause-carried
returns-clause-carried c = λ genesis first second vote is. carried_where_named genesis first second vote is

pub returns-clause-named : goal.returns-clause-named
returns-clause-named c = λ genesis first second vote carried. named_where_carried genesis first second vote carried

pub returns-clause-only : goal.returns-clause-only
returns-clause-only c = λ genesis first second vote carried one other listed is. only_attestation genesis first second vote carried one other listed is
