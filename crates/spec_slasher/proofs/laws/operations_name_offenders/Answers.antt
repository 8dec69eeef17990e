use Rattle.spec_slasher.proofs.Operations.{common_offends, offender_named}
use Rattle.spec_slasher.proofs.laws.operations_name_offenders.Goals as goal

pub returns-clause-only : goal.returns-clause-only
returns-clause-only c = λ genesis first second index low named. common_offends genesis first second index low named

pub returns-clause-all : goal.returns-clause-all
returns-clause-all c = λ genesis first second index offends. offender_named genesis first second index offends
