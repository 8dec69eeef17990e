use Rattle.spec_slasher.proofs.Processed.{operation_valid_first, operation_valid_second}
use Rattle.spec_slasher.proofs.laws.operations_are_valid.Goals as goal

pub returns-clause-first : goal.returns-clause-first
returns-clause-first c = λ genesis first second operation s listed held. operation_valid_first genesis first second operation s listed held

pub returns-clause-second : goal.returns-clause-second
returns-clause-second c = λ genesis first second operation s listed held. operation_valid_second genesis first second operation s listed held
