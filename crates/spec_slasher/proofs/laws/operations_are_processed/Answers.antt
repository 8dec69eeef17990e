use Rattle.spec_slasher.proofs.Processed.{operation_processed, operation_for_nobody}
use Rattle.spec_slasher.proofs.laws.operations_are_processed.Goals as goal

pub returns-clause-some : goal.returns-clause-some
returns-clause-some c = λ genesis first second operation s proposer config listed state sound proposes held slashable.
    operation_processed genesis first second operation s proposer config listed state sound proposes held slashable

pub returns-clause-none : goal.returns-clause-none
returns-clause-none c = λ genesis first second operation s proposer config listed held none. operation_for_nobody genesis first second operation s proposer config listed held none
