use Rattle.spec_slasher.proofs.Written.{all_read, all_small}
use Rattle.spec_slasher.proofs.laws.operations_are_written.Goals as goal

pub returns-clause-read : goal.returns-clause-read
returns-clause-read c = λ genesis first second readable k d inside. all_read genesis first second readable k d inside

pub returns-clause-size : goal.returns-clause-size
returns-clause-size c = λ genesis first second readable k d inside. all_small genesis first second readable k d inside
