use Rattle.spec_slasher.proofs.Taken.{all_taken}
use Rattle.spec_slasher.proofs.laws.operations_are_taken.Goals as goal

pub returns : goal.returns
returns c = λ genesis first second k d inside. all_taken genesis first second k d inside
