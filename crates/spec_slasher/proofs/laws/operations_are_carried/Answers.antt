use Rattle.spec_slasher.proofs.Evidence.{all_carried}
use Rattle.spec_slasher.proofs.laws.operations_are_carried.Goals as goal

pub returns : goal.returns
returns c = λ genesis first second k d inside. all_carried genesis first second k d inside
