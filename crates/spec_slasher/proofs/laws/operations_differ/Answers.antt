use Rattle.spec_slasher.proofs.Operations.{all_differ}
use Rattle.spec_slasher.proofs.laws.operations_differ.Goals as goal

pub returns : goal.returns
returns c = λ genesis first second i j d less low. all_differ genesis first second i j d less low
