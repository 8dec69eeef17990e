use Rattle.spec_slasher.proofs.Operations.{all_have}
use Rattle.spec_slasher.proofs.laws.offences_have_operations.Goals as goal

pub returns : goal.returns
returns c = λ genesis first second k d inside. all_have genesis first second k d inside
