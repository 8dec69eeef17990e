use Rattle.spec_slasher.proofs.Held.{all_held}
use Rattle.spec_slasher.proofs.laws.operations_are_held.Goals as goal

pub returns : goal.returns
returns c = λ genesis first second s longer k d inside. all_held genesis first second s longer k d inside
