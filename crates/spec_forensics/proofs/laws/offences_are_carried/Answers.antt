use Rattle.spec_forensics.proofs.Carried.{all_carried}
use Rattle.spec_forensics.proofs.laws.offences_are_carried.Goals as goal

pub returns : goal.returns
returns c = λ votes count k d inside. all_carried votes count k d inside
