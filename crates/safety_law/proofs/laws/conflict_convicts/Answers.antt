-- Where histories conflict, a third is convicted.
use Rattle.safety_law.proofs.Safety.{conflict_convicts}
use Rattle.safety_law.proofs.laws.conflict_convicts.Goals as goal

pub returns : goal.returns
returns c config genesis first second a b are a_final b_final conflict large a_stays b_stays =
    conflict_convicts config genesis first second a b are a_final b_final conflict large a_stays b_stays
