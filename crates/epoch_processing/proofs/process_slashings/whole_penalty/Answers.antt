-- The numerator is divided before it is multiplied.
use Rattle.epoch_processing.proofs.process_slashings.whole_penalty.Goals as goal

pub returns : goal.returns
returns c = c.checked_mul.ensures
