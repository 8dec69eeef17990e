-- The roots of a slot stand at the remainder of the slot.
use Rattle.transition.proofs.process_slot.root_index.Goals as goal

pub returns-clause-index : goal.returns-clause-index
returns-clause-index c = cc
