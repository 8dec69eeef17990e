-- An epoch's processing leaves the slot.
use Rattle.spec_epochs.proofs.Fixed.{epoch_slot}
use Rattle.transition.proofs.process_slots.end_epoch.Goals as goal

pub returns-clause-slot : goal.returns-clause-slot
returns-clause-slot g c = epoch_slot _ _ _ c.in_ok-process_epoch.ensures
