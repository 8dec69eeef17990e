use Rattle.std.proofs.Common.{refl}
use Rattle.record_file.proofs.Parts.{part_of}
use Rattle.record_file.proofs.frames.Frames.give.Goals as goal

pub returns-in-Ended : goal.returns-in-Ended
returns-in-Ended c = record { given = rw c.in-Ended.is (refl, refl) }

pub returns-in-Fault : goal.returns-in-Fault
returns-in-Fault c = record { given = rw (c.in-Fault.is, ← c.self.view_is) (refl, refl) }

pub returns-in-Ok : goal.returns-in-Ok
returns-in-Ok c = record { given = rw (c.in-Frame.is, ← c.self.view_is, c.new.ensures, c.in-Ok.ensures.items, part_of 5 c.in-Frame.size _ _ c.as_slice.ensures, c.read.ensures) (refl, refl) }

pub returns-in-Err : goal.returns-in-Err
returns-in-Err c = record { given = rw c.in-Frame.is refl }
