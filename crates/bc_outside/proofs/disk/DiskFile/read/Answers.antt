use Rattle.bc_outside.proofs.disk.DiskFile.read.Goals as goal

pub returns-clause-left : goal.returns-clause-left
returns-clause-left g c = rw (← c.self.view_is) c.in-Ok-read.ensures.bytes
