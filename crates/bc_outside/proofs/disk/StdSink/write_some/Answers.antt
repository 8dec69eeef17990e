use Rattle.bc_outside.proofs.disk.StdSink.write_some.Goals as goal

pub returns-clause-writes : goal.returns-clause-writes
returns-clause-writes g c = rw (← c.self.view_is) (record { some = c.in-Ok-write.ensures.some; within = c.in-Ok-write.ensures.within; taken = rw c.reserve.ensures.items at c.see.ensures })
