use Rattle.std.proofs.Common.{refl}
use Rattle.bc_outside.proofs.memory_shelf.MemoryShelf.read_file.Goals as goal

pub invariant_of-self : goal.invariant_of-self
invariant_of-self c = (c.self.invariant.0, c.take_from.ensures.held c.self.inside.files.items c.self.invariant.1)

pub returns-clause-reads : goal.returns-clause-reads
returns-clause-reads c = rw (← c.self.view_is) (record { within = c.take_from.ensures.within; taken = record { files = c.take_from.ensures.told; asked = refl } })

pub returns-clause-held : goal.returns-clause-held
returns-clause-held c = rw (← c.self.view_is) (c.self.invariant.1, c.take_from.ensures.held c.self.inside.files.items c.self.invariant.1)
