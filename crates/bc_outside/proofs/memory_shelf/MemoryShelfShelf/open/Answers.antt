use Rattle.std.proofs.Common.{arith}
use Rattle.bc_outside.specs.Calls.{FailsOnlyBy}
use Rattle.bc_outside.proofs.Shelved.{opens_of, open_causes, open_keeps, causes_later}
use Rattle.bc_outside.proofs.memory_shelf.MemoryShelfShelf.open.Goals as goal

pub returns-clause-opens : goal.returns-clause-opens
returns-clause-opens c = opens_of c.args.name.now c.args.self.now c.open_file.new.self c.open_file.result c.open_file.ensures.exact

pub returns-clause-keeps : goal.returns-clause-keeps
returns-clause-keeps c =
    let causes : FailsOnlyBy c.open_file.result c.args.self.now.faults c.open_file.new.self.faults = open_causes c.args.name.now c.args.self.now c.open_file.new.self c.open_file.result (omega (arith, c.open_file.ensures.fits)) c.open_file.ensures.exact in
    open_keeps c.args.name.now c.args.self.now c.open_file.new.self c.open_file.result c.open_file.ensures.exact (causes_later c.open_file.result _ _ causes) c.open_file.ensures.held
