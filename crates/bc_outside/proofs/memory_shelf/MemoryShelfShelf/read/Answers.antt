use Rattle.std.proofs.Common.{arith}
use Rattle.bc_outside.specs.Memory.{ReadsIn}
use Rattle.bc_outside.proofs.Shelved.{at_left, read_causes, read_keeps, causes_later, length_map}
use Rattle.bc_outside.proofs.memory_shelf.MemoryShelfShelf.read.Goals as goal

pub returns-clause-causes : goal.returns-clause-causes
returns-clause-causes c =
    let w = at_left c.args.self.now.opened c.args.file (λ left. ReadsIn c.args.file c.args.into.now c.read_file.new.into c.read_file.result left c.args.self.now c.read_file.new.self) (rw length_map at c.requires) c.read_file.ensures.exact in
    read_causes c.args.file c.args.into.now c.read_file.new.into w.0 c.args.self.now c.read_file.new.self c.read_file.result (omega (arith, c.read_file.ensures.fits)) w.2

pub returns-clause-keeps : goal.returns-clause-keeps
returns-clause-keeps c =
    let w = at_left c.args.self.now.opened c.args.file (λ left. ReadsIn c.args.file c.args.into.now c.read_file.new.into c.read_file.result left c.args.self.now c.read_file.new.self) (rw length_map at c.requires) c.read_file.ensures.exact in
    let causes = read_causes c.args.file c.args.into.now c.read_file.new.into w.0 c.args.self.now c.read_file.new.self c.read_file.result (omega (arith, c.read_file.ensures.fits)) w.2 in
    read_keeps c.args.file c.args.into.now c.read_file.new.into w.0 c.args.self.now c.read_file.new.self c.read_file.result w.2 (causes_later c.read_file.result _ _ causes) c.read_file.ensures.reads c.read_file.ensures.held.1
