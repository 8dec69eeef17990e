use Rattle.bc_outside.proofs.Onto.{disk_keeps, tried_causes}
use Rattle.bc_outside.proofs.Keeping.{agreed_opens, opens_length}
use Rattle.bc_outside.specs.inside.Disk.{disk_told}
use Rattle.bc_outside.proofs.disk.DiskShelfShelf.open.Goals as goal

pub returns-clause-keeps : goal.returns-clause-keeps
returns-clause-keeps g c = disk_keeps _ c.open_file.result c.args.self.now c.open_file.new.self c.open_file.ensures.tries (opens_length c.args.name.now c.open_file.result (disk_told c.args.self.now) (disk_told c.open_file.new.self) c.open_file.ensures.opens) (agreed_opens c.args.name.now c.open_file.result (disk_told c.args.self.now) (disk_told c.open_file.new.self) c.open_file.ensures.opens)

pub returns-clause-causes : goal.returns-clause-causes
returns-clause-causes g c = tried_causes c.open_file.result c.args.self.now.faults c.open_file.new.self.faults c.open_file.ensures.tries
