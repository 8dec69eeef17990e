use Rattle.bc_outside.proofs.Onto.{disk_keeps, tried_causes}
use Rattle.bc_outside.proofs.Keeping.{agreed_reads, reads_length}
use Rattle.bc_outside.specs.inside.Disk.{disk_told}
use Rattle.bc_outside.proofs.disk.DiskShelfShelf.read.Goals as goal

pub returns-clause-keeps : goal.returns-clause-keeps
returns-clause-keeps g c = disk_keeps _ c.read_file.result c.args.self.now c.read_file.new.self c.read_file.ensures.tries (reads_length c.args.file c.args.into.now c.read_file.new.into c.read_file.result (disk_told c.args.self.now) (disk_told c.read_file.new.self) c.read_file.ensures.reads) (agreed_reads c.args.file c.args.into.now c.read_file.new.into c.read_file.result (disk_told c.args.self.now) (disk_told c.read_file.new.self) c.read_file.ensures.reads)

pub returns-clause-causes : goal.returns-clause-causes
returns-clause-causes g c = tried_causes c.read_file.result c.args.self.now.faults c.read_file.new.self.faults c.read_file.ensures.tries
