use Rattle.std.proofs.Common.{◌<◌, length, refl}
use Rattle.bc_outside.proofs.Onto.{disk_reads, length_handed, left_of-at, left_of-set}
use Rattle.bc_outside.proofs.disk.DiskShelf.read_file.Goals as goal

pub returns-clause-reads : goal.returns-clause-reads
returns-clause-reads g c =
    let within : c.args.file < length c.self.inside.opened.items = rw (← c.self.view_is, length_handed) at c.requires in
    rw (← c.self.view_is) (disk_reads c.args.file c.args.into.now c.read.new.into c.read.result _ _ c.index_mut-reader.result.now c.read.new.self within c.index_mut-reader.ensures.value refl refl c.read.ensures.within c.read.ensures.handed c.read.ensures.kept)

pub returns-clause-left : goal.returns-clause-left
returns-clause-left g c =
    let within : c.args.file < length c.self.inside.opened.items = rw (← c.self.view_is, length_handed) at c.requires in
    rw (← c.self.view_is, left_of-at c.self.inside.opened.items c.args.file c.index_mut-reader.result.now within c.index_mut-reader.ensures.value, left_of-set c.self.inside.opened.items c.args.file c.read.new.self within) c.read.ensures.left
