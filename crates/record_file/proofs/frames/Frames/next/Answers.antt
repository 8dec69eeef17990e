use Rattle.std.proofs.Common.{[]}
use Rattle.bc_outside.proofs.Keeping.{keeps_none, keeps_then}
use Rattle.bc_outside.proofs.Keeping.{takes_length}
use Rattle.record_file.proofs.Nexting.{next_after, next_stopped, moves_after, stops_after}
use Rattle.record_file.proofs.frames.Frames.next.Goals as goal

pub returns-in-Stopped-clause-nexts : goal.returns-in-Stopped-clause-nexts
returns-in-Stopped-clause-nexts g c = rw (← c.self.view_is, c.in-Stopped.is) (next_stopped c.self.inside.file c.self.inside.events c.in-Stopped.fault c.self.inside.buffer (g.F.Shelf.told c.args.shelf.now))

pub returns-in-Stopped-clause-keeps : goal.returns-in-Stopped-clause-keeps
returns-in-Stopped-clause-keeps g c = keeps_none (g.F.Shelf.told c.args.shelf.now)

pub read_frame-requires-clause-opened : goal.read_frame-requires-clause-opened
read_frame-requires-clause-opened g c = rw (c.read_magic.ensures.file, takes_length c.in-Ok.ensures.begins.2.1) c.requires

pub returns-in-Ok-clause-nexts : goal.returns-in-Ok-clause-nexts
returns-in-Ok-clause-nexts g c = next_after c.in-Ok.version c.read_frame.result c.args.self.now c.read_magic.new.self c.read_frame.new.self _ _ _ c.read_magic.ensures.file c.in-Ok.ensures.begins c.read_frame.ensures.nexts

pub returns-in-Ok-clause-keeps : goal.returns-in-Ok-clause-keeps
returns-in-Ok-clause-keeps g c = keeps_then [] [] c.read_magic.ensures.keeps c.read_frame.ensures.keeps

pub returns-in-Ok-clause-moves : goal.returns-in-Ok-clause-moves
returns-in-Ok-clause-moves g c = moves_after c.read_frame.result c.args.self.now c.read_magic.new.self c.read_frame.new.self c.in-Ok.ensures.begins.0 c.read_frame.ensures.moves

pub returns-in-Ok-clause-causes : goal.returns-in-Ok-clause-causes
returns-in-Ok-clause-causes g c = stops_after c.read_frame.result _ _ _ c.in-Ok.ensures.causes c.read_frame.ensures.causes
