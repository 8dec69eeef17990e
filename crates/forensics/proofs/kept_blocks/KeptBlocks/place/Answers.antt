use Rattle.forensics.proofs.Kept.{at_number, at_end}
use Rattle.forensics.proofs.kept_blocks.KeptBlocks.place.Goals as goal

pub returns-in-Some : goal.returns-in-Some
returns-in-Some c = at_number c.self.inside.entries.entries c.args.self.now c.args.root c.in-Some.place c.self.view_is c.in-Some.ensures.index

pub returns-in-None : goal.returns-in-None
returns-in-None c = at_end c.self.inside.entries.entries c.args.self.now c.args.root c.len.result c.self.view_is c.in-None.ensures.index c.len.ensures.len
