use Rattle.forensics.proofs.Kept.{many_kept}
use Rattle.forensics.proofs.kept_blocks.KeptBlocks.len.Goals as goal

pub returns : goal.returns
returns c = many_kept c.self.inside.entries.entries c.args.self.now c.len.result c.self.view_is c.len.ensures.len
