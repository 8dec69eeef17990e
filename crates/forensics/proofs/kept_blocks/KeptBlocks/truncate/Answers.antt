use Rattle.forensics.proofs.Kept.{cut_kept}
use Rattle.forensics.proofs.kept_blocks.KeptBlocks.truncate.Goals as goal

pub returns : goal.returns
returns c = cut_kept c.self.inside.entries.entries c.truncate.new.self.entries c.args.self.now c.args.len c.self.view_is c.truncate.ensures.entries
