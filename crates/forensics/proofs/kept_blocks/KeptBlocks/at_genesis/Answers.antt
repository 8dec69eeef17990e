use Rattle.forensics.proofs.Kept.{first_kept}
use Rattle.forensics.proofs.kept_blocks.KeptBlocks.at_genesis.Goals as goal

pub returns : goal.returns
returns c = first_kept c.args.genesis.now c.new-entries.result.entries c.insert.new.self.entries c.header_root.result _ c.new-entries.ensures.empty c.in_ok-_none.ensures.entries c.header_root.ensures c.genesis_block-block.ensures c.of-state.ensures
