-- The slot before the state's isn't in a later epoch.
use Rattle.chain_maker.proofs.Committees.{epoch_before}
use Rattle.chain_maker.proofs.attestations.content_of.Goals as goal

pub block_root-requires : goal.block_root-requires
block_root-requires c = rw c.preset-preset.ensures.same (epoch_before c.args.state.now c.args.slot c.requires.calm c.requires.next)
