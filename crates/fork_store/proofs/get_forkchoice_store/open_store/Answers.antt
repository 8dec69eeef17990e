-- The anchor is the genesis with its block.
use Rattle.fork_store.proofs.Anchors.{opens_alike}
use Rattle.fork_store.proofs.get_forkchoice_store.open_store.Goals as goal

pub returns : goal.returns
returns c = rw (opens_alike c.args.config.now c.args.genesis.now _ c.genesis_block-block.ensures) at c.open_at.ensures
