use Rattle.block_operations.proofs.Registry.{nobody}
use Rattle.block_operations.proofs.pubkey_index.PubkeyIndex.of.Goals as goal

pub loop-index-init : goal.loop-index-init
loop-index-init c = nobody _ c.new.ensures.empty
