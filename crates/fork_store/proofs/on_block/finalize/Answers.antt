-- Both checkpoints are taken.
use Rattle.std.proofs.Common.{rules}
use Rattle.fork_store.specs.inside.Accepted.{finalized_by}
use Rattle.fork_store.proofs.on_block.finalize.Goals as goal

pub returns-then-finalized : goal.returns-then-finalized
unfolding finalized_by
returns-then-finalized c = search rules
