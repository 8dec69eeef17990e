use Rattle.std.proofs.Common.{◌∙◌, List, ap}
use Rattle.spec_fork_choice.specs.Store.{KeptBlock}
use Rattle.fork_store.specs.Arrays.{node_number}
use Rattle.fork_store.specs.Keepers.{kept_blocks}
use Rattle.fork_store.proofs.Finds.{numbered}
use Rattle.fork_store.proofs.kept_blocks.KeptBlocks.node_number.Goals as goal

pub returns : goal.returns
returns c =
    c.get_index_of.ensures.index
    ∙ numbered (kept_blocks c.self.inside.seen.value.blocks) c.self.inside.roots.keys c.args.root c.self.invariant.0
    ∙ ap (λ (blocks : List KeptBlock). node_number blocks c.args.root) c.self.view_is
