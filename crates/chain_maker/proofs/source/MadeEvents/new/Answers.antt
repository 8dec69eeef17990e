-- A new maker's chain is short.
use Rattle.chain_maker.proofs.Sourced.{begun_short}
use Rattle.chain_maker.proofs.source.MadeEvents.new.Goals as goal

pub invariant_of-result : goal.invariant_of-result
invariant_of-result c = begun_short c.args.maker c.requires c.is_planned.ensures
