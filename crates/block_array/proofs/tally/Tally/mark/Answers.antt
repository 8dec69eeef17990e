use Rattle.std.proofs.Common.{◌<◌, length, sym, subst}
use Rattle.block_array.specs.inside.Counts.{Counts}
use Rattle.block_array.proofs.Counting.{tally_marked}
use Rattle.block_array.proofs.tally.Tally.mark.Goals as goal

pub invariant_of-self : goal.invariant_of-self
invariant_of-self c = tally_marked _ _ _ c.self.invariant c.args.validator c.index-old.result.now (subst (λ (v : Counts). c.args.validator < length v.validators) (sym c.self.view_is) c.requires) c.index-old.ensures
