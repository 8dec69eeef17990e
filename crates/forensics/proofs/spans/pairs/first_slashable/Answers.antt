use Rattle.std.proofs.Common.{◌∙◌, sym, arith}
use Rattle.forensics.specs.Pairs.{are_slashable_at}
use Rattle.forensics.proofs.Walks.{pair_next}
use Rattle.forensics.proofs.spans.pairs.first_slashable.Goals as goal

pub loop-i-preserved : goal.loop-i-preserved
loop-i-preserved c = sym (pair_next (are_slashable_at c.args.contents.now) c.args.votes.now c.loop-i.i (omega arith) (sym c.first_with.ensures ∙ c.in_default.is)) ∙ c.loop-i.invariant
