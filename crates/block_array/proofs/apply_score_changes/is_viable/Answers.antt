use Rattle.std.proofs.Common.{cond, is_some, sym, ap, ◌∙◌}
use Rattle.block_array.specs.FilterBlockTree.{agrees}
use Rattle.block_array.proofs.apply_score_changes.is_viable.Goals as goal

pub returns-then-best : goal.returns-then-best
returns-then-best c = c.is_some.ensures ∙ sym (ap (λ b. cond b (is_some c.args.best.child) (agrees c.args.inputs.now.array c.args.node.now)) c.if-best.true)

pub returns-else-best : goal.returns-else-best
returns-else-best c = c.agrees.ensures ∙ sym (ap (λ b. cond b (is_some c.args.best.child) (agrees c.args.inputs.now.array c.args.node.now)) c.if-best.false)
