-- The record is written, or memory ran out.
use Rattle.std.proofs.Common.{◌∙◌, sym}
use Rattle.beacon_node.proofs.Found.{wrote_all}
use Rattle.one_chain.proofs.Whole.{text_concludes}
use Rattle.beacon_node.proofs.slashings.tell_slashings.Goals as goal

pub returns-in-Ok-clause-told : goal.returns-in-Ok-clause-told
returns-in-Ok-clause-told g c = rw c.written.ensures (text_concludes _ c.write_record.result (rw (c.deref.ensures.value, c.in-Ok.ensures.exact) at c.write_record.ensures))

pub returns-in-Ok-clause-slashings : goal.returns-in-Ok-clause-slashings
returns-in-Ok-clause-slashings g c = λ is. wrote_all c.write_record.result _ _ _ (sym c.written.ensures ∙ is) (rw (c.deref.ensures.value, c.in-Ok.ensures.exact) at c.write_record.ensures)
