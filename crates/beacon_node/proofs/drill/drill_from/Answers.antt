-- The run ends before its lines, or they are written, or some of them.
use Rattle.std.proofs.Common.{[]}
use Rattle.one_chain.specs.declared.status.Status.TheVariants as statuses
use Rattle.beacon_node.proofs.Drilled.{drill_over, wrote_all, wrote_not_all, wrote_out, wrote_well, writes_then, unwritten_is_no_fault_of_reading}
use Rattle.beacon_node.proofs.Forensics.{follows_outside}
use Rattle.beacon_node.proofs.drill.drill_from.Goals as goal

pub returns-in-Err-clause-over : goal.returns-in-Err-clause-over
returns-in-Err-clause-over g c = drill_over c.in-Err.status _ _ c.in-Err.ensures.told

pub returns-in-Ok-write_all-clause-over : goal.returns-in-Ok-write_all-clause-over
returns-in-Ok-write_all-clause-over g c = rw c.in-Ok.ensures.told (wrote_all _ _ _ (rw c.deref.ensures.value at c.in-Ok-write_all.ensures.writes))

pub returns-clause-over : goal.returns-clause-over
returns-clause-over g c = rw (c.unwritten.ensures, c.in-Ok.ensures.told) (wrote_not_all c.in-Err-write_all.trouble _ _ _ (rw c.deref.ensures.value at c.in-Err-write_all.ensures.writes))

pub returns-in-Err-clause-outside : goal.returns-in-Err-clause-outside
returns-in-Err-clause-outside g c = follows_outside [] [] c.in-Err.status c.in-Err.ensures.outside

pub returns-in-Ok-write_all-clause-outside : goal.returns-in-Ok-write_all-clause-outside
returns-in-Ok-write_all-clause-outside g c = writes_then statuses.Done _ c.in-Ok.ensures.outside (wrote_well statuses.Done _ _ (λ is. cc) (λ is. cc) c.write_all.ensures.keeps) (λ is. cc)

pub returns-clause-outside : goal.returns-clause-outside
returns-clause-outside g c =
    rw c.unwritten.ensures (writes_then _ _ c.in-Ok.ensures.outside (wrote_out c.in-Err-write_all.trouble _ _ c.in-Err-write_all.ensures.causes c.write_all.ensures.keeps) (unwritten_is_no_fault_of_reading c.in-Err-write_all.trouble))
