-- The split ends the run, or its lines stand behind the others.
use Rattle.std.proofs.Common.{[]}
use Rattle.beacon_node.proofs.Forensics.{ended_outside, made_outside, memory_outside}
use Rattle.beacon_node.proofs.drill.with_split_lines.Goals as goal

pub returns-in-Ok-extend_from_slice-clause-told : goal.returns-in-Ok-extend_from_slice-clause-told
returns-in-Ok-extend_from_slice-clause-told g c = (c.in-Ok.more.items, c.in-Ok.ensures.told, rw c.deref.ensures.value at c.in-Ok-extend_from_slice.ensures.items)

pub returns-in-Ok-extend_from_slice-clause-outside : goal.returns-in-Ok-extend_from_slice-clause-outside
returns-in-Ok-extend_from_slice-clause-outside g c = made_outside [] _ _ c.in-Ok.ensures.outside

pub returns-in-Err-extend_from_slice-clause-outside : goal.returns-in-Err-extend_from_slice-clause-outside
returns-in-Err-extend_from_slice-clause-outside g c = memory_outside [] _ c.in-Ok.ensures.outside

pub returns-in-Err-clause-outside : goal.returns-in-Err-clause-outside
returns-in-Err-clause-outside g c = ended_outside [] c.in-Err.status c.in-Err.ensures.outside
