-- The lines of the slots in front were written.
use Rattle.std.proofs.Common.{◌-◌}
use Rattle.std.specs.Prelude.{flat_map}
use Rattle.std.specs.List.{range_with_len}
use Rattle.one_chain.specs.inside.Duties.{table_lines}
use Rattle.one_chain.specs.inside.Texts.{WritesFront}
use Rattle.one_chain.proofs.duty_lines.write_duties.Given as goal

abbrev pub invariant-loop-slot : goal.invariant-loop-slot
invariant-loop-slot g l = WritesFront (flat_map (table_lines l.duties) (range_with_len l.duties.first_slot l.slots)) (flat_map (table_lines l.duties) (range_with_len l.slot (l.slot-end - l.slot))) (g.O.Sink.told l.initial.out) (g.O.Sink.told l.out)
