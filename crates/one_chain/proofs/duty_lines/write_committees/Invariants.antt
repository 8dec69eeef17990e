-- The lines in front were written.
use Rattle.std.proofs.Common.{◌-◌}
use Rattle.std.specs.Prelude.{flat_map}
use Rattle.duties.specs.Duties.{table_committees}
use Rattle.spec_replay.specs.Duties.{committee_line}
use Rattle.one_chain.specs.inside.Texts.{WritesFront}
use Rattle.one_chain.proofs.DutyLines.{committee_lines_from}
use Rattle.one_chain.proofs.duty_lines.write_committees.Given as goal

abbrev pub invariant-loop-index : goal.invariant-loop-index
invariant-loop-index g l = WritesFront (flat_map committee_line (table_committees l.committees l.slot)) (committee_lines_from l.committees l.slot l.index (l.index-end - l.index)) (g.O.Sink.told l.initial.out) (g.O.Sink.told l.out)
