-- The lines in front were written.
use Rattle.std.proofs.Common.{drop}
use Rattle.std.specs.Prelude.{◌==◌, filter, flat_map}
use Rattle.spec_replay.specs.Duties.{proposer_line}
use Rattle.one_chain.specs.inside.Texts.{WritesFront}
use Rattle.one_chain.proofs.duty_lines.write_proposers.Given as goal

abbrev pub invariant-loop-duty : goal.invariant-loop-duty
invariant-loop-duty g l = WritesFront (flat_map proposer_line (filter (λ duty. duty.slot == l.slot) l.proposers)) (flat_map proposer_line (filter (λ duty. duty.slot == l.slot) (drop l.duty-index l.proposers))) (g.O.Sink.told l.initial.out) (g.O.Sink.told l.out)
