-- The lines in front were written.
use Rattle.std.proofs.Common.{drop}
use Rattle.std.specs.Prelude.{flat_map}
use Rattle.spec_replay.specs.OffenceLines.{offence_line}
use Rattle.one_chain.specs.inside.Texts.{WritesFront}
use Rattle.beacon_node.proofs.forensic.write_offences.Given as goal

abbrev pub invariant-loop-offence : goal.invariant-loop-offence
invariant-loop-offence g l = WritesFront (flat_map offence_line l.offences) (flat_map offence_line (drop l.offence-index l.offences)) (g.O.Sink.told l.initial.out) (g.O.Sink.told l.out)
