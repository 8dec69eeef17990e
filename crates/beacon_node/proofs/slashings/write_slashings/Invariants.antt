-- The frames in front were written.
use Rattle.std.proofs.Common.{drop}
use Rattle.std.specs.Prelude.{flat_map}
use Rattle.spec_replay.specs.Slasher.{slashing_frame}
use Rattle.one_chain.specs.inside.Texts.{WritesFront}
use Rattle.beacon_node.proofs.slashings.write_slashings.Given as goal

abbrev pub invariant-loop-slashing : goal.invariant-loop-slashing
invariant-loop-slashing g l = WritesFront (flat_map slashing_frame l.slashings) (flat_map slashing_frame (drop l.slashing-index l.slashings)) (g.O.Sink.told l.initial.out) (g.O.Sink.told l.out)
