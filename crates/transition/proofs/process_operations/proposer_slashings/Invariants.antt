use Rattle.std.proofs.Common.{◌≡◌, drop}
use Rattle.spec_blocks.specs.Checks.{each_of}
use Rattle.transition.specs.inside.Operations.{by_proposer_slashing}
use Rattle.transition.proofs.process_operations.proposer_slashings.Given as goal

abbrev pub invariant-loop-slashing : goal.invariant-loop-slashing
invariant-loop-slashing l = each_of (by_proposer_slashing l.proposer l.config) l.state (drop l.slashing-index l.slashings) ≡ each_of (by_proposer_slashing l.proposer l.config) l.fn.state l.slashings
