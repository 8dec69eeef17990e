use Rattle.std.proofs.Common.{◌≡◌, drop}
use Rattle.spec_blocks.specs.Checks.{each_of}
use Rattle.spec_blocks.specs.ProcessAttesterSlashing.{in_both, slash_slashable}
use Rattle.block_operations.specs.inside.Slashed.{slashed}
use Rattle.block_operations.proofs.process_attester_slashing.slash_each.Given as goal

abbrev pub invariant-loop-index : goal.invariant-loop-index
invariant-loop-index l =
    let step = slash_slashable l.proposer l.config in
    each_of step (slashed l.state l.slashed_any) (in_both (drop l.index-index l.first) l.second) ≡ each_of step (slashed l.fn.state l.fn.slashed_any) (in_both l.first l.second)
