use Rattle.std.proofs.Common.{◌≡◌, drop}
use Rattle.spec_blocks.specs.Checks.{each_of}
use Rattle.block_operations.specs.WithVotes.{with_votes, HasRoom}
use Rattle.transition.specs.inside.Operations.{by_attestation}
use Rattle.transition.proofs.process_operations.each_attestation.Given as goal

abbrev pub invariant-loop-voted : goal.invariant-loop-voted
invariant-loop-voted l = record {
  room : HasRoom l.state l.votes;
  left : each_of (by_attestation l.proposer) (with_votes l.state l.votes) (drop l.voted-index l.attestations) ≡ each_of (by_attestation l.proposer) (with_votes l.state l.fn.votes) l.attestations;
}
