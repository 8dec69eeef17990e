-- What the checks read is that of the state without the votes.
use Rattle.std.proofs.Common.{rules}
use Rattle.spec_blocks.specs.ProcessAttestation.{process_attestation}
use Rattle.block_operations.proofs.WithVotes.{same_times, same_committee, same_attested}
use Rattle.block_operations.proofs.process_attestation.process_counted_attestation.Goals as goal

pub returns-in_err-check_times-clause-step : goal.returns-in_err-check_times-clause-step
unfolding process_attestation
returns-in_err-check_times-clause-step c = rw (same_times c.args.state.now c.args.votes.now c.args.rooted.now.content) (search rules)

pub take_vote-requires-clause-times : goal.take_vote-requires-clause-times
take_vote-requires-clause-times c = rw (same_times c.args.state.now c.args.votes.now c.args.rooted.now.content) (search rules)

pub take_vote-requires-clause-attested : goal.take_vote-requires-clause-attested
take_vote-requires-clause-attested c =
    rw (same_committee c.args.state.now c.args.votes.now c.args.rooted.now.content c.args.rooted.now.aggregation_bits) (rw (same_attested c.args.state.now c.args.votes.now c.args.rooted.now) (search rules))
