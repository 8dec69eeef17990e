-- A vote is late where its slot lies more than an epoch back.
use Rattle.std.proofs.Common.{◌<◌, rules}
use Rattle.spec_blocks.specs.ProcessAttestation.{check_times}
use Rattle.block_operations.proofs.process_attestation.check_times.Goals as goal

pub returns-then-branch-slot-clause-exact : goal.returns-then-branch-slot-clause-exact
unfolding check_times
returns-then-branch-slot-clause-exact c =
    let late : _ < c.slot-2.result = c.if-branch-slot.true in
    search rules
