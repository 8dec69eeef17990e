-- The attestations were rotated.
use Rattle.std.proofs.Common.{rules}
use Rattle.spec_epochs.specs.ProcessParticipationRecordUpdates.{process_participation_record_updates}
use Rattle.epoch_processing.proofs.process_participation_record_updates.process_rotation.Goals as goal

pub returns : goal.returns
unfolding process_participation_record_updates
returns c = search rules
