-- The place is that of the next epoch.
use Rattle.std.proofs.Common.{rules}
use Rattle.spec_epochs.specs.ProcessSlashingsReset.{process_slashings_reset}
use Rattle.epoch_processing.proofs.process_slashings_reset.process_slashings_reset.Goals as goal

pub returns : goal.returns
unfolding process_slashings_reset
returns c = search rules
