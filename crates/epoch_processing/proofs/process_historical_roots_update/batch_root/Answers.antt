-- The roots of the blocks stand before those of the states.
use Rattle.std.proofs.Common.{rules}
use Rattle.spec_epochs.specs.ProcessHistoricalRootsUpdate.{historical_batch, historical_batch_codec, historical_batch_fields}
use Rattle.epoch_processing.proofs.process_historical_roots_update.batch_root.Goals as goal

pub returns : goal.returns
unfolding historical_batch historical_batch_codec historical_batch_fields
returns c = search rules
