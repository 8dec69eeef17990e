-- The parts of an epoch's end behind the registry, one after another.
use Rattle.bc_words.specs.Outcome.{Outcome, done, ◌>>=◌}
use Rattle.spec_state.specs.declared.plain.PlainState.{PlainState}
use Rattle.spec_epochs.specs.ProcessSlashings.{process_slashings}
use Rattle.spec_epochs.specs.ProcessEth1DataReset.{process_eth1_data_reset}
use Rattle.spec_epochs.specs.ProcessEffectiveBalanceUpdates.{process_effective_balance_updates}
use Rattle.spec_epochs.specs.ProcessSlashingsReset.{process_slashings_reset}
use Rattle.spec_epochs.specs.ProcessRandaoMixesReset.{process_randao_mixes_reset}
use Rattle.spec_epochs.specs.ProcessHistoricalRootsUpdate.{process_historical_roots_update}
use Rattle.spec_epochs.specs.ProcessParticipationRecordUpdates.{process_participation_record_updates}

-- from the resets on, which nothing but a full list of roots stops
unfoldable pub resets : PlainState → Outcome PlainState
resets state = do
  rooted ← process_historical_roots_update (process_randao_mixes_reset (process_slashings_reset state))
  done (process_participation_record_updates rooted)

-- the parts behind the registry
unfoldable pub closing_parts : PlainState → Outcome PlainState
closing_parts state = do
  penalized ← process_slashings state
  updated ← process_effective_balance_updates (process_eth1_data_reset penalized)
  resets updated
