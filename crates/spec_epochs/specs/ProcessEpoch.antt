-- process_epoch (beacon-chain.md, "Epoch processing").
use Rattle.bc_words.specs.Outcome.{Outcome, done, ◌>>=◌}
use Rattle.bc_preset.specs.declared.configuration.ConfigValues.{ConfigValues}
use Rattle.spec_state.specs.declared.plain.PlainState.{PlainState}
use Rattle.spec_epochs.specs.ProcessJustificationAndFinalization.{process_justification_and_finalization}
use Rattle.spec_epochs.specs.ProcessRewardsAndPenalties.{process_rewards_and_penalties}
use Rattle.spec_epochs.specs.ProcessRegistryUpdates.{process_registry_updates}
use Rattle.spec_epochs.specs.ProcessSlashings.{process_slashings}
use Rattle.spec_epochs.specs.ProcessEth1DataReset.{process_eth1_data_reset}
use Rattle.spec_epochs.specs.ProcessEffectiveBalanceUpdates.{process_effective_balance_updates}
use Rattle.spec_epochs.specs.ProcessSlashingsReset.{process_slashings_reset}
use Rattle.spec_epochs.specs.ProcessRandaoMixesReset.{process_randao_mixes_reset}
use Rattle.spec_epochs.specs.ProcessHistoricalRootsUpdate.{process_historical_roots_update}
use Rattle.spec_epochs.specs.ProcessParticipationRecordUpdates.{process_participation_record_updates}

-- process_epoch(state)
unfoldable pub process_epoch : PlainState → ConfigValues → Outcome PlainState
process_epoch state config = do
  justified ← process_justification_and_finalization state
  rewarded ← process_rewards_and_penalties justified
  registered ← process_registry_updates rewarded config
  penalized ← process_slashings registered
  updated ← process_effective_balance_updates (process_eth1_data_reset penalized)
  rooted ← process_historical_roots_update (process_randao_mixes_reset (process_slashings_reset updated))
  done (process_participation_record_updates rooted)
