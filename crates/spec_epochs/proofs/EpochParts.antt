-- The states on the way through an epoch's processing.
use Rattle.std.proofs.Common.{◌≡◌}
use Rattle.bc_words.specs.Outcome.{done}
use Rattle.bc_preset.specs.declared.configuration.ConfigValues.{ConfigValues}
use Rattle.spec_state.specs.declared.plain.PlainState.{PlainState}
use Rattle.spec_blocks.proofs.Done.{on_the_way, same_value}
use Rattle.spec_epochs.specs.ProcessJustificationAndFinalization.{process_justification_and_finalization}
use Rattle.spec_epochs.specs.ProcessRewardsAndPenalties.{process_rewards_and_penalties}
use Rattle.spec_epochs.specs.ProcessRegistryUpdates.{process_registry_updates}
use Rattle.spec_epochs.specs.ProcessSlashings.{process_slashings}
use Rattle.spec_epochs.specs.ProcessEth1DataReset.{process_eth1_data_reset}
use Rattle.spec_epochs.specs.ProcessEffectiveBalanceUpdates.{process_effective_balance_updates}
use Rattle.spec_epochs.specs.ProcessSlashingsReset.{process_slashings_reset}
use Rattle.spec_epochs.specs.ProcessRandaoMixesReset.{process_randao_mixes_reset}
use Rattle.spec_epochs.specs.ProcessHistoricalRootsUpdate.{process_historical_roots_update}
use Rattle.spec_epochs.specs.ProcessParticipationRecordUpdates.{process_participation_record_updates}
use Rattle.spec_epochs.specs.ProcessEpoch.{process_epoch}

-- the states behind the parts that may stop, and what made them
pub record EpochParts (s t : PlainState) (config : ConfigValues) : Type 0 where
  pub justified : PlainState
  pub rewarded : PlainState
  pub registered : PlainState
  pub penalized : PlainState
  pub updated : PlainState
  pub rooted : PlainState
  pub to_justified : process_justification_and_finalization s ≡ done justified
  pub to_rewarded : process_rewards_and_penalties justified ≡ done rewarded
  pub to_registered : process_registry_updates rewarded config ≡ done registered
  pub to_penalized : process_slashings registered ≡ done penalized
  pub to_updated : process_effective_balance_updates (process_eth1_data_reset penalized) ≡ done updated
  pub to_rooted : process_historical_roots_update (process_randao_mixes_reset (process_slashings_reset updated)) ≡ done rooted
  pub rotated : process_participation_record_updates rooted ≡ t

pub parts_of : (s t : PlainState) (config : ConfigValues) → process_epoch s config ≡ done t → EpochParts s t config
unfolding process_epoch
parts_of s t config is =
    let justified = on_the_way (process_justification_and_finalization s) _ t is in
    let rewarded = on_the_way (process_rewards_and_penalties justified.value) _ t justified.then_done in
    let registered = on_the_way (process_registry_updates rewarded.value config) _ t rewarded.then_done in
    let penalized = on_the_way (process_slashings registered.value) _ t registered.then_done in
    let updated = on_the_way (process_effective_balance_updates (process_eth1_data_reset penalized.value)) _ t penalized.then_done in
    let rooted = on_the_way (process_historical_roots_update (process_randao_mixes_reset (process_slashings_reset updated.value))) _ t updated.then_done in
    record {
      justified = justified.value;
      rewarded = rewarded.value;
      registered = registered.value;
      penalized = penalized.value;
      updated = updated.value;
      rooted = rooted.value;
      to_justified = justified.first;
      to_rewarded = rewarded.first;
      to_registered = registered.first;
      to_penalized = penalized.first;
      to_updated = updated.first;
      to_rooted = rooted.first;
      rotated = same_value (process_participation_record_updates rooted.value) t rooted.then_done;
    }
