use Rattle.spec_state.specs.Accessors.{get_current_epoch}
use Rattle.spec_epochs.proofs.SoundJustification.{justification_sound}
use Rattle.spec_epochs.proofs.SoundEpoch.{rewards_sound, registry_updates_sound, slashings_sound, eth1_data_reset_sound, effective_balances_sound, slashings_reset_sound, randao_mixes_reset_sound, historical_roots_sound}
use Rattle.spec_transition.proofs.SoundSlots.{rotated_sound}
use Rattle.transition.proofs.laws.epoch_parts_keep_sound.Goals as goal

pub returns-clause-justification : goal.returns-clause-justification
returns-clause-justification c = justification_sound

pub returns-clause-rewards : goal.returns-clause-rewards
returns-clause-rewards c = rewards_sound

pub returns-clause-registry : goal.returns-clause-registry
unfolding get_current_epoch
returns-clause-registry c s t config is before sound = registry_updates_sound s t config is before sound

pub returns-clause-slashings : goal.returns-clause-slashings
returns-clause-slashings c = slashings_sound

pub returns-clause-eth1_data : goal.returns-clause-eth1_data
returns-clause-eth1_data c = eth1_data_reset_sound

pub returns-clause-effective_balances : goal.returns-clause-effective_balances
returns-clause-effective_balances c = effective_balances_sound

pub returns-clause-slashings_reset : goal.returns-clause-slashings_reset
returns-clause-slashings_reset c = slashings_reset_sound

pub returns-clause-randao_mixes : goal.returns-clause-randao_mixes
returns-clause-randao_mixes c = randao_mixes_reset_sound

pub returns-clause-historical_roots : goal.returns-clause-historical_roots
returns-clause-historical_roots c = historical_roots_sound

pub returns-clause-rotation : goal.returns-clause-rotation
returns-clause-rotation c = rotated_sound
