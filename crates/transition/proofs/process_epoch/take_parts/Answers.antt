-- Justification leaves a sound state sound within its epoch, and what was gathered of the validators holds until it was needed last.
use Rattle.std.proofs.Common.{◌∙◌}
use Rattle.spec_epochs.proofs.SoundJustification.{justification_sound}
use Rattle.transition.proofs.Registries.{rewarded_stirs, registered_balances}
use Rattle.transition.proofs.process_epoch.take_parts.Goals as goal

pub process_rewards-requires-clause-sound : goal.process_rewards-requires-clause-sound
process_rewards-requires-clause-sound c = justification_sound c.args.state.now c.process_justification.new.state c.in_ok-process_justification.ensures c.requires.sound

pub process_registry-requires : goal.process_registry-requires
process_registry-requires c =
    c.requires.stirs
    ∙ rewarded_stirs c.args.state.now c.process_justification.new.state c.in_ok-process_justification.ensures c.process_rewards.new.state c.in_ok-process_rewards.ensures c.args.config.now

pub close-requires : goal.close-requires
close-requires c =
    registered_balances c.args.state.now c.process_justification.new.state c.in_ok-process_justification.ensures c.process_rewards.new.state c.in_ok-process_rewards.ensures c.process_registry.new.state c.args.config.now c.args.stakes.list.items
    c.in_ok-process_registry.ensures c.requires.stakes
