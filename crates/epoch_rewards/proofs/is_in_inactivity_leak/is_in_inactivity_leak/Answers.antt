-- The leak is on behind the bound of the preset.
use Rattle.std.proofs.Common.{ap, ◌∙◌, nat_lt, sym}
use Rattle.bc_words.specs.Outcome.{bind, done}
use Rattle.bc_preset.specs.declared.presets.Preset.{Preset}
use Rattle.spec_epochs.specs.RewardHelpers.{is_in_inactivity_leak}
use Rattle.epoch_rewards.proofs.is_in_inactivity_leak.is_in_inactivity_leak.Goals as goal

pub returns : goal.returns
unfolding is_in_inactivity_leak
returns c =
    ap (λ o. bind o (λ delay. done (nat_lt c.args.state.now.preset.min_epochs_to_inactivity_penalty delay))) c.in_ok-delay.ensures
    ∙ ap (λ (p : Preset). done (nat_lt p.min_epochs_to_inactivity_penalty c.in_ok-delay.delay)) (sym c.preset.ensures.same)
