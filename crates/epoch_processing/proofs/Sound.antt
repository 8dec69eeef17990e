-- The checkpoints of a sound state are of earlier epochs.
use Rattle.std.proofs.Common.{◌≤◌, arith}
use Rattle.spec_state.specs.declared.plain.PlainState.{PlainState}
use Rattle.spec_state.specs.Accessors.{get_current_epoch}
use Rattle.spec_state.specs.Soundness.{IsSound}
use Rattle.spec_epochs.specs.WeighJustificationAndFinalization.{justification_of}
use Rattle.epoch_rewards.proofs.Sound.{previous_is_earlier}

pub previous_early : (state : PlainState) → IsSound state → (justification_of state).previous.epoch ≤ get_current_epoch state
unfolding justification_of
previous_early state sound = omega (arith, sound.previous_justified, previous_is_earlier state)

pub current_early : (state : PlainState) → IsSound state → (justification_of state).current.epoch ≤ get_current_epoch state
unfolding justification_of
current_early state sound = omega (arith, sound.current_justified, previous_is_earlier state)
