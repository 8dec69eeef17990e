-- The test of soundness of a state.
use Rattle.std.specs.Prelude.{◌≡◌, ◌↔◌, true}
use Rattle.spec_state.specs.declared.plain.PlainState.{PlainState}
use Rattle.spec_state.specs.Soundness.{IsSound}
use Rattle.spec_fork_choice.specs.Soundness.{is_sound}

-- It is true exactly of the sound states.
abbrev pub SoundnessIsTested : Type 0
SoundnessIsTested = (state : PlainState) → (is_sound state ≡ true) ↔ IsSound state
