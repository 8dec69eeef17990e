-- The queue of those who leave, one validator at a time.
use Rattle.std.specs.Prelude.{ℕ, max, List, [], ◌∷◌, ◌++◌, ◌==◌, if◌then◌else◌}
use Rattle.beacon_types.specs.declared.validator.Validator.{Validator}
use Rattle.spec_state.specs.Constants.{far_future_epoch}
use Rattle.spec_blocks.specs.InitiateValidatorExit.{exit_epochs, greatest}

-- the greatest exit epoch of these validators, and of this epoch
unfoldable pub queue_end : List Validator → ℕ → ℕ
queue_end validators epoch = greatest (exit_epochs validators ++ epoch ∷ [])

-- the later of two epochs, the first of which counts only where it is set
abbrev pub later : ℕ → ℕ → ℕ
later exit_epoch epoch = if exit_epoch == far_future_epoch then epoch else max epoch exit_epoch
