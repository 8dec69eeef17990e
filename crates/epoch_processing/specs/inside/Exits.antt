-- The queue of those who leave, as it is kept while the registry is gone through.
use Rattle.std.specs.Prelude.{◌≡◌, ℕ, ◌+◌, nat_lt, ◌==◌, if◌then◌else◌, Option, Some, None}
use Rattle.bc_words.specs.Outcome.{Outcome, done, checked_add}
use Rattle.bc_preset.specs.declared.configuration.ConfigValues.{ConfigValues}
use Rattle.spec_state.specs.declared.plain.PlainState.{PlainState}
use Rattle.spec_state.specs.Constants.{far_future_epoch}
use Rattle.spec_state.specs.Misc.{compute_activation_exit_epoch}
use Rattle.spec_state.specs.Accessors.{get_current_epoch, get_validator_churn_limit}
use Rattle.spec_blocks.specs.InitiateValidatorExit.{exit_queue_churn}
use Rattle.block_operations.specs.inside.Queue.{queue_end}
use Rattle.epoch_processing.specs.declared.ejections.ExitQueue.{ExitQueue}

-- the epoch at which an activation or an exit comes that begins at the state's epoch
unfoldable pub earliest_exit : PlainState → ℕ
earliest_exit state = get_current_epoch state + 1 + state.preset.max_seed_lookahead

-- the epoch that the next one leaves at
unfoldable pub next_exit : ExitQueue → Outcome ℕ
next_exit queue = if nat_lt queue.churn queue.limit then done queue.epoch else checked_add queue.epoch 1

-- the queue where it is a new epoch's, or goes on
unfoldable pub lengthened : ExitQueue → ℕ → ExitQueue
lengthened queue epoch = if epoch == queue.epoch then record queue { churn = queue.churn + 1 } else record queue { epoch = epoch; churn = 1 }

-- the queue with one more, who leaves at an epoch where that is set
unfoldable pub with_exit : ExitQueue → ℕ → ExitQueue
with_exit queue epoch = if epoch == far_future_epoch then queue else lengthened queue epoch

-- the queue of a state
pub record IsExitQueue (state : PlainState) (config : ConfigValues) (queue : ExitQueue) : Type 0 where
  pub comes : compute_activation_exit_epoch state.preset (get_current_epoch state) ≡ done (earliest_exit state)
  pub epoch : queue.epoch ≡ queue_end state.validators (earliest_exit state)
  pub churn : queue.churn ≡ exit_queue_churn state.validators queue.epoch
  pub limit : queue.limit ≡ get_validator_churn_limit state config

-- the queue that is kept, where one is, is that of a state
abbrev pub IsKept : PlainState → ConfigValues → Option ExitQueue → Type 0
IsKept state config None = Unit {0}
IsKept state config (Some queue) = IsExitQueue state config queue
