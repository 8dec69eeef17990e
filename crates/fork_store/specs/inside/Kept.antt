-- Kept states of checkpoints, as a list of them.
use Rattle.std.specs.Prelude.{ℕ, List, [], ◌∷◌, ◌++◌, leb, filter, Option}
use Rattle.std.specs.List.{find}
use Rattle.beacon_types.specs.Equality.{same_checkpoint}
use Rattle.beacon_types.specs.declared.checkpoint.Checkpoint.{Checkpoint}
use Rattle.spec_state.specs.declared.plain.PlainState.{PlainState}

-- A checkpoint with its state
pub record CheckpointState : Type 0 where
  pub checkpoint : Checkpoint
  pub state : PlainState

-- what is kept of a checkpoint
unfoldable pub checkpoint_state_of : List CheckpointState → Checkpoint → Option CheckpointState
checkpoint_state_of states checkpoint = find (λ kept. same_checkpoint kept.checkpoint checkpoint) states

-- the kept states and another one, without those before an epoch
unfoldable pub with_checkpoint_state : List CheckpointState → ℕ → CheckpointState → List CheckpointState
with_checkpoint_state states epoch kept = filter (λ k. leb epoch k.checkpoint.epoch) (states ++ kept ∷ [])
