-- store_target_checkpoint_state (fork-choice.md, "store_target_checkpoint_state"): the state of a checkpoint.
use Rattle.std.specs.Prelude.{ℕ, not, Option, Some, None, nat_lt, if◌then◌else◌}
use Rattle.bc_words.specs.Outcome.{Outcome, done, refused, ◌>>=◌}
use Rattle.bc_words.specs.declared.refusal.Refusal.{Refusal}
use Rattle.bc_words.specs.declared.refusal.Refusal.TheVariants.{FcTargetUnknown}
use Rattle.beacon_types.specs.declared.checkpoint.Checkpoint.{Checkpoint}
use Rattle.spec_state.specs.declared.plain.PlainState.{PlainState}
use Rattle.spec_transition.specs.ProcessSlots.{process_slots}
use Rattle.spec_fork_choice.specs.Store.{KeptBlock, Store, block_of}
use Rattle.spec_fork_choice.specs.Slots.{start_slot_of}

-- what is kept of a root, or a refusal where it isn't kept
unfoldable pub kept_or : Refusal → Option KeptBlock → Outcome KeptBlock
kept_or why (Some kept) = done kept
kept_or why None = refused why

-- the state taken on to a slot, where it is earlier
unfoldable pub state_at : Store → PlainState → ℕ → Outcome PlainState
state_at store state slot = if not (nat_lt state.slot slot) then done state else do
  stepped ← process_slots state slot store.config
  done stepped.state

-- store_target_checkpoint_state(store, target), which here gives the state and keeps nothing: the state of the checkpoint's
-- root, taken on to the first slot of its epoch. The root is a kept one
unfoldable pub store_target_checkpoint_state : Store → Checkpoint → Outcome PlainState
store_target_checkpoint_state store target = do
  kept ← kept_or FcTargetUnknown (block_of store.blocks target.root)
  state_at store kept.state (start_slot_of store target)
