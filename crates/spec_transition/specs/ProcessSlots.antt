-- process_slots (beacon-chain.md, "process_slots"), with the states on which epoch processing was entered.
use Rattle.std.specs.Prelude.{ℕ, ◌+◌, ◌-◌, ◌%◌, Bool, List, [], ◌∷◌, ◌++◌, not, nat_lt, ◌==◌, if◌then◌else◌}
use Rattle.bc_words.specs.Outcome.{Outcome, done, refused, limited, ◌>>=◌, each_from}
use Rattle.bc_words.specs.declared.refusal.Refusal.TheVariants.{SlotNotLater}
use Rattle.bc_words.specs.declared.stop.Limit.TheVariants.{Slots}
use Rattle.bc_preset.specs.declared.configuration.ConfigValues.{ConfigValues}
use Rattle.spec_state.specs.declared.plain.PlainState.{PlainState}
use Rattle.spec_state.specs.Constants.{max_slots}
use Rattle.spec_epochs.specs.ProcessEpoch.{process_epoch}
use Rattle.spec_transition.specs.ProcessSlot.{process_slot}

-- A state, and the states on the way to it on which epoch processing was entered, in order
pub record Stepped : Type 0 where
  pub state : PlainState
  pub entered : List PlainState

-- whether the state's slot is the last one of its epoch
unfoldable pub is_last_of_epoch : PlainState → Bool
is_last_of_epoch state = (state.slot + 1) % state.preset.slots_per_epoch == 0

-- the state at the next slot. A slot grows to one that is given, so it fits
unfoldable pub with_next_slot : PlainState → PlainState
with_next_slot state = record state { slot = state.slot + 1 }

-- the epoch's processing, where the state's slot is its last one
unfoldable pub end_epoch : ConfigValues → Stepped → Outcome Stepped
end_epoch config before = if not (is_last_of_epoch before.state) then done before else do
  processed ← process_epoch before.state config
  done (record { state = processed; entered = before.entered ++ before.state ∷ [] })

-- one round of the loop: the slot ends, and its epoch where it is the last one, and the next slot begins
unfoldable pub next_slot : ConfigValues → Stepped → Outcome Stepped
next_slot config before = do
  ended ← end_epoch config (record before { state = process_slot before.state })
  done (record ended { state = with_next_slot ended.state })

-- process_slots(state, slot). This program takes at most so many slots at once
unfoldable pub process_slots : PlainState → ℕ → ConfigValues → Outcome Stepped
process_slots state slot config =
    if not (nat_lt state.slot slot) then refused SlotNotLater
    else if nat_lt max_slots (slot - state.slot) then limited (Slots (slot - state.slot))
    else each_from (λ index. next_slot config) (slot - state.slot) state.slot (record { state = state; entered = [] })
