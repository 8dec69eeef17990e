-- The way through slots, where a visitor is shown each state on which epoch processing is entered.
use Rattle.std.specs.Prelude.{◌≡◌, ◌⊎◌, ℕ, ◌-◌, not, if◌then◌else◌}
use Rattle.bc_words.specs.Outcome.{Outcome, done, bind, ◌>>=◌, each_from}
use Rattle.bc_words.specs.declared.refusal.Refusal.TheVariants.{StateRoot}
use Rattle.bc_preset.specs.declared.configuration.ConfigValues.{ConfigValues}
use Rattle.beacon_types.specs.Equality.{same_root}
use Rattle.beacon_types.specs.declared.signed_block.SignedBeaconBlock.{SignedBeaconBlock}
use Rattle.spec_state.specs.declared.plain.PlainState.{PlainState}
use Rattle.spec_state.specs.States.{state_codec}
use Rattle.spec_blocks.specs.Checks.{check, ◌>>◌}
use Rattle.spec_blocks.specs.ProcessBlock.{process_block}
use Rattle.spec_epochs.specs.ProcessEpoch.{process_epoch}
use Rattle.spec_transition.specs.ProcessSlot.{process_slot}
use Rattle.spec_transition.specs.ProcessSlots.{is_last_of_epoch, with_next_slot, process_slots}
use Rattle.transition.specs.Shown.{showing}

-- the epoch's processing where the state's slot is its last one, which the visitor is shown before it
unfoldable pub end_visited : {V : Type 0} → (V → PlainState → V) → ConfigValues → PlainState × V → Outcome (PlainState × V)
end_visited shown config before = if not (is_last_of_epoch before.0) then done before else do
  processed ← process_epoch before.0 config
  done (processed, shown before.1 before.0)

-- one slot
unfoldable pub next_visited : {V : Type 0} → (V → PlainState → V) → ConfigValues → PlainState × V → Outcome (PlainState × V)
next_visited shown config before = do
  ended ← end_visited shown config (process_slot before.0, before.1)
  done (with_next_slot ended.0, ended.1)

-- all slots up to this one
abbrev pub visited : {V : Type 0} → (V → PlainState → V) → V → PlainState → ℕ → ConfigValues → Outcome (PlainState × V)
visited shown visitor state slot config = each_from (λ index. next_visited shown config) (slot - state.slot) state.slot (state, visitor)

-- the block behind them, and its state root
unfoldable pub block_visited : {V : Type 0} → SignedBeaconBlock → ConfigValues → PlainState × V → Outcome (PlainState × V)
block_visited signed_block config at_slot = do
  processed ← process_block at_slot.0 signed_block.message config
  check (same_root signed_block.message.state_root ((state_codec processed.preset).hash_tree_root processed)) StateRoot
  done (processed, at_slot.1)

-- the slots up to the block's, and the block
abbrev pub transition_visited : {V : Type 0} → (V → PlainState → V) → V → PlainState → SignedBeaconBlock → ConfigValues → Outcome (PlainState × V)
transition_visited shown visitor state signed_block config = bind (showing shown visitor (process_slots state signed_block.message.slot config)) (block_visited signed_block config)

-- a visitor is as before, or was shown this state
abbrev pub IsLeft : {V : Type 0} → (V → PlainState → V) → V → V → PlainState → Type 0
IsLeft shown old new state = (new ≡ old) ⊎ (new ≡ shown old state)
