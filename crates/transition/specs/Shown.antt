-- What becomes of a visitor that is shown the states on which epoch processing was entered.
use Rattle.std.specs.Prelude.{◌≡◌, ◌⊎◌, ℕ, ◌-◌, ◌≤◌, List, [], ◌∷◌, ◌++◌}
use Rattle.bc_words.specs.Outcome.{Outcome, done, ◌>>=◌, each_from}
use Rattle.bc_preset.specs.declared.configuration.ConfigValues.{ConfigValues}
use Rattle.spec_state.specs.declared.plain.PlainState.{PlainState}
use Rattle.epoch_visitor.specs.Shown.{shown_all}
use Rattle.spec_transition.specs.ProcessSlot.{process_slot}
use Rattle.spec_transition.specs.ProcessSlots.{Stepped, next_slot}

-- a step's state, beside what becomes of a visitor that is shown the states entered on the way to it
abbrev pub beside : {V : Type 0} → (V → PlainState → V) → V → Stepped → PlainState × V
beside shown visitor step = (step.state, shown_all shown visitor step.entered)

-- the same of an outcome
unfoldable pub showing : {V : Type 0} → (V → PlainState → V) → V → Outcome Stepped → Outcome (PlainState × V)
showing shown visitor outcome = do
  step ← outcome
  done (beside shown visitor step)

-- A visitor was shown states entered on the way to a slot: all of the first slots, and maybe the one that the slot behind them
-- enters. This is what holds after a stop
pub record WasShown {V : Type 0} (shown : V → PlainState → V) (config : ConfigValues) (state : PlainState) (slot : ℕ) (old new : V) : Type 0 where
  pub count : ℕ
  pub within : count ≤ slot - state.slot
  pub step : Stepped
  pub first : each_from (λ index. next_slot config) count state.slot (record { state = state; entered = [] }) ≡ done step
  pub left : (new ≡ shown_all shown old step.entered) ⊎ (new ≡ shown_all shown old (step.entered ++ process_slot step.state ∷ []))
