-- Effective balances that are updated, so far as another one comes of it.
use Rattle.std.specs.Prelude.{◌≡◌, ℕ, ◌-◌, ◌%◌, min, List, [], ◌∷◌, ◌++◌, Option, Some, None, Result, Ok, Err, if◌then◌else◌}
use Rattle.bc_words.specs.Outcome.{Outcome, done, ◌>>=◌, StopsExactly}
use Rattle.bc_words.specs.declared.stop.Stop.{Stop}
use Rattle.bc_preset.specs.declared.presets.Preset.{Preset}
use Rattle.beacon_types.specs.declared.validator.Validator.{Validator}
use Rattle.spec_epochs.specs.ProcessEffectiveBalanceUpdates.{is_out_of_bounds}

-- the effective balance that follows a balance
unfoldable pub updated_balance : Preset → ℕ → ℕ → Outcome ℕ
updated_balance preset balance effective = do
  changes ← is_out_of_bounds preset balance effective
  let whole = balance - balance % preset.effective_balance_increment
  done (if changes then min whole preset.max_effective_balance else effective)

-- the validator with this effective balance, or as it is where there is none
abbrev pub with_effective : Validator → Option ℕ → Validator
with_effective v None = v
with_effective v (Some balance) = record v { effective_balance = balance }

-- The answer of a call that takes no memory is the outcome: another effective balance of the validator that is kept, or none where it
-- stays as it is
abbrev pub GivesBalance : Option Validator → Result (Option ℕ) Stop → Outcome Validator → Type 0
GivesBalance kept (Ok balance) outcome = (v : Validator) → kept ≡ Some v → outcome ≡ done (with_effective v balance)
GivesBalance kept (Err stop) outcome = StopsExactly stop outcome

-- Another value is one change more
abbrev pub IsNoted : {A : Type 0} → Option A → ℕ → List (ℕ × A) → List (ℕ × A) → Type 0
IsNoted None i before after = after ≡ before
IsNoted (Some another) i before after = after ≡ before ++ (i, another) ∷ []
