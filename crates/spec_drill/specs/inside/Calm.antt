-- What stays true of the states along a chain that the maker makes.
use Rattle.std.specs.Prelude.{◌≡◌, ℕ, ◌+◌, ◌*◌, ◌%◌, ◌≤◌, false, length}
use Rattle.std.specs.List.{AllByRecursion}
use Rattle.bc_preset.specs.Presets.{IsPreset}
use Rattle.beacon_types.specs.declared.validator.Validator.{Validator}
use Rattle.spec_state.specs.declared.plain.PlainState.{PlainState}
use Rattle.spec_state.specs.States.{votes_limit}
use Rattle.spec_state.specs.Soundness.{IsSound}
use Rattle.spec_state.specs.Constants.{far_future_epoch}
use Rattle.spec_state.specs.Accessors.{get_current_epoch}
use Rattle.spec_transition.specs.ProcessSlots.{Stepped}
use Rattle.bc_preset.specs.declared.presets.Preset.{Preset}
use Rattle.spec_drill.specs.MakeGenesis.{zero_eth1}

-- a validator as the maker's genesis has it: full, active from the beginning, never slashed, and not leaving
pub record IsFull (v : Validator) : Type 0 where
  pub effective : v.effective_balance ≡ 32_000_000_000
  pub slashed : v.slashed ≡ false
  pub eligibility : v.activation_eligibility_epoch ≡ 0
  pub activation : v.activation_epoch ≡ 0
  pub exit : v.exit_epoch ≡ far_future_epoch

-- a registry of the 64 validators of the maker's genesis
pub record IsFullRegistry (s : PlainState) : Type 0 where
  pub many : length s.validators ≡ 64
  pub all : AllByRecursion IsFull s.validators

-- a balance after so many epochs: an epoch takes at most 3 million Gwei and gives at most 5 million
pub record IsNear (epochs balance : ℕ) : Type 0 where
  pub least : 32_000_000_000 ≤ balance + 3_000_000 * epochs
  pub most : balance ≤ 32_000_000_000 + 5_000_000 * epochs

-- balances of the 64 validators after so many epochs
pub record AreNear (epochs : ℕ) (s : PlainState) : Type 0 where
  pub many : length s.balances ≡ 64
  pub all : AllByRecursion (IsNear epochs) s.balances

-- what blocks leave in a state's lists, where blocks is 1 behind the block of the state's slot, and 0 before it
pub record IsRoomy (blocks : ℕ) (s : PlainState) : Type 0 where
  pub votes : length s.eth1_data_votes ≤ s.slot % votes_limit s.preset + blocks
  pub previous : length s.previous_epoch_attestations ≤ 4 * (s.preset.slots_per_epoch + s.slot % s.preset.slots_per_epoch + blocks)
  pub current : length s.current_epoch_attestations ≤ 4 * (s.slot % s.preset.slots_per_epoch + blocks)
  pub historical : length s.historical_roots ≤ get_current_epoch s

-- no deposit is due, and nothing was slashed
pub record IsQuiet (s : PlainState) : Type 0 where
  pub eth1 : s.eth1_data ≡ zero_eth1
  pub index : s.eth1_deposit_index ≡ 0
  pub slashings : AllByRecursion (λ n. n ≡ 0) s.slashings

-- a state of a made chain
pub record IsCalm (blocks : ℕ) (s : PlainState) : Type 0 where
  pub preset : IsPreset s.preset
  pub sound : IsSound s
  pub early : s.slot ≤ 32 * s.preset.slots_per_epoch
  pub registry : IsFullRegistry s
  pub balances : AreNear (get_current_epoch s) s
  pub roomy : IsRoomy blocks s
  pub quiet : IsQuiet s

-- a calm state at a slot, before the slot's block
pub record IsAt (at : ℕ) (of : Preset) (x : Stepped) : Type 0 where
  pub calm : IsCalm 0 x.state
  pub slot : x.state.slot ≡ at
  pub preset : x.state.preset ≡ of
