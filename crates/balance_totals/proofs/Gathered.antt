-- Gathering what is read of each validator, and what is found there.
use Rattle.std.proofs.Common.{◌≡◌, ℕ, ◌<◌, Bool, true, false, ◌||◌, List, [], ◌∷◌, ◌++◌, map, slice_get, length, refl, ap, append_assoc, arith}
use Rattle.std.specs.List.{list_any}
use Rattle.std.specs.Option.{option_map}
use Rattle.std.proofs.lemmas.List.{append-nil, length-map}
use Rattle.std.proofs.lemmas.Option.{slice_get-map}
use Rattle.bc_preset.specs.declared.presets.Preset.{Preset}
use Rattle.bc_preset.specs.declared.configuration.ConfigValues.{ConfigValues}
use Rattle.beacon_types.specs.declared.validator.Validator.{Validator}
use Rattle.spec_state.specs.declared.plain.PlainState.{PlainState}
use Rattle.spec_state.specs.Accessors.{get_previous_epoch}
use Rattle.balance_totals.specs.declared.stake.Stake.{Stake}
use Rattle.balance_totals.specs.inside.Stakes.{stake_of, stakes_of}
use Rattle.balance_totals.specs.inside.Stirring.{stirs}

-- ---- the list so far, before what is read of those that are left

pub one_stake : (previous : ℕ) (stakes : List Stake) (v : Validator) (left : List Validator) → (stakes ++ stake_of previous v ∷ []) ++ map (stake_of previous) left ≡ stakes ++ map (stake_of previous) (v ∷ left)
one_stake previous stakes v left = append_assoc stakes (stake_of previous v ∷ []) (map (stake_of previous) left)

pub stakes_end : (previous : ℕ) (stakes : List Stake) → stakes ++ map (stake_of previous) [] ≡ stakes
stakes_end previous stakes = append-nil stakes

-- ---- whether any so far stirs, before those that are left

module _ (preset : Preset) (config : ConfigValues) (epoch : ℕ) where
  pub one_asked : (any asked : Bool) (v : Validator) (left : List Validator) → asked ≡ any || stirs preset config epoch v → asked || list_any (stirs preset config epoch) left ≡ any || list_any (stirs preset config epoch) (v ∷ left)
  one_asked true asked v left is = ap (λ (b : Bool). b || list_any (stirs preset config epoch) left) is
  one_asked false asked v left is = ap (λ (b : Bool). b || list_any (stirs preset config epoch) left) is

  pub asking_ends : (any : Bool) → any || list_any (stirs preset config epoch) [] ≡ any
  asking_ends true = refl
  asking_ends false = refl

pub ruleset gathering = (one_stake, stakes_end, one_asked, asking_ends)

-- ---- what is found there

-- one of each validator
stakes_count : (state : PlainState) → length (stakes_of state) ≡ length state.validators
unfolding stakes_of
stakes_count state = length-map state.validators (stake_of (get_previous_epoch state))

pub within_stakes : (state : PlainState) (stakes : List Stake) (index : ℕ) → stakes ≡ stakes_of state → index < length state.validators → index < length stakes
within_stakes state stakes index all less = omega (arith, less, ap length all, stakes_count state)

-- what was read of the validator with an index, where there is one
pub read_at : (state : PlainState) (index : ℕ) → slice_get (stakes_of state) index ≡ option_map (stake_of (get_previous_epoch state)) (slice_get state.validators index)
unfolding stakes_of
read_at state index = slice_get-map (stake_of (get_previous_epoch state)) state.validators index
