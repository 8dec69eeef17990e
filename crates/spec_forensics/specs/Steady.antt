-- Validators that stay as they were at genesis.
use Rattle.std.specs.Prelude.{◌≡◌, ℕ, max, Bool, ◌&&◌, nat_eq, List, map, sum, if◌then◌else◌}
use Rattle.std.specs.Cmp.Lexicographic.{pointwise}
use Rattle.spec_state.specs.declared.plain.PlainState.{PlainState}
use Rattle.spec_state.specs.Misc.{effective_balance}
use Rattle.spec_state.specs.Predicates.{is_active_validator}
use Rattle.spec_state.specs.Accessors.{get_current_epoch, get_previous_epoch, get_active_validator_indices}

-- the weight of each validator of genesis: its effective balance, where it is active at epoch 0
unfoldable pub genesis_weights : PlainState → List ℕ
genesis_weights genesis = map (λ v. if is_active_validator v 0 then v.effective_balance else 0) genesis.validators

-- the total active balance of genesis: at least one increment
unfoldable pub genesis_total : PlainState → ℕ
genesis_total genesis = max genesis.preset.effective_balance_increment (sum (genesis_weights genesis))

-- whether an epoch's active list, and the effective balance of each of its members, are those of genesis at epoch 0
unfoldable pub is_steady_in : PlainState → PlainState → ℕ → Bool
is_steady_in genesis state epoch =
    let active : List ℕ = get_active_validator_indices genesis 0 in
    pointwise nat_eq (get_active_validator_indices state epoch) active
    && pointwise nat_eq (map (effective_balance state.validators) active) (map (effective_balance genesis.validators) active)

-- whether they are in both epochs whose attestations a state's epoch processing counts
unfoldable pub is_steady_at : PlainState → PlainState → Bool
is_steady_at genesis state = is_steady_in genesis state (get_previous_epoch state) && is_steady_in genesis state (get_current_epoch state)

-- the same as facts
pub record IsSteadyIn (genesis state : PlainState) (epoch : ℕ) : Type 0 where
  pub active : get_active_validator_indices state epoch ≡ get_active_validator_indices genesis 0
  pub balances : map (effective_balance state.validators) (get_active_validator_indices genesis 0) ≡ map (effective_balance genesis.validators) (get_active_validator_indices genesis 0)

pub record IsSteadyAt (genesis state : PlainState) : Type 0 where
  pub previous : IsSteadyIn genesis state (get_previous_epoch state)
  pub current : IsSteadyIn genesis state (get_current_epoch state)
