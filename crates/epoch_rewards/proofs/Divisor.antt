-- The base reward by its divisor, which is at least 1.
use Rattle.std.proofs.Common.{◌≡◌, ℕ, ◌/◌, ◌≤◌, ◌*◌, Some, slice_get, refl, sym, ap, ◌∙◌, arith}
use Rattle.bc_words.specs.Outcome.{Outcome, done, refused, limited, bind, checked_mul}
use Rattle.bc_words.specs.SquareRoot.{integer_squareroot}
use Rattle.bc_words.proofs.Roots.{root_is_root}
use Rattle.bc_preset.specs.Presets.{IsPreset}
use Rattle.bc_preset.proofs.Bounds.{preset_bounds}
use Rattle.spec_state.specs.declared.plain.PlainState.{PlainState}
use Rattle.spec_state.specs.Accessors.{get_total_active_balance, get_active_validator_indices, get_current_epoch}
use Rattle.spec_blocks.specs.Checks.{item_at, found}
use Rattle.spec_epochs.specs.GetBaseReward.{get_base_reward}
use Rattle.spec_epochs.proofs.Each.{bound_done}
use Rattle.spec_epochs.proofs.Totals.{least_total}
use Rattle.balance_totals.specs.declared.stake.Stake.{Stake}
use Rattle.balance_totals.specs.inside.Stakes.{stake_of, stakes_of}
use Rattle.epoch_rewards.specs.inside.Divisor.{divisor_of}
use Rattle.epoch_rewards.specs.inside.Rates.{base_by_balance}
use Rattle.epoch_rewards.proofs.Gathered.{by_stake}

over : PlainState → ℕ → ℕ → Outcome ℕ
over state index root = bind (item_at state.validators index) (λ v. bind (checked_mul v.effective_balance state.preset.base_reward_factor) (λ weighed. done (weighed / root / 4)))

moved : (total : Outcome ℕ) (next : ℕ → Outcome ℕ) → bind total (λ t. next (integer_squareroot t)) ≡ bind (bind total (λ t. done (integer_squareroot t))) next
moved (done t) next = refl
moved (refused why) next = refl
moved (limited bound) next = refl

by_root : (state : PlainState) (index : ℕ) (o : Outcome ℕ) → bind o (over state index) ≡ bind o (λ root. bind (item_at (stakes_of state) index) (λ s. bind (checked_mul s.effective_balance state.preset.base_reward_factor) (λ weighed. done (weighed / root / 4))))
unfolding over stake_of
by_root state index (done root) = sym (by_stake state index (λ s. bind (checked_mul s.effective_balance state.preset.base_reward_factor) (λ weighed. done (weighed / root / 4))))
by_root state index (refused why) = refl
by_root state index (limited bound) = refl

by_divisor : (state : PlainState) (index : ℕ) → get_base_reward state index ≡ bind (divisor_of state) (λ root. bind (item_at (stakes_of state) index) (λ s. bind (checked_mul s.effective_balance state.preset.base_reward_factor) (λ weighed. done (weighed / root / 4))))
unfolding get_base_reward divisor_of over
by_divisor state index = moved (get_total_active_balance state) (over state index) ∙ by_root state index (divisor_of state)

-- the base reward of a validator is that of its effective balance
pub base_here : (state : PlainState) (index : ℕ) (s : Stake) → slice_get (stakes_of state) index ≡ Some s → get_base_reward state index ≡ base_by_balance state s.effective_balance
unfolding base_by_balance
base_here state index s at =
    by_divisor state index
    ∙ ap (λ o. bind (divisor_of state) (λ root. bind (found o) (λ s. bind (checked_mul s.effective_balance state.preset.base_reward_factor) (λ weighed. done (weighed / root / 4))))) at

pub divisor_is_some : (state : PlainState) (root : ℕ) → IsPreset state.preset → divisor_of state ≡ done root → 1 ≤ root
unfolding divisor_of
divisor_is_some state root preset e =
    let parts = bound_done (get_total_active_balance state) (λ total. done (integer_squareroot total)) root e in
    let least = least_total state (get_active_validator_indices state (get_current_epoch state)) parts.0 parts.1 in
    let increment = (preset_bounds state.preset preset).effective_balance_increment in
    let some : 1 * 1 ≤ parts.0 = omega (arith, least, increment) in
    let same : integer_squareroot parts.0 ≡ root = cc (parts.2) in
    omega (arith, (root_is_root parts.0).greatest 1 some, same)
