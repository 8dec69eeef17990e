-- get_latest_attesting_balance (fork-choice.md, "get_latest_attesting_balance"): the weight of a block. Weights are exact.
use Rattle.std.specs.Prelude.{ℕ, ◌+◌, ◌*◌, ◌/◌, max, Bool, List, length, not, ◌&&◌, filter, if◌then◌else◌}
use Rattle.std.specs.List.{sum_by}
use Rattle.std.specs.Option.{option_map_or}
use Rattle.std.specs.Prelude.{false}
use Rattle.bc_words.specs.Outcome.{Outcome, done, refused, limited}
use Rattle.beacon_types.specs.Equality.{same_root}
use Rattle.spec_state.specs.declared.plain.PlainState.{PlainState}
use Rattle.spec_state.specs.Misc.{effective_balance}
use Rattle.spec_state.specs.Genesis.{zero_root}
use Rattle.spec_state.specs.Accessors.{get_current_epoch, get_active_validator_indices}
use Rattle.spec_fork_choice.specs.Store.{Store, slot_of, vote_of}
use Rattle.spec_fork_choice.specs.GetAncestor.{get_ancestor}
use Rattle.spec_fork_choice.specs.StoreTargetCheckpointState.{store_target_checkpoint_state}

-- whether a block is on the chain of another one
unfoldable pub is_on_chain_of : Store → List ℕ → List ℕ → Bool
is_on_chain_of store root descendant = same_root (get_ancestor store descendant (slot_of store.blocks root)) root

-- whether a validator that isn't equivocating has a latest message for a block or one behind it
unfoldable pub votes_for : Store → List ℕ → ℕ → Bool
votes_for store root validator = option_map_or (λ message. is_on_chain_of store root message.root) (vote_of store validator) false

-- the validators that are active in a state, slashed ones included
unfoldable pub active_in : PlainState → List ℕ
active_in state = get_active_validator_indices state (get_current_epoch state)

-- the effective balance of the active validators that vote for a block
unfoldable pub attestation_score : Store → PlainState → List ℕ → ℕ
attestation_score store state root =
    sum_by (effective_balance state.validators) (filter (votes_for store root) (active_in state))

-- the boost: so many hundredths of what a slot's committees weigh on average; nothing where nobody is active, since no slot
-- has a member then. The total is at least one increment, and exact. Equivocating validators count here as others do
unfoldable pub proposer_score : Store → PlainState → ℕ
proposer_score store state =
    let active : List ℕ = active_in state in
    let total : ℕ = max state.preset.effective_balance_increment (sum_by (effective_balance state.validators) active) in
    let committee_weight : ℕ = length active / state.preset.slots_per_epoch * (total / length active) in
    committee_weight * store.config.proposer_score_boost / 100

-- whether a block is the boosted one, or on its chain
unfoldable pub is_boosted : Store → List ℕ → Bool
is_boosted store root = not (same_root store.proposer_boost_root zero_root) && is_on_chain_of store root store.proposer_boost_root

-- the weight of a block by the validators of a state
unfoldable pub weight_in : Store → PlainState → List ℕ → ℕ
weight_in store state root =
    if is_boosted store root then attestation_score store state root + proposer_score store state else attestation_score store state root

-- the weight by the state of the justified checkpoint. It is there: an accepted block passed its slots. Without it nothing weighs
unfoldable pub weight_by : Store → Outcome PlainState → List ℕ → ℕ
weight_by store (done state) root = weight_in store state root
weight_by store (refused why) root = 0
weight_by store (limited bound) root = 0

-- get_latest_attesting_balance(store, root)
unfoldable pub get_latest_attesting_balance : Store → List ℕ → ℕ
get_latest_attesting_balance store root = weight_by store (store_target_checkpoint_state store store.justified_checkpoint) root
