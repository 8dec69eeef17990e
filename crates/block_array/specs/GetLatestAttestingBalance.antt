-- get_latest_attesting_balance (fork-choice.md, "get_latest_attesting_balance"): the weight of a node. Weights are exact.
use Rattle.std.specs.Prelude.{ℕ, ◌+◌, ◌*◌, ◌/◌, Bool, false, List, length, filter, ◌==◌, if◌then◌else◌}
use Rattle.std.specs.List.{sum_by, range_with_len}
use Rattle.std.specs.Option.{option_map_or}
use Rattle.block_array.specs.declared.node.Node.{Node}
use Rattle.block_array.specs.PlainArray.{PlainArray, slot_at, vote_of, balance_of}
use Rattle.block_array.specs.GetAncestor.{get_ancestor}

-- whether a node is on the chain of another one
unfoldable pub is_on_chain_of : List Node → ℕ → ℕ → Bool
is_on_chain_of nodes number descendant = get_ancestor nodes descendant (slot_at nodes number) == number

-- whether a validator that isn't silenced has a latest message for a node or one behind it
unfoldable pub votes_for : PlainArray → ℕ → ℕ → Bool
votes_for array number validator = option_map_or (λ message. is_on_chain_of array.nodes number message.node) (vote_of array validator) false

-- the validators of the justified state
unfoldable pub validators_of : PlainArray → List ℕ
validators_of array = range_with_len 0 (length array.balances)

-- the balance of the validators that vote for a node
unfoldable pub attestation_score : PlainArray → ℕ → ℕ
attestation_score array number = sum_by (balance_of array) (filter (votes_for array number) (validators_of array))

-- the boost: so many hundredths of what a slot's committees weigh on average; nothing where nobody is active. Silenced validators
-- count here as others do
unfoldable pub proposer_score : PlainArray → ℕ
proposer_score array =
    let committee_weight : ℕ = array.active_count / array.slots_per_epoch * (array.total_active_balance / array.active_count) in
    committee_weight * array.proposer_score_boost / 100

-- whether a node is the boosted one, or on its chain
unfoldable pub is_boosted : PlainArray → ℕ → Bool
is_boosted array number = option_map_or (λ boosted. is_on_chain_of array.nodes number boosted) array.boosted_node false

-- get_latest_attesting_balance(store, root)
unfoldable pub get_latest_attesting_balance : PlainArray → ℕ → ℕ
get_latest_attesting_balance array number =
    if is_boosted array number then attestation_score array number + proposer_score array else attestation_score array number
