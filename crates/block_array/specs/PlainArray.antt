-- What the array of nodes stands for: the nodes in order of arrival, what the validators voted for, their balances, the
-- checkpoints and the boost (fork-choice.md, "LatestMessage" and "Store"). A node goes by its number, the first being 0.
use Rattle.std.specs.Prelude.{ℕ, List, [], Bool, Option, None, slice_get, slice_index_or, ◌==◌, if◌then◌else◌}
use Rattle.std.specs.List.{list_any}
use Rattle.std.specs.Option.{option_map_or, option_and_then}
use Rattle.beacon_types.specs.declared.checkpoint.Checkpoint.{Checkpoint}
use Rattle.block_array.specs.declared.node.Node.{Node}
use Rattle.block_array.specs.declared.node.Message.{Message}

-- Each node but the first names an earlier one as its parent. `latest_messages` has a place for each validator up to the last
-- that has one; `balances` has one for each validator of the justified state, and is 0 where it isn't active there, of whom
-- there are `active_count` with `total_active_balance`. `justified_node` is the node of the justified checkpoint's root.
-- `silenced_validators` weigh nothing, and no vote of theirs is taken; they are a set, its members in ascending order.
-- The list of changed validators, those with another message and those silenced, and the two marks say what was changed since
-- weights and head were made. After `reserve` so many nodes, and the votes and the silencing of validators below that number, need
-- no memory
pub record PlainArray : Type 0 where
  pub slots_per_epoch : ℕ
  pub proposer_score_boost : ℕ
  pub nodes : List Node
  pub latest_messages : List (Option Message)
  pub balances : List ℕ
  pub active_count : ℕ
  pub total_active_balance : ℕ
  pub justified_node : ℕ
  pub justified_checkpoint : Checkpoint
  pub finalized_checkpoint : Checkpoint
  pub boosted_node : Option ℕ
  pub silenced_validators : List ℕ
  pub changed_validators : List ℕ
  pub balances_set : Bool
  pub anything_changed : Bool
  pub spare_nodes : ℕ
  pub spare_validators : ℕ

-- the slot, the root and the parent of a node. The first one has no parent; nor has a number that is no node's
unfoldable pub slot_at : List Node → ℕ → ℕ
slot_at nodes number = option_map_or (λ node. node.slot) (slice_get nodes number) 0

unfoldable pub root_at : List Node → ℕ → List ℕ
root_at nodes number = option_map_or (λ node. node.root) (slice_get nodes number) []

unfoldable pub parent_at : List Node → ℕ → Option ℕ
parent_at nodes number = option_and_then (λ node. node.parent) (slice_get nodes number)

-- the latest message of a validator, if it has one
unfoldable pub message_of : PlainArray → ℕ → Option Message
message_of array validator = slice_index_or array.latest_messages validator None

-- the balance of a validator in the justified state, which is 0 where it isn't active there
unfoldable pub balance_of : PlainArray → ℕ → ℕ
balance_of array validator = slice_index_or array.balances validator 0

-- whether a validator is one of those
unfoldable pub is_listed : List ℕ → ℕ → Bool
is_listed validators validator = list_any (λ other. other == validator) validators

-- the message by which a validator weighs: its latest one, and none where it is silenced
unfoldable pub vote_of : PlainArray → ℕ → Option Message
vote_of array validator = if is_listed array.silenced_validators validator then None else message_of array validator
