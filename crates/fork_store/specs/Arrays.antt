-- The plain array of nodes that stands for a plain store: its nodes are the kept blocks, which go by their places.
use Rattle.std.specs.Prelude.{◌≡◌, ℕ, ◌<◌, ◌^◌, max, List, [], ◌∷◌, ◌++◌, length, map, false, Option, Some, None, if◌then◌else◌}
use Rattle.std.specs.List.{AllByRecursion, sum_by}
use Rattle.std.specs.Option.{option_map}
use Rattle.bc_words.specs.Outcome.{Outcome, done, refused, limited}
use Rattle.beacon_types.specs.declared.validator.Validator.{Validator}
use Rattle.block_array.specs.declared.facts.Facts.{Facts}
use Rattle.block_array.specs.declared.node.Node.{Node}
use Rattle.block_array.specs.declared.node.Message.{Message}
use Rattle.block_array.specs.PlainArray.{PlainArray, root_at}
use Rattle.spec_state.specs.declared.plain.PlainState.{PlainState}
use Rattle.spec_state.specs.Genesis.{zero_root}
use Rattle.spec_state.specs.Misc.{effective_balance}
use Rattle.spec_state.specs.Predicates.{is_active_validator}
use Rattle.spec_state.specs.Accessors.{get_current_epoch}
use Rattle.spec_fork_choice.specs.Store.{KeptBlock, LatestMessage, Store, is_kept}
use Rattle.spec_fork_choice.specs.Clash.{place_of}
use Rattle.spec_fork_choice.specs.GetLatestAttestingBalance.{active_in}
use Rattle.spec_fork_choice.specs.StoreTargetCheckpointState.{store_target_checkpoint_state}

-- ---- nodes

-- the number of a root's block, its place among the kept ones, where it is kept
unfoldable pub node_number : List KeptBlock → List ℕ → Option ℕ
node_number blocks root = if is_kept blocks root then Some (place_of blocks root) else None

-- what fork choice needs of a state
unfoldable pub facts_of : PlainState → Facts
facts_of state = record { justified = state.current_justified_checkpoint; finalized = state.finalized_checkpoint }

-- a block as a node behind others, of which one is its parent
unfoldable pub node_of : List KeptBlock → KeptBlock → Node
node_of before kept = record {
  parent = node_number before kept.block.parent_root;
  slot = kept.block.slot;
  root = kept.root;
  facts = facts_of kept.state;
}

-- blocks as nodes behind others
unfoldable pub nodes_behind : List KeptBlock → List KeptBlock → List Node
nodes_behind before [] = []
nodes_behind before (kept ∷ later) = node_of before kept ∷ nodes_behind (before ++ kept ∷ []) later

-- all kept blocks as nodes. The first one has no parent, whatever root its block names
unfoldable pub nodes_of : List KeptBlock → List Node
nodes_of blocks = nodes_behind [] blocks

-- these nodes are those of the blocks, none of which has the zero root, and there are fewer than 2^32
pub record AreNodesOf (blocks : List KeptBlock) (nodes : List Node) : Type 0 where
  pub same : nodes ≡ nodes_of blocks
  pub named : is_kept blocks zero_root ≡ false
  pub few : length blocks < 2 ^ 32

-- the boosted node is that of the boosted block; there is none where the root is zero
unfoldable pub IsBoostedNode : List KeptBlock → List ℕ → Option ℕ → Type 0
IsBoostedNode blocks root None = root ≡ zero_root
IsBoostedNode blocks root (Some number) = node_number blocks root ≡ Some number

-- ---- votes

-- a message for a node as one for its root
unfoldable pub message_at : List Node → Message → LatestMessage
message_at nodes message = record { epoch = message.epoch; root = root_at nodes message.node }

unfoldable pub messages_at : List Node → List (Option Message) → List (Option LatestMessage)
messages_at nodes messages = map (option_map (message_at nodes)) messages

-- a message, where there is one, is for one of so many nodes
unfoldable pub IsForNode : ℕ → Option Message → Type 0
IsForNode count None = Unit {0}
IsForNode count (Some message) = message.node < count

-- ---- balances

-- the balances of a state's validators, 0 where one isn't active, how many are active, and their total, of at least one increment
pub record Balances : Type 0 where
  pub list : List ℕ
  pub count : ℕ
  pub total : ℕ

unfoldable pub balance_in : ℕ → Validator → ℕ
balance_in epoch validator = if is_active_validator validator epoch then validator.effective_balance else 0

unfoldable pub balances_in : PlainState → Balances
balances_in state = record {
  list = map (balance_in (get_current_epoch state)) state.validators;
  count = length (active_in state);
  total = max state.preset.effective_balance_increment (sum_by (effective_balance state.validators) (active_in state));
}

-- where there is no state, nothing weighs
unfoldable pub no_balances : Balances
no_balances = record { list = []; count = 0; total = 0 }

unfoldable pub balances_of : Outcome PlainState → Balances
balances_of (done state) = balances_in state
balances_of (refused why) = no_balances
balances_of (limited bound) = no_balances

-- those of an array
unfoldable pub balances_at : PlainArray → Balances
balances_at array = record { list = array.balances; count = array.active_count; total = array.total_active_balance }

-- ---- the array of a store

-- Each field of the array by the store's: the balances are those of the justified checkpoint's state, a message names the
-- number of the node whose root the store's message names, and the silenced validators are the equivocating ones. No block has the
-- zero root. What was changed since weights were made, and what room there is,
-- is left open
pub record IsArrayOf (store : Store) (array : PlainArray) : Type 0 where
  pub slots_per_epoch : array.slots_per_epoch ≡ store.config.preset.slots_per_epoch
  pub percent : array.proposer_score_boost ≡ store.config.proposer_score_boost
  pub nodes : array.nodes ≡ nodes_of store.blocks
  pub named : is_kept store.blocks zero_root ≡ false
  pub messages : store.latest_messages ≡ messages_at array.nodes array.latest_messages
  pub voted : AllByRecursion (IsForNode (length array.nodes)) array.latest_messages
  pub balances : balances_at array ≡ balances_of (store_target_checkpoint_state store store.justified_checkpoint)
  pub justified : array.justified_checkpoint ≡ store.justified_checkpoint
  pub justified_node : node_number store.blocks store.justified_checkpoint.root ≡ Some array.justified_node
  pub finalized : array.finalized_checkpoint ≡ store.finalized_checkpoint
  pub boosted_node : IsBoostedNode store.blocks store.proposer_boost_root array.boosted_node
  pub silenced : array.silenced_validators ≡ store.equivocating_indices
