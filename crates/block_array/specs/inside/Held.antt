-- What comes from the store above, as it is held: the plain array, and for how much there is room.
use Rattle.std.specs.Prelude.{◌≡◌, ℕ, ◌+◌, ◌<◌, ◌≤◌, ◌^◌, false, length, slice_index_or, Some, None}
use Rattle.std.specs.Option.{option_map_or}
use Rattle.block_array.specs.declared.node.Message.{Message}
use Rattle.block_array.specs.PlainArray.{PlainArray, vote_of, balance_of}
use Rattle.block_array.specs.GetLatestAttestingBalance.{proposer_score}
use Rattle.block_array.specs.declared.tally.Counted.{Counted}
use Rattle.block_array.specs.inside.Counts.{nothing}
use Rattle.block_array.specs.inside.Tree.{IsTree}

pub record Held : Type 0 where
  pub array : PlainArray
  pub node_room : ℕ
  pub message_room : ℕ
  pub changed_room : ℕ
  pub silenced_room : ℕ

-- the nodes are a tree, and all that is named is one of them
pub record IsPlain (array : PlainArray) : Type 0 where
  pub slots : 0 < array.slots_per_epoch
  pub percent : array.proposer_score_boost ≤ 10000
  pub total : array.total_active_balance ≤ 2 ^ 104
  pub few_balances : length array.balances ≤ 2 ^ 40
  pub tree : IsTree array.nodes
  pub some : 0 < length array.nodes
  pub few_nodes : length array.nodes < 2 ^ 32
  pub justified : array.justified_node < length array.nodes
  pub boosted : (node : ℕ) → array.boosted_node ≡ Some node → node < length array.nodes
  pub messages : (validator : ℕ) (message : Message) → slice_index_or array.latest_messages validator None ≡ Some message → message.node < length array.nodes
  pub few_messages : length array.latest_messages ≤ 2 ^ 40
  pub few_spare : array.spare_validators ≤ 2 ^ 40

-- and there is room for what is spare
pub record IsHeld (held : Held) : Type 0 where
  pub plain : IsPlain held.array
  pub nodes : length held.array.nodes + held.array.spare_nodes ≤ held.node_room
  pub messages : held.array.spare_validators ≤ held.message_room
  pub changed : held.array.spare_validators ≤ held.changed_room
  pub silenced : held.array.spare_validators ≤ held.silenced_room

-- what is to be counted of a validator, and of the boost
unfoldable pub due : PlainArray → ℕ → Counted
due array validator = option_map_or (λ message. record { node = message.node; balance = balance_of array validator; changed = false }) (vote_of array validator) nothing

unfoldable pub boost_due : PlainArray → Counted
boost_due array = option_map_or (λ boosted. record { node = boosted; balance = proposer_score array; changed = false }) array.boosted_node nothing
