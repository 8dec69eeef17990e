-- What each call changes of the plain array.
use Rattle.std.specs.Prelude.{ℕ, ◌-◌, max, List, [], ◌∷◌, ◌++◌, false, true, Option, Some, None}
use Rattle.beacon_types.specs.declared.checkpoint.Checkpoint.{Checkpoint}
use Rattle.block_array.specs.declared.facts.Facts.{Facts}
use Rattle.block_array.specs.PlainArray.{PlainArray}

-- an array of one node, which no call changed yet
abbrev pub new_array : ℕ → ℕ → ℕ → List ℕ → Facts → PlainArray
new_array slots_per_epoch percent slot root facts = record {
  slots_per_epoch = slots_per_epoch;
  proposer_score_boost = percent;
  nodes = record { parent = None; slot = slot; root = root; facts = facts } ∷ [];
  latest_messages = [];
  balances = [];
  active_count = 0;
  total_active_balance = 0;
  justified_node = 0;
  justified_checkpoint = record { epoch = 0; root = root };
  finalized_checkpoint = record { epoch = 0; root = root };
  boosted_node = None;
  silenced_validators = [];
  changed_validators = [];
  balances_set = false;
  anything_changed = true;
  spare_nodes = 0;
  spare_validators = 0;
}

-- one node more. A spare place is used, where there is one
abbrev pub with_node : PlainArray → ℕ → ℕ → List ℕ → Facts → PlainArray
with_node array parent slot root facts = record array {
  nodes = array.nodes ++ record { parent = Some parent; slot = slot; root = root; facts = facts } ∷ [];
  anything_changed = true;
  spare_nodes = array.spare_nodes - 1;
}

-- other balances, of so many active validators with this total
abbrev pub with_balances : PlainArray → List ℕ → ℕ → ℕ → PlainArray
with_balances array balances count total = record array {
  balances = balances;
  active_count = count;
  total_active_balance = total;
  balances_set = true;
  anything_changed = true;
}

-- other checkpoints, the justified one at this node
abbrev pub with_checkpoints : PlainArray → ℕ → Checkpoint → Checkpoint → PlainArray
with_checkpoints array node justified finalized = record array {
  justified_node = node;
  justified_checkpoint = justified;
  finalized_checkpoint = finalized;
  anything_changed = true;
}

-- another boosted node, or none
abbrev pub with_boost : PlainArray → Option ℕ → PlainArray
with_boost array node = record array { boosted_node = node; anything_changed = true }

-- weights and head are made
abbrev pub made : PlainArray → PlainArray
made array = record array { changed_validators = []; balances_set = false; anything_changed = false }

-- room for a node more, and for the votes and the silencing of validators below a number
abbrev pub with_spare : PlainArray → ℕ → PlainArray
with_spare array validators = record array { spare_nodes = max array.spare_nodes 1; spare_validators = max array.spare_validators validators }
