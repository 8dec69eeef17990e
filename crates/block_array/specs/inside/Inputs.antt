-- What the fields of the inputs stand for.
use Rattle.std.specs.Prelude.{vec_capacity}
use Rattle.block_array.specs.PlainArray.{PlainArray}
use Rattle.block_array.specs.inside.Held.{Held}
use Rattle.block_array.specs.declared.inputs.Inputs.TheInside.{Inside}

abbrev pub array_of : Inside → PlainArray
array_of s = record {
  slots_per_epoch = s.slots_per_epoch;
  proposer_score_boost = s.percent;
  nodes = s.nodes.items;
  latest_messages = s.messages.items;
  balances = s.balances.items;
  active_count = s.active_count;
  total_active_balance = s.total;
  justified_node = s.justified_node;
  justified_checkpoint = s.justified;
  finalized_checkpoint = s.finalized;
  boosted_node = s.boosted_node;
  silenced_validators = s.silenced.indices;
  changed_validators = s.changed.items;
  balances_set = s.balances_set;
  anything_changed = s.anything_changed;
  spare_nodes = s.spare_nodes;
  spare_validators = s.spare_validators;
}

abbrev pub held_of : Inside → Held
held_of s = record {
  array = array_of s;
  node_room = vec_capacity s.nodes;
  message_room = vec_capacity s.messages;
  changed_room = vec_capacity s.changed;
  silenced_room = s.silenced.room;
}
