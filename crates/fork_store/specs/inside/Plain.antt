-- What the fields of a store stand for.
use Rattle.std.specs.Prelude.{[]}
use Rattle.std.specs.Option.{option_map_or}
use Rattle.spec_fork_choice.specs.Store.{Store}
use Rattle.fork_store.specs.Arrays.{messages_at}
use Rattle.fork_store.specs.declared.store_fields.StoreFields.TheInside.{Inside}

-- The latest messages and the equivocating validators are those that the array had when votes were last taken, and none before
abbrev pub plain_of : Inside → Store
plain_of s = record {
  config = s.config;
  time = s.time;
  genesis_time = s.genesis_time;
  justified_checkpoint = s.justified;
  finalized_checkpoint = s.finalized;
  best_justified_checkpoint = s.best_justified;
  proposer_boost_root = s.boost_root;
  blocks = s.blocks;
  latest_messages = option_map_or (λ seen. messages_at seen.value.nodes seen.value.latest_messages) s.voted [];
  equivocating_indices = option_map_or (λ seen. seen.value.silenced_validators) s.voted [];
}
