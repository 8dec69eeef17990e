-- A store as it opens.
use Rattle.std.specs.Prelude.{ℕ, List, [], Option}
use Rattle.bc_preset.specs.declared.configuration.ConfigValues.{ConfigValues}
use Rattle.beacon_types.specs.declared.checkpoint.Checkpoint.{Checkpoint}
use Rattle.spec_state.specs.Genesis.{zero_root}
use Rattle.block_array.specs.PlainArray.{PlainArray}
use Rattle.block_array.specs.Calls.{new_array, with_balances, with_checkpoints}
use Rattle.block_array.specs.declared.facts.Facts.{Facts}
use Rattle.fork_store.specs.Arrays.{Balances}
use Rattle.fork_store.specs.inside.Wholes.{balances_for}
use Rattle.spec_fork_choice.specs.Store.{KeptBlock, LatestMessage, Store}

-- the store whose checkpoints are all this one, without a boost and without equivocating validators
abbrev pub as_opened : ConfigValues → ℕ → ℕ → Checkpoint → List KeptBlock → List (Option LatestMessage) → Store
as_opened config time genesis_time checkpoint blocks messages = record {
  config = config;
  time = time;
  genesis_time = genesis_time;
  justified_checkpoint = checkpoint;
  finalized_checkpoint = checkpoint;
  best_justified_checkpoint = checkpoint;
  proposer_boost_root = zero_root;
  blocks = blocks;
  latest_messages = messages;
  equivocating_indices = [];
}

-- the array of a store whose one block has this slot and root and facts of its state: it has the store's checkpoints
abbrev pub array_as_opened : Store → ℕ → List ℕ → Facts → PlainArray
array_as_opened store slot root facts =
    let balances : Balances = balances_for store store.justified_checkpoint in
    with_checkpoints
    (with_balances (new_array store.config.preset.slots_per_epoch store.config.proposer_score_boost slot root facts) balances.list balances.count balances.total)
    0 store.justified_checkpoint store.finalized_checkpoint
