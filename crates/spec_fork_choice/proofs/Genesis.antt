-- The store at genesis, whose state is of slot 0: its time is that of genesis, and its checkpoints are of epoch 0.
use Rattle.std.proofs.Common.{◌≡◌, ◌+◌, ◌*◌, ◌/◌, ℕ, [], ◌∷◌, ap, ◌∙◌, arith}
use Rattle.std.proofs.Math.Nat.{zero-div}
use Rattle.bc_preset.specs.declared.configuration.ConfigValues.{ConfigValues}
use Rattle.beacon_types.specs.declared.checkpoint.Checkpoint.{Checkpoint}
use Rattle.beacon_types.specs.Blocks.{block_codec}
use Rattle.spec_state.specs.declared.plain.PlainState.{PlainState}
use Rattle.spec_state.specs.Accessors.{get_current_epoch}
use Rattle.spec_state.specs.Genesis.{zero_root}
use Rattle.spec_fork_choice.specs.Anchor.{time_of_slot}
use Rattle.spec_fork_choice.specs.GetForkchoiceStore.{genesis_block, genesis_store, get_forkchoice_store}
use Rattle.spec_fork_choice.specs.Store.{Store}

abbrev pub genesis_checkpoint : PlainState → Checkpoint
genesis_checkpoint genesis = record { epoch = 0; root = block_codec.hash_tree_root (genesis_block genesis) }

abbrev pub store_of_slot_zero : ConfigValues → PlainState → Store
store_of_slot_zero config genesis = record {
  config = config;
  time = genesis.genesis_time;
  genesis_time = genesis.genesis_time;
  justified_checkpoint = genesis_checkpoint genesis;
  finalized_checkpoint = genesis_checkpoint genesis;
  best_justified_checkpoint = genesis_checkpoint genesis;
  proposer_boost_root = zero_root;
  blocks = record { root = block_codec.hash_tree_root (genesis_block genesis); block = genesis_block genesis; state = genesis } ∷ [];
  latest_messages = [];
  equivocating_indices = [];
}

pub genesis_store_is : (config : ConfigValues) (genesis : PlainState) → genesis.slot ≡ 0 → genesis_store config genesis ≡ store_of_slot_zero config genesis
unfolding genesis_store get_forkchoice_store time_of_slot get_current_epoch
genesis_store_is config genesis at =
    let seconds : config.seconds_per_slot * genesis.slot ≡ 0 = ap (λ n. config.seconds_per_slot * n) at ∙ omega arith in
    let time : genesis.genesis_time + config.seconds_per_slot * genesis.slot ≡ genesis.genesis_time = omega (arith, seconds) in
    let epoch : genesis.slot / genesis.preset.slots_per_epoch ≡ 0 = ap (λ n. n / genesis.preset.slots_per_epoch) at ∙ zero-div genesis.preset.slots_per_epoch in
    let checkpoint : ℕ → Checkpoint = λ n. record { epoch = n; root = block_codec.hash_tree_root (genesis_block genesis) } in
    λ i. record (store_of_slot_zero config genesis) {
      time = time i;
      justified_checkpoint = checkpoint (epoch i);
      finalized_checkpoint = checkpoint (epoch i);
      best_justified_checkpoint = checkpoint (epoch i);
    }
