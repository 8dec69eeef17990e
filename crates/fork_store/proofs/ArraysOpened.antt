-- The store as it opens and an array of its one block.
use Rattle.std.proofs.Common.{◌≡◌, ℕ, Bool, true, false, cond, not, List, [], ◌∷◌, Option, Some, None, is_some, refl, ap}
use Rattle.bc_words.specs.declared.store_stop.ClashKind.{ClashKind}
use Rattle.bc_preset.specs.declared.configuration.ConfigValues.{ConfigValues}
use Rattle.beacon_types.specs.Equality.{same_root}
use Rattle.beacon_types.specs.Blocks.{block_codec}
use Rattle.beacon_types.specs.declared.block.BeaconBlock.{BeaconBlock}
use Rattle.block_array.specs.Calls.{new_array, with_balances, with_checkpoints}
use Rattle.spec_state.specs.declared.plain.PlainState.{PlainState}
use Rattle.spec_state.specs.Genesis.{zero_root}
use Rattle.spec_fork_choice.specs.Store.{KeptBlock, block_of, is_kept}
use Rattle.spec_fork_choice.specs.Clash.{place_of, clash_with, clash_of}
use Rattle.spec_fork_choice.specs.GetForkchoiceStore.{get_forkchoice_store}
use Rattle.spec_fork_choice.specs.OnEvent.{first_clash}
use Rattle.spec_fork_choice.specs.StoreTargetCheckpointState.{store_target_checkpoint_state}
use Rattle.fork_store.specs.Arrays.{node_number, facts_of, node_of, nodes_behind, nodes_of, messages_at, IsBoostedNode, balances_of, balances_at, IsArrayOf}
use Rattle.fork_store.proofs.ArraysPlaces.{is_same}

-- a block that doesn't clash has a root that isn't zero
pub unclashed_by : (b : Bool) (rest : Option ClashKind) (kind : ClashKind) → cond b (Some kind) rest ≡ None → b ≡ false
unclashed_by true rest kind h = absurd cc
unclashed_by false rest kind h = refl

pub unclashed_root : (blocks : List KeptBlock) (root state_root : List ℕ) (block : BeaconBlock) → clash_of blocks root state_root block ≡ None
    → same_root root zero_root ≡ false
unfolding clash_of clash_with
unclashed_root blocks root state_root block h = unclashed_by (same_root root zero_root) _ _ h

one_number : (kept : KeptBlock) → node_number (kept ∷ []) kept.root ≡ Some 0
unfolding node_number is_kept block_of place_of
one_number kept = ap (λ b. cond (is_some (cond b (Some kept) None)) (Some (cond (not b) 1 0)) None) (is_same kept.root kept.root refl)

one_unkept : (kept : KeptBlock) → same_root kept.root zero_root ≡ false → is_kept (kept ∷ []) zero_root ≡ false
unfolding is_kept block_of
one_unkept kept h = ap (λ b. is_some (cond b (Some kept) None)) h

pub first_array : (config : ConfigValues) (state : PlainState) (block : BeaconBlock) (balances : List ℕ) (count total : ℕ) → first_clash block ≡ None
    → record { list = balances; count = count; total = total } ≡ balances_of
    (store_target_checkpoint_state (get_forkchoice_store config state block) (get_forkchoice_store config state block).justified_checkpoint)
    → IsArrayOf (get_forkchoice_store config state block) (with_checkpoints (with_balances
    (new_array config.preset.slots_per_epoch config.proposer_score_boost block.slot (block_codec.hash_tree_root block) (facts_of state))
    balances count total) 0 (get_forkchoice_store config state block).justified_checkpoint (get_forkchoice_store config state block).finalized_checkpoint)
unfolding get_forkchoice_store first_clash nodes_of nodes_behind node_of node_number is_kept block_of messages_at IsBoostedNode balances_at
first_array config state block balances count total none ready =
    let root : List ℕ = block_codec.hash_tree_root block in
    let kept : KeptBlock = record { root = root; block = block; state = state } in
    record {
      slots_per_epoch = refl;
      percent = refl;
      nodes = refl;
      named = one_unkept kept (unclashed_root [] root _ block none);
      messages = refl;
      voted = tt;
      silenced = refl;
      balances = ready;
      justified = refl;
      justified_node = one_number kept;
      finalized = refl;
      boosted_node = refl;
    }
