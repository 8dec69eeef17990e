-- A block that isn't kept yet, and its node in the array.
use Rattle.std.proofs.Common.{◌≡◌, ◌∙◌, ◌<◌, ◌-◌, ◌^◌, ℕ, max, false, List, [], ◌∷◌, ◌++◌, length, Option, Some, Result, Ok, Err, IsOk, sym, ap, subst, arith}
use Rattle.std.proofs.lemmas.Bool.{false≢true}
use Rattle.std.specs.Option.{option_map_or}
use Rattle.bc_words.specs.Outcome.{Becomes}
use Rattle.bc_words.specs.declared.stop.NoMemory.{NoMemory}
use Rattle.beacon_types.specs.Equality.{same_root}
use Rattle.beacon_types.specs.declared.block.BeaconBlock.{BeaconBlock}
use Rattle.block_array.specs.PlainArray.{PlainArray, slot_at}
use Rattle.block_array.specs.Calls.{with_node, with_spare}
use Rattle.spec_state.specs.declared.plain.PlainState.{PlainState}
use Rattle.spec_state.specs.Genesis.{zero_root}
use Rattle.spec_fork_choice.specs.Store.{KeptBlock, Store, slot_of}
use Rattle.fork_store.specs.Trees.{HasParent, IsTree}
use Rattle.fork_store.specs.Arrays.{node_number, facts_of, IsArrayOf}
use Rattle.fork_store.proofs.Following.{number_fits}
use Rattle.fork_store.proofs.ArraysNodes.{length_nodes, slot_of_number}
use Rattle.fork_store.proofs.ArraysSteps.{keeps_block, keeps_spare}

module _ (store : Store) (a told : PlainArray) (block : BeaconBlock) (parent : ℕ) (is : IsArrayOf store a) (spare : told ≡ with_spare a 0) (at : Some parent ≡ node_number store.blocks block.parent_root) where
  pub parent_fits : parent < length told.nodes
  parent_fits = subst (λ (x : PlainArray). parent < length x.nodes) (sym spare) (number_fits store.blocks block.parent_root parent a at is.nodes)

  pub parent_earlier : IsTree store.blocks → HasParent store.blocks block → slot_at told.nodes parent < block.slot
  unfolding slot_of
  parent_earlier tree has =
      let s : slot_of store.blocks block.parent_root ≡ has.parent.block.slot = ap (λ (o : Option KeptBlock). option_map_or (λ kept. kept.block.slot) o 0) has.found in
      subst (λ (x : PlainArray). slot_at x.nodes parent < block.slot) (sym spare)
      (subst (λ nodes. slot_at nodes parent < block.slot) (sym is.nodes)
      (subst (λ n. n < block.slot) (sym s ∙ slot_of_number store.blocks tree block.parent_root parent (sym at)) has.earlier))

pub few_nodes : (store : Store) (a told : PlainArray) → IsArrayOf store a → told ≡ with_spare a 0 → length store.blocks < 2 ^ 32 - 1 → length told.nodes < 2 ^ 32 - 1
few_nodes store a told is spare few =
    let same : length told.nodes ≡ length a.nodes = ap (λ (x : PlainArray). length x.nodes) spare in
    let blocks = ap length is.nodes in
    omega (arith, few, same, blocks, length_nodes store.blocks)

-- room that was made is there
pub node_added : {U : Type 0} (result : Result U NoMemory) (a old new value : PlainArray) → old ≡ with_spare a 0 → Becomes result old new value → (0 < old.spare_nodes → IsOk result) → new ≡ value
node_added (Ok x) a old new value spare is room = is
node_added (Err stop) a old new value spare is room = absurd (false≢true (room (let s : old.spare_nodes ≡ max a.spare_nodes 1 = ap (λ (x : PlainArray). x.spare_nodes) spare in omega (arith, s))))

pub spare_array : (store : Store) (a told : PlainArray) → IsArrayOf store a → told ≡ with_spare a 0 → IsArrayOf store told
spare_array store a told is spare = subst (IsArrayOf store) (sym spare) (keeps_spare store a is 0)

pub block_array : (store after : Store) (a told new : PlainArray) (root : List ℕ) (block : BeaconBlock) (state : PlainState) (parent : ℕ) → IsArrayOf store a → told ≡ with_spare a 0 → same_root root zero_root ≡ false → Some parent ≡ node_number store.blocks block.parent_root
    → after ≡ record store { blocks = store.blocks ++ record { root = root; block = block; state = state } ∷ [] } → new ≡ with_node told parent block.slot root (record { justified = state.current_justified_checkpoint; finalized = state.finalized_checkpoint }) → IsArrayOf after new
unfolding facts_of
block_array store after a told new root block state parent is spare named at grown pushed =
    subst (IsArrayOf after) (sym pushed) (subst (λ (s : Store). IsArrayOf s (with_node told parent block.slot root (record { justified = state.current_justified_checkpoint; finalized = state.finalized_checkpoint }))) (sym grown)
    (keeps_block store told (spare_array store a told is spare) (record { root = root; block = block; state = state }) parent named (sym at)))

pub array_same : (store after : Store) (a : PlainArray) → IsArrayOf store a → after ≡ store → IsArrayOf after a
array_same store after a is same = subst (λ (s : Store). IsArrayOf s a) (sym same) is

pub told_same : (store : Store) (a after : PlainArray) → IsArrayOf store a → after ≡ a → IsArrayOf store after
told_same store a after is same = subst (IsArrayOf store) (sym same) is

pub ruleset keeping = (array_same)
