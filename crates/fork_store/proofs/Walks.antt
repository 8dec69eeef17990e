-- The walk from a block to its parents, by its node's parents in the array.
use Rattle.std.proofs.Common.{◌≡◌, ℕ, zero, suc, ◌<◌, ◌≤◌, ◌^◌, cond, List, [], length, get_or, Option, Some, None, refl, sym, ap, ◌∙◌, arith}
use Rattle.std.specs.List.{AllByRecursion}
use Rattle.std.specs.Option.{option_map_or}
use Rattle.std.proofs.lemmas.Bool.{le-ltb}
use Rattle.block_array.specs.PlainArray.{PlainArray}
use Rattle.block_array.specs.GetAncestor as array
use Rattle.block_array.specs.declared.node.Node.{Node}
use Rattle.spec_fork_choice.specs.Store.{KeptBlock, Store, first_slot, slot_of, parent_of}
use Rattle.spec_fork_choice.specs.GetAncestor.{ancestor_within, get_ancestor}
use Rattle.fork_store.specs.Arrays.{Balances, node_number, AreNodesOf, IsArrayOf}
use Rattle.fork_store.specs.Roots.{roots_of}
use Rattle.fork_store.specs.Stores.{IsStore, IsKept}
use Rattle.fork_store.specs.inside.Wholes.{IsWhole}
use Rattle.fork_store.proofs.ArraysPlaces.{number_inside}
use Rattle.fork_store.proofs.ArraysNodes.{length_nodes}
use Rattle.fork_store.proofs.ArraysAncestors.{get_ancestor_number}
use Rattle.fork_store.proofs.Finds.{block_missed}
use Rattle.fork_store.proofs.Presets.{slot_is_low}
use Rattle.fork_store.proofs.Heads.{root_in_place, place_fits}

-- ---- where the walk ends at once

stays : (steps : ℕ) (blocks : List KeptBlock) (root : List ℕ) (slot : ℕ) → slot_of blocks root ≤ slot → root ≡ ancestor_within steps blocks root slot
unfolding ancestor_within
stays zero blocks root slot there = refl
stays (suc steps) blocks root slot there = sym (ap (λ b. cond b (ancestor_within steps blocks (parent_of blocks root) slot) root) (le-ltb slot (slot_of blocks root) there))

pub walk_stays : (store : Store) (root : List ℕ) (slot : ℕ) → slot_of store.blocks root ≤ slot → root ≡ get_ancestor store root slot
unfolding get_ancestor
walk_stays store root slot there = stays (length store.blocks) store.blocks root slot there

-- a root that isn't kept stands for slot 0
pub walk_nowhere : (store : Store) (root : List ℕ) (slot : ℕ) → None ≡ node_number store.blocks root → root ≡ get_ancestor store root slot
unfolding slot_of
walk_nowhere store root slot none =
    let at_zero : slot_of store.blocks root ≡ 0 = ap (λ (o : Option KeptBlock). option_map_or (λ kept. kept.block.slot) o 0) (sym (block_missed store.blocks root none)) in
    walk_stays store root slot (omega (arith, at_zero))

-- and no kept block is as late as 2^64
pub walk_late : (store : Store) (root : List ℕ) (slot : ℕ) → AllByRecursion IsKept store.blocks → 2 ^ 64 ≤ slot → root ≡ get_ancestor store root slot
walk_late store root slot all late = let low : slot_of store.blocks root < 2 ^ 64 = slot_is_low store.blocks root all in walk_stays store root slot (omega (arith, low, late))

pub ruleset ending = (walk_late)

-- ---- by nodes

module _ (store : Store) (nodes : List Node) (root : List ℕ) (node : ℕ) (are : AreNodesOf store.blocks nodes) (at : Some node ≡ node_number store.blocks root) where
  pub node_inside : node < length nodes
  node_inside =
      let fits : node < length store.blocks = number_inside store.blocks root node (sym at) in
      let many = ap length are.same in
      omega (arith, fits, many, length_nodes store.blocks)

  module _ (sound : IsStore store) (slot ancestor : ℕ) (late : first_slot store.blocks ≤ slot) (is : ancestor ≡ array.get_ancestor nodes node slot) where
    ancestor_number : node_number store.blocks (get_ancestor store root slot) ≡ Some ancestor
    ancestor_number =
        get_ancestor_number store sound.tree root node slot late (sym at)
        ∙ ap (λ (ns : List Node). Some (array.get_ancestor ns node slot)) (sym are.same)
        ∙ ap Some (sym is)

    pub ancestor_fits : (roots : List (List ℕ)) → roots ≡ roots_of store.blocks → ancestor < length roots
    ancestor_fits roots same = place_fits store.blocks (get_ancestor store root slot) ancestor ancestor_number roots same

    pub ancestor_is : (roots : List (List ℕ)) → roots ≡ roots_of store.blocks → get_or roots ancestor [] ≡ get_ancestor store root slot
    ancestor_is roots same = root_in_place store.blocks (get_ancestor store root slot) ancestor ancestor_number roots same

pub ruleset walking = (node_inside, ancestor_fits, ancestor_is, walk_nowhere)

-- ---- the nodes of an array

pub array_nodes : (store : Store) (a : PlainArray) → IsArrayOf store a → length store.blocks < 2 ^ 32 → AreNodesOf store.blocks a.nodes
array_nodes store a is few = record { same = is.nodes; named = is.named; few = few }

pub whole_nodes : (store : Store) (a : PlainArray) (ready : Option Balances) → IsWhole store a ready → AreNodesOf store.blocks a.nodes
whole_nodes store a ready whole = array_nodes store a whole.array_of whole.few
