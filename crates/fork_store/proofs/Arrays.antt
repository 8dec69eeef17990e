-- The array of a store gives what the store's own definitions give.
use Rattle.std.proofs.Common.{◌≡◌, ◌≤◌, ℕ, List, map, Some, sym, ap, ◌∙◌}
use Rattle.block_array.specs.PlainArray.{PlainArray, root_at}
use Rattle.block_array.specs.FilterBlockTree as array_tree
use Rattle.block_array.specs.GetAncestor as array_ancestor
use Rattle.block_array.specs.GetHead as array_head
use Rattle.block_array.specs.GetLatestAttestingBalance as array_weight
use Rattle.spec_fork_choice.specs.Store.{KeptBlock, Store, first_slot}
use Rattle.spec_fork_choice.specs.GetAncestor.{get_ancestor}
use Rattle.spec_fork_choice.specs.FilterBlockTree.{get_filtered_block_tree}
use Rattle.spec_fork_choice.specs.GetHead.{get_head}
use Rattle.spec_fork_choice.specs.GetLatestAttestingBalance.{get_latest_attesting_balance}
use Rattle.fork_store.specs.Arrays.{node_number, IsBoostedNode, IsArrayOf}
use Rattle.fork_store.specs.Stores.{IsStore}
use Rattle.fork_store.proofs.ArraysAncestors.{get_ancestor_root}
use Rattle.fork_store.proofs.ArraysWeights.{same_weight}
use Rattle.fork_store.proofs.ArraysHead.{filtered_roots, head_root}

module _ (store : Store) (a : PlainArray) (is : IsArrayOf store a) (good : IsStore store) where
  -- the node of a root
  module _ (root : List ℕ) (n : ℕ) (numbered : node_number store.blocks root ≡ Some n) where
    -- get_ancestor
    pub ancestor : (slot : ℕ) → first_slot store.blocks ≤ slot → get_ancestor store root slot ≡ root_at a.nodes (array_ancestor.get_ancestor a.nodes n slot)
    ancestor slot late =
        get_ancestor_root store good.tree root n slot late numbered
        ∙ ap (λ nodes. root_at nodes (array_ancestor.get_ancestor nodes n slot)) (sym is.nodes)

    -- get_latest_attesting_balance
    pub weight : get_latest_attesting_balance store root ≡ array_weight.get_latest_attesting_balance a n
    weight = same_weight store a is good.tree root n numbered good.presets

  -- get_filtered_block_tree
  pub filtered : map (λ kept. kept.root) (get_filtered_block_tree store) ≡ map (root_at a.nodes) (array_tree.get_filtered_block_tree a)
  filtered = filtered_roots store a is good.tree

  -- get_head
  pub head : get_head store ≡ root_at a.nodes (array_head.get_head a)
  head = head_root store a is good.tree good.presets

pub ruleset agreeing = (ancestor, weight, filtered, head)

-- the boosted node is that of a kept block
pub boosted_some : (blocks : List KeptBlock) (root : List ℕ) (n : ℕ) → node_number blocks root ≡ Some n → IsBoostedNode blocks root (Some n)
unfolding IsBoostedNode
boosted_some blocks root n numbered = numbered
