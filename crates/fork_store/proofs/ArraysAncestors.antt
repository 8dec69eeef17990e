-- The walk from a block to its parents is that from its node.
use Rattle.std.proofs.Common.{◌≡◌, ℕ, zero, suc, ◌<◌, ◌≤◌, inl, inr, Bool, true, false, cond, eqb, nat_lt, List, length, Some, refl, sym, ap, ◌∙◌, arith}
use Rattle.std.specs.Option.{unwrap_or}
use Rattle.std.proofs.lemmas.Bool.{ltb-true}
use Rattle.block_array.specs.PlainArray.{root_at}
use Rattle.block_array.specs.GetAncestor as array
use Rattle.block_array.specs.GetLatestAttestingBalance as weights
use Rattle.spec_fork_choice.specs.Store.{KeptBlock, Store, first_slot, slot_of, parent_of}
use Rattle.spec_fork_choice.specs.GetAncestor.{ancestor_within, get_ancestor}
use Rattle.spec_fork_choice.specs.GetLatestAttestingBalance.{is_on_chain_of}
use Rattle.fork_store.specs.Arrays.{node_number, nodes_of}
use Rattle.fork_store.specs.Trees.{IsTree}
use Rattle.fork_store.proofs.ArraysPlaces.{at_number, same_number}
use Rattle.fork_store.proofs.FirstSlots.{slot_late}
use Rattle.fork_store.proofs.ArraysNodes.{length_nodes, parent_cases, slot_here, slot_of_number, root_of_number, parent_of_number}

module _ (blocks : List KeptBlock) (tree : IsTree blocks) (slot : ℕ) (late : first_slot blocks ≤ slot) where
  step_by : (later : Bool) (root other : List ℕ) (n m : ℕ) → node_number blocks root ≡ Some n → (later ≡ true → node_number blocks other ≡ Some m)
      → node_number blocks (cond later other root) ≡ Some (cond later m n)
  step_by true root other n m here there = there refl
  step_by false root other n m here there = here

  -- a block behind a slot that isn't before the first block's isn't the first
  parent_after : (root : List ℕ) (n : ℕ) → node_number blocks root ≡ Some n → slot < slot_of blocks root
      → (node_number blocks (parent_of blocks root) ≡ Some (array.parent_or_self (nodes_of blocks) n))
  unfolding array.parent_or_self
  parent_after root n numbered later =
      let it = at_number blocks root n numbered in
      let is_slot : slot_of blocks root ≡ it.kept.block.slot = slot_of_number blocks tree root n numbered ∙ slot_here blocks tree n it.kept it.at in
      elim (parent_cases blocks tree n it.kept it.at) [
        | inl first ↦ let at : it.kept.block.slot ≡ first_slot blocks = first.0 in absurd (omega arith)
        | inr has ↦
            ap (node_number blocks) (parent_of_number blocks tree root n numbered)
            ∙ has.number
            ∙ ap (λ o. Some (unwrap_or o n)) (sym has.node)
      ]

  pub ancestor_number : (k : ℕ) (root : List ℕ) (n : ℕ) → node_number blocks root ≡ Some n
      → node_number blocks (ancestor_within k blocks root slot) ≡ Some (array.ancestor_within k (nodes_of blocks) n slot)
  unfolding ancestor_within array.ancestor_within
  ancestor_number zero root n numbered = numbered
  ancestor_number (suc k) root n numbered =
      step_by (nat_lt slot (slot_of blocks root)) root (ancestor_within k blocks (parent_of blocks root) slot) n
      (array.ancestor_within k (nodes_of blocks) (array.parent_or_self (nodes_of blocks) n) slot) numbered
      (λ is. ancestor_number k (parent_of blocks root) (array.parent_or_self (nodes_of blocks) n)
      (parent_after root n numbered (ltb-true slot (slot_of blocks root) is)))
      ∙ ap (λ s. Some (cond (nat_lt slot s) (array.ancestor_within k (nodes_of blocks) (array.parent_or_self (nodes_of blocks) n) slot) n))
      (slot_of_number blocks tree root n numbered)

module _ (store : Store) (tree : IsTree store.blocks) where
  pub get_ancestor_number : (root : List ℕ) (n slot : ℕ) → first_slot store.blocks ≤ slot → node_number store.blocks root ≡ Some n
      → node_number store.blocks (get_ancestor store root slot) ≡ Some (array.get_ancestor (nodes_of store.blocks) n slot)
  unfolding get_ancestor array.get_ancestor
  get_ancestor_number root n slot late numbered =
      ancestor_number store.blocks tree slot late (length store.blocks) root n numbered
      ∙ ap (λ k. Some (array.ancestor_within k (nodes_of store.blocks) n slot)) (sym (length_nodes store.blocks))

  pub get_ancestor_root : (root : List ℕ) (n slot : ℕ) → first_slot store.blocks ≤ slot → node_number store.blocks root ≡ Some n
      → get_ancestor store root slot ≡ root_at (nodes_of store.blocks) (array.get_ancestor (nodes_of store.blocks) n slot)
  get_ancestor_root root n slot late numbered = sym (root_of_number store.blocks tree _ _ (get_ancestor_number root n slot late numbered))

  -- a block is on the chain of another one exactly where its node is
  pub on_chain : (root : List ℕ) (n : ℕ) → node_number store.blocks root ≡ Some n → (other : List ℕ) (m : ℕ) → node_number store.blocks other ≡ Some m
      → is_on_chain_of store root other ≡ weights.is_on_chain_of (nodes_of store.blocks) n m
  unfolding is_on_chain_of weights.is_on_chain_of
  on_chain root n numbered other m there =
      let it = at_number store.blocks root n numbered in
      let late : first_slot store.blocks ≤ slot_of store.blocks root = slot_late store.blocks root it.kept tree it.found in
      same_number store.blocks (get_ancestor store other (slot_of store.blocks root)) root
      (array.get_ancestor (nodes_of store.blocks) m (slot_of store.blocks root)) n
      (get_ancestor_number other m (slot_of store.blocks root) late there) numbered
      ∙ ap (λ s. eqb (array.get_ancestor (nodes_of store.blocks) m s) n) (slot_of_number store.blocks tree root n numbered)
