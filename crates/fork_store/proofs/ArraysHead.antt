-- The filtered tree and the head of a store are those of its array.
use Rattle.std.proofs.Common.{◌≡◌, ◌<◌, ◌≤◌, ℕ, zero, suc, inl, inr, arith, Bool, true, false, cond, ◌||◌, ◌&&◌, eqb, nat_lt, List, [], ◌∷◌, ◌++◌, length, map, filter, take, Option, Some, slice_get, refl, sym, ap, ap₂, subst, ◌∙◌}
use Rattle.std.specs.List.{AllByRecursion, list_any}
use Rattle.std.specs.Option.{option_map_or, option_and_then}
use Rattle.std.proofs.lemmas.Bool.{le-ltb, lt-ltb}
use Rattle.std.proofs.lemmas.List.{append_assoc}
use Rattle.beacon_types.specs.Equality.{same_root, same_checkpoint}
use Rattle.block_array.specs.declared.node.Node.{Node}
use Rattle.block_array.specs.PlainArray.{PlainArray, root_at, parent_at}
use Rattle.block_array.specs.FilterBlockTree as tree_of
use Rattle.block_array.specs.GetHead as heads
use Rattle.spec_fork_choice.specs.Store.{KeptBlock, Store, first_slot, slot_of}
use Rattle.spec_fork_choice.specs.FilterBlockTree.{is_child, has_child, agrees, is_viable, with_viable, filter_block_tree, get_filtered_block_tree}
use Rattle.spec_fork_choice.specs.GetLatestAttestingBalance.{get_latest_attesting_balance}
use Rattle.spec_fork_choice.specs.GetHead.{is_greater_root, goes_before, best_of, children_of, next_head, head_within, get_head}
use Rattle.fork_store.specs.Arrays.{node_number, facts_of, node_of, nodes_behind, nodes_of, IsArrayOf}
use Rattle.fork_store.specs.Stores.{HasPreset}
use Rattle.fork_store.specs.Trees.{IsTree}
use Rattle.fork_store.proofs.ArraysPlaces.{at_number, same_is, same_number}
use Rattle.fork_store.proofs.ArraysNodes.{parent_cases, slot_here, slot_of_number, node_here, number_here, root_here, length_nodes, root_of_number}
use Rattle.fork_store.proofs.FirstSlots.{slot_late}
use Rattle.fork_store.proofs.ArraysWeights.{same_weight}

-- ---- a list behind another one

pub get_behind : {A : Type 0} (before later : List A) (x : A) → slice_get (before ++ x ∷ later) (length before) ≡ Some x
get_behind [] later x = refl
get_behind (y ∷ before) later x = get_behind before later x

pub take_before : {A : Type 0} (before later : List A) → take (length before) (before ++ later) ≡ before
take_before [] later = refl
take_before (y ∷ before) later = ap (λ xs. y ∷ xs) (take_before before later)

length_push : {A : Type 0} (xs : List A) (x : A) → length (xs ++ x ∷ []) ≡ suc (length xs)
length_push [] x = refl
length_push (y ∷ xs) x = ap suc (length_push xs x)

-- ---- blocks of numbers

-- the blocks are those in the places that the numbers name
abbrev pub AreAt : List KeptBlock → List ℕ → List KeptBlock → Type 0
AreAt blocks [] [] = Unit {0}
AreAt blocks [] (k ∷ ks) = ⊥
AreAt blocks (n ∷ ns) [] = ⊥
AreAt blocks (n ∷ ns) (k ∷ ks) = (slice_get blocks n ≡ Some k) × AreAt blocks ns ks

chosen : (blocks : List KeptBlock) (b d : Bool) (n : ℕ) (c : KeptBlock) (ns : List ℕ) (ks : List KeptBlock) → b ≡ d → slice_get blocks n ≡ Some c
    → AreAt blocks ns ks → AreAt blocks (cond b (n ∷ ns) ns) (cond d (c ∷ ks) ks)
chosen blocks true true n c ns ks same here are = (here, are)
chosen blocks true false n c ns ks same here are = absurd cc
chosen blocks false true n c ns ks same here are = absurd cc
chosen blocks false false n c ns ks same here are = are

module _ (store : Store) (a : PlainArray) (is : IsArrayOf store a) (tree : IsTree store.blocks) where
  abbrev blocks : List KeptBlock
  blocks = store.blocks

  -- ---- children

  module _ (i : ℕ) (k : KeptBlock) (at : slice_get blocks i ≡ Some k) where
    -- a block names the parent, and is behind it
    child_by : (c : KeptBlock) (named : Bool) → same_root c.block.parent_root k.root ≡ named → (named ≡ true → k.block.slot < c.block.slot) → named ≡ (named && nat_lt k.block.slot c.block.slot)
    child_by c true e later = sym (lt-ltb k.block.slot c.block.slot (later refl))
    child_by c false e later = refl

    slot_here_of : slot_of blocks k.root ≡ k.block.slot
    slot_here_of = slot_of_number blocks tree k.root i (number_here blocks tree i k at) ∙ slot_here blocks tree i k at

    no_child : (named : Bool) → false ≡ (named && false)
    no_child true = refl
    no_child false = refl

    child_of_nodes : (n : ℕ) (c : KeptBlock) → slice_get blocks n ≡ Some c → tree_of.is_child_at (nodes_of blocks) i n ≡ is_child k.root k.block.slot c
    unfolding tree_of.is_child_at is_child
    child_of_nodes n c here = elim (parent_cases blocks tree n c here) [
      | inl first ↦
          let it = at_number blocks k.root i (number_here blocks tree i k at) in
          let late : first_slot blocks ≤ slot_of blocks k.root = slot_late blocks k.root it.kept tree it.found in
          let behind : c.block.slot ≤ k.block.slot = omega (arith, late, first.0, slot_here_of) in
          ap (λ o. option_map_or (λ p. eqb p i) o false) first.1
          ∙ no_child (same_root c.block.parent_root k.root)
          ∙ ap (λ b. same_root c.block.parent_root k.root && b) (sym (le-ltb k.block.slot c.block.slot behind))
      | inr has ↦
          ap (λ o. option_map_or (λ p. eqb p i) o false) has.node
          ∙ sym (same_number blocks c.block.parent_root k.root has.parent i has.number (number_here blocks tree i k at))
          ∙ child_by c (same_root c.block.parent_root k.root) refl
          (λ is.
          let same : slot_of blocks c.block.parent_root ≡ slot_of blocks k.root = ap (slot_of blocks) (same_is c.block.parent_root k.root is) in
          omega (arith, has.earlier, same, slot_here_of))
    ]

    child_at : (n : ℕ) (c : KeptBlock) → slice_get blocks n ≡ Some c → tree_of.is_child_at a.nodes i n ≡ is_child k.root k.block.slot c
    child_at n c here = ap (λ nodes. tree_of.is_child_at nodes i n) is.nodes ∙ child_of_nodes n c here

    any_at : (ns : List ℕ) (ks : List KeptBlock) → AreAt blocks ns ks → list_any (tree_of.is_child_at a.nodes i) ns ≡ has_child k ks
    unfolding has_child
    any_at [] [] are = refl
    any_at [] (c ∷ ks) are = absurd are
    any_at (n ∷ ns) [] are = absurd are
    any_at (n ∷ ns) (c ∷ ks) are = ap₂ (λ x y. x || y) (child_at n c are.0) (any_at ns ks are.1)

    child_behind : (before later : List KeptBlock) (c : KeptBlock) → before ++ c ∷ later ≡ blocks → tree_of.is_child i (node_of before c) ≡ is_child k.root k.block.slot c
    unfolding tree_of.is_child tree_of.is_child_at parent_at
    child_behind before later c e =
        let here : slice_get blocks (length before) ≡ Some c = subst (λ (l : List KeptBlock). slice_get l (length before) ≡ Some c) e
        (get_behind before later c) in
        let cut : take (length before) blocks ≡ before = subst (λ (l : List KeptBlock). take (length before) l ≡ before) e (take_before before (c ∷ later)) in
        ap (λ b. option_map_or (λ p. eqb p i) (node_of b c).parent false) (sym cut)
        ∙ ap (λ (o : Option Node). option_map_or (λ p. eqb p i) (option_and_then (λ node. node.parent) o) false)
        (sym (node_here blocks tree (length before) c here))
        ∙ child_of_nodes (length before) c here

    any_behind : (before later : List KeptBlock) → before ++ later ≡ blocks → list_any (tree_of.is_child i) (nodes_behind before later) ≡ has_child k later
    unfolding has_child nodes_behind
    any_behind before [] e = refl
    any_behind before (c ∷ later) e =
        ap₂ (λ x y. x || y) (child_behind before later c e) (any_behind (before ++ c ∷ []) later (append_assoc before (c ∷ []) later ∙ e))

    filter_at : (ns : List ℕ) (ks : List KeptBlock) → AreAt blocks ns ks → AreAt blocks (filter (tree_of.is_child_at a.nodes i) ns)
        (filter (is_child k.root k.block.slot) ks)
    filter_at [] [] are = tt
    filter_at [] (c ∷ ks) are = absurd are
    filter_at (n ∷ ns) [] are = absurd are
    filter_at (n ∷ ns) (c ∷ ks) are = chosen blocks (tree_of.is_child_at a.nodes i n) (is_child k.root k.block.slot c) n c _ _ (child_at n c are.0) are.0
        (filter_at ns ks are.1)

  -- ---- the filtered tree

  same_agreement : (before : List KeptBlock) (c : KeptBlock) → tree_of.agrees a (node_of before c) ≡ agrees store c
  unfolding tree_of.agrees agrees node_of facts_of
  same_agreement before c =
      ap₂ (λ j f. (eqb j.epoch 0 || same_checkpoint c.state.current_justified_checkpoint j) &&
      (eqb f.epoch 0 || same_checkpoint c.state.finalized_checkpoint f)) is.justified is.finalized

  filter_behind : (before later : List KeptBlock) → before ++ later ≡ blocks
      → AreAt blocks (tree_of.filter_block_tree a (length before) (nodes_behind before later)) (filter_block_tree store later)
  unfolding tree_of.filter_block_tree tree_of.with_viable tree_of.is_viable filter_block_tree with_viable is_viable nodes_behind
  filter_behind before [] e = tt
  filter_behind before (c ∷ later) e =
      let rest : List Node = nodes_behind (before ++ c ∷ []) later in
      let ns : List ℕ = tree_of.filter_block_tree a (suc (length before)) rest in
      let ks : List KeptBlock = filter_block_tree store later in
      let here : slice_get blocks (length before) ≡ Some c = subst (λ (l : List KeptBlock). slice_get l (length before) ≡ Some c) e
      (get_behind before later c) in
      let on : (before ++ c ∷ []) ++ later ≡ blocks = append_assoc before (c ∷ []) later ∙ e in
      let are : AreAt blocks ns ks = subst (λ n. AreAt blocks (tree_of.filter_block_tree a n rest) ks) (length_push before c)
      (filter_behind (before ++ c ∷ []) later on) in
      chosen blocks (tree_of.is_viable a (length before) (node_of before c) rest ns) (is_viable store c later ks) (length before) c ns ks
      (ap₂ (λ x y. cond x y (tree_of.agrees a (node_of before c))) (any_behind (length before) c here (before ++ c ∷ []) later on)
      (any_at (length before) c here ns ks are)
      ∙ ap (λ y. cond (has_child c later) (has_child c ks) y) (same_agreement before c))
      here are

  pub filtered_at : AreAt blocks (tree_of.get_filtered_block_tree a) (get_filtered_block_tree store)
  unfolding tree_of.get_filtered_block_tree get_filtered_block_tree nodes_of
  filtered_at = subst (λ nodes. AreAt blocks (tree_of.filter_block_tree a 0 nodes) (filter_block_tree store blocks)) (sym is.nodes)
      (filter_behind [] blocks refl)

  roots_at : (ns : List ℕ) (ks : List KeptBlock) → AreAt blocks ns ks → map (λ kept. kept.root) ks ≡ map (root_at a.nodes) ns
  roots_at [] [] are = refl
  roots_at [] (c ∷ ks) are = absurd are
  roots_at (n ∷ ns) [] are = absurd are
  roots_at (n ∷ ns) (c ∷ ks) are =
      ap₂ (λ x xs. x ∷ xs) (sym (root_here blocks tree n c are.0) ∙ ap (λ nodes. root_at nodes n) (sym is.nodes)) (roots_at ns ks are.1)

  pub filtered_roots : map (λ kept. kept.root) (get_filtered_block_tree store) ≡ map (root_at a.nodes) (tree_of.get_filtered_block_tree a)
  filtered_roots = roots_at (tree_of.get_filtered_block_tree a) (get_filtered_block_tree store) filtered_at

  -- ---- the head

  module _ (presets : AllByRecursion (HasPreset store.config.preset) store.blocks) where
    same_order : (n m : ℕ) (c d : KeptBlock) → slice_get blocks n ≡ Some c → slice_get blocks m ≡ Some d → heads.goes_before a n m ≡ goes_before store c d
    unfolding heads.goes_before goes_before heads.is_greater_root is_greater_root
    same_order n m c d here there =
        ap₂ (λ x y. nat_lt y x || (eqb y x && is_greater_root (root_at a.nodes n) (root_at a.nodes m)))
        (sym (same_weight store a is tree c.root n (number_here blocks tree n c here) presets))
        (sym (same_weight store a is tree d.root m (number_here blocks tree m d there) presets))
        ∙ ap₂ (λ x y. nat_lt (get_latest_attesting_balance store d.root) (get_latest_attesting_balance store c.root)
        || (eqb (get_latest_attesting_balance store d.root) (get_latest_attesting_balance store c.root) && is_greater_root x y))
        (ap (λ nodes. root_at nodes n) is.nodes ∙ root_here blocks tree n c here) (ap (λ nodes. root_at nodes m) is.nodes ∙ root_here blocks tree m d there)

    best_by : (b d : Bool) (x y z w : Option KeptBlock) → b ≡ d → x ≡ z → y ≡ w → cond b x y ≡ cond d z w
    best_by b d x y z w same one two = ap₂ (λ p q. cond b p q) one two ∙ ap (λ t. cond t z w) same

    best_at : (b : ℕ) (k : KeptBlock) (ns : List ℕ) (ks : List KeptBlock) → slice_get blocks b ≡ Some k → AreAt blocks ns ks → slice_get blocks
        (heads.best_of a b ns) ≡ Some (best_of store k ks)
    unfolding heads.best_of best_of
    best_at b k [] [] here are = here
    best_at b k [] (c ∷ ks) here are = absurd are
    best_at b k (n ∷ ns) [] here are = absurd are
    best_at b k (n ∷ ns) (c ∷ ks) here are =
        out_of (heads.goes_before a n b) (heads.best_of a n ns) (heads.best_of a b ns)
        ∙ best_by (heads.goes_before a n b) (goes_before store c k) _ _ _ _ (same_order n b c k are.0 here) (best_at n c ns ks are.0 are.1)
        (best_at b k ns ks here are.1)
        ∙ into (goes_before store c k) (best_of store c ks) (best_of store k ks)
      where
        out_of : (t : Bool) (x y : ℕ) → slice_get blocks (cond t x y) ≡ cond t (slice_get blocks x) (slice_get blocks y)
        out_of true x y = refl
        out_of false x y = refl

        into : (t : Bool) (x y : KeptBlock) → cond t (Some x) (Some y) ≡ Some (cond t x y)
        into true x y = refl
        into false x y = refl

    next_at : (root : List ℕ) (n : ℕ) (ns : List ℕ) (ks : List KeptBlock) → node_number blocks root ≡ Some n → AreAt blocks ns ks → node_number blocks
        (next_head store root ks) ≡ Some (heads.next_head a n ns)
    unfolding next_head heads.next_head
    next_at root n [] [] numbered are = numbered
    next_at root n [] (c ∷ ks) numbered are = absurd are
    next_at root n (m ∷ ns) [] numbered are = absurd are
    next_at root n (m ∷ ns) (c ∷ ks) numbered are = number_here blocks tree (heads.best_of a m ns) (best_of store c ks) (best_at m c ns ks are.0 are.1)

    children_at : (root : List ℕ) (n : ℕ) (ns : List ℕ) (ks : List KeptBlock) → node_number blocks root ≡ Some n → AreAt blocks ns ks → AreAt blocks
        (heads.children_of a ns n) (children_of store ks root)
    unfolding heads.children_of children_of
    children_at root n ns ks numbered are =
        let it = at_number blocks root n numbered in
        subst (λ r. AreAt blocks (filter (tree_of.is_child_at a.nodes n) ns) (filter (is_child r (slot_of blocks r)) ks)) it.named
        (subst (λ s. AreAt blocks (filter (tree_of.is_child_at a.nodes n) ns) (filter (is_child it.kept.root s) ks)) (sym (slot_here_of n it.kept it.at))
        (filter_at n it.kept it.at ns ks are))

    head_number_within : (steps : ℕ) (root : List ℕ) (n : ℕ) (ns : List ℕ) (ks : List KeptBlock) → node_number blocks root ≡ Some n → AreAt blocks ns ks
        → node_number blocks (head_within steps store ks root) ≡ Some (heads.head_within steps a ns n)
    unfolding head_within heads.head_within
    head_number_within zero root n ns ks numbered are = numbered
    head_number_within (suc steps) root n ns ks numbered are =
        head_number_within steps (next_head store root (children_of store ks root)) (heads.next_head a n (heads.children_of a ns n)) ns ks
        (next_at root n (heads.children_of a ns n) (children_of store ks root) numbered (children_at root n ns ks numbered are)) are

    pub head_number : node_number blocks (get_head store) ≡ Some (heads.get_head a)
    unfolding get_head heads.get_head
    head_number =
        head_number_within (length blocks) store.justified_checkpoint.root a.justified_node (tree_of.get_filtered_block_tree a)
        (get_filtered_block_tree store) is.justified_node filtered_at
        ∙ ap (λ steps. Some (heads.head_within steps a (tree_of.get_filtered_block_tree a) a.justified_node)) (sym (ap length is.nodes ∙ length_nodes blocks))

    pub head_root : get_head store ≡ root_at a.nodes (heads.get_head a)
    head_root = sym (ap (λ nodes. root_at nodes (heads.get_head a)) is.nodes ∙ root_of_number blocks tree (get_head store) (heads.get_head a) head_number)
