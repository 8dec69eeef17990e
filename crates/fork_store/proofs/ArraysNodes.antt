-- The node in the place of a kept block.
use Rattle.std.proofs.Common.{◌≡◌, ℕ, zero, suc, ◌<◌, ◌⊎◌, inl, inr, List, [], ◌∷◌, ◌++◌, length, take, drop, Option, Some, None, slice_get, refl, sym, ap, subst, ◌∙◌, arith}
use Rattle.std.specs.Option.{option_map_or, option_and_then}
use Rattle.std.proofs.lemmas.List.{append-nil, append_assoc}
use Rattle.block_array.specs.declared.node.Node.{Node}
use Rattle.block_array.specs.PlainArray.{slot_at, root_at, parent_at}
use Rattle.spec_state.specs.Genesis.{zero_root}
use Rattle.spec_fork_choice.specs.Store.{KeptBlock, block_of, first_slot, slot_of, parent_of}
use Rattle.spec_fork_choice.specs.Clash.{place_of}
use Rattle.fork_store.specs.Arrays.{node_number, node_of, nodes_behind, nodes_of}
use Rattle.fork_store.specs.Trees.{HasParent, Follows, IsTreeBehind, IsTree}
use Rattle.fork_store.proofs.ArraysPlaces.{at_number, block_more, number_more, number_fresh, number_found, no_number}

-- ---- behind others

node_behind : (before later : List KeptBlock) (n : ℕ) (kept : KeptBlock) → slice_get later n ≡ Some kept
    → slice_get (nodes_behind before later) n ≡ Some (node_of (before ++ take n later) kept)
unfolding nodes_behind
node_behind before [] n kept h = absurd cc
node_behind before (k ∷ later) zero kept h =
    let same : k ≡ kept = cc in
    ap (λ x. Some (node_of before x)) same ∙ ap (λ b. Some (node_of b kept)) (sym (append-nil before))
node_behind before (k ∷ later) (suc n) kept h =
    node_behind (before ++ k ∷ []) later n kept h ∙ ap (λ b. Some (node_of b kept)) (append_assoc before (k ∷ []) (take n later))

follows_behind : (before later : List KeptBlock) (n : ℕ) (kept : KeptBlock) → IsTreeBehind before later → slice_get later n ≡ Some kept
    → Follows (before ++ take n later) kept
unfolding IsTreeBehind
follows_behind before [] n kept tree h = absurd cc
follows_behind before (k ∷ later) zero kept tree h =
    let same : k ≡ kept = cc in
    subst (λ (b : List KeptBlock). Follows b kept) (sym (append-nil before)) (subst (λ (x : KeptBlock). Follows before x) same tree.0)
follows_behind before (k ∷ later) (suc n) kept tree h =
    subst (λ (b : List KeptBlock). Follows b kept) (append_assoc before (k ∷ []) (take n later)) (follows_behind (before ++ k ∷ []) later n kept tree.1 h)

length_behind : (before later : List KeptBlock) → length (nodes_behind before later) ≡ length later
unfolding nodes_behind
length_behind before [] = refl
length_behind before (k ∷ later) = ap suc (length_behind (before ++ k ∷ []) later)

push_behind : (before later : List KeptBlock) (kept : KeptBlock)
    → nodes_behind before (later ++ kept ∷ []) ≡ nodes_behind before later ++ node_of (before ++ later) kept ∷ []
unfolding nodes_behind
push_behind before [] kept = ap (λ b. node_of b kept ∷ []) (sym (append-nil before))
push_behind before (k ∷ later) kept =
    ap (λ nodes. node_of before k ∷ nodes)
    (push_behind (before ++ k ∷ []) later kept ∙ ap (λ b. nodes_behind (before ++ k ∷ []) later ++ node_of b kept ∷ []) (append_assoc before (k ∷ []) later))

-- ---- of all blocks

pub length_nodes : (blocks : List KeptBlock) → length (nodes_of blocks) ≡ length blocks
unfolding nodes_of
length_nodes blocks = length_behind [] blocks

pub nodes_push : (blocks : List KeptBlock) (kept : KeptBlock) → nodes_of (blocks ++ kept ∷ []) ≡ nodes_of blocks ++ node_of blocks kept ∷ []
unfolding nodes_of
nodes_push blocks kept = push_behind [] blocks kept

pub first_block : (blocks : List KeptBlock) (n : ℕ) (kept : KeptBlock) → take n blocks ≡ [] → slice_get blocks n ≡ Some kept → kept.block.slot ≡ first_slot blocks
unfolding first_slot
first_block [] n kept none h = absurd cc
first_block (k ∷ blocks) zero kept none h =
    let same : k ≡ kept = cc in
    ap (λ (x : KeptBlock). x.block.slot) (sym same)
first_block (k ∷ blocks) (suc n) kept none h = absurd cc

cut : (blocks : List KeptBlock) (n : ℕ) → take n blocks ++ drop n blocks ≡ blocks
cut [] zero = refl
cut [] (suc n) = refl
cut (k ∷ blocks) zero = refl
cut (k ∷ blocks) (suc n) = ap (λ xs. k ∷ xs) (cut blocks n)

item_of : {A : Type 0} (xs : List A) (n : ℕ) → n < length xs → (x : A) × (slice_get xs n ≡ Some x)
item_of [] n h = absurd (omega arith)
item_of (x ∷ xs) zero h = (x, refl)
item_of (x ∷ xs) (suc n) h = item_of xs n (omega arith)

-- what a block's parent is among the nodes
pub record HasParentNode (blocks : List KeptBlock) (n : ℕ) (kept : KeptBlock) : Type 0 where
  pub parent : ℕ
  pub number : node_number blocks kept.block.parent_root ≡ Some parent
  pub node : parent_at (nodes_of blocks) n ≡ Some parent
  pub earlier : slot_of blocks kept.block.parent_root < kept.block.slot

module _ (blocks : List KeptBlock) (tree : IsTree blocks) where
  module _ (n : ℕ) (kept : KeptBlock) (here : slice_get blocks n ≡ Some kept) where
    pub node_here : slice_get (nodes_of blocks) n ≡ Some (node_of (take n blocks) kept)
    unfolding nodes_of
    node_here = node_behind [] blocks n kept here

    pub follows_here : Follows (take n blocks) kept
    follows_here = follows_behind [] blocks n kept tree here

    pub number_here : node_number blocks kept.root ≡ Some n
    number_here = number_fresh blocks n kept here follows_here.fresh

    pub slot_here : slot_at (nodes_of blocks) n ≡ kept.block.slot
    unfolding slot_at node_of
    slot_here = ap (λ (o : Option Node). option_map_or (λ node. node.slot) o 0) node_here

    pub root_here : root_at (nodes_of blocks) n ≡ kept.root
    unfolding root_at node_of
    root_here = ap (λ (o : Option Node). option_map_or (λ node. node.root) o []) node_here

    pub parent_here : parent_at (nodes_of blocks) n ≡ node_number (take n blocks) kept.block.parent_root
    unfolding parent_at node_of
    parent_here = ap (λ (o : Option Node). option_and_then (λ node. node.parent) o) node_here

    found_parent : HasParent (take n blocks) kept.block → HasParentNode blocks n kept
    unfolding slot_of
    found_parent has =
        let p : ℕ = place_of (take n blocks) kept.block.parent_root in
        let numbered : node_number (take n blocks) kept.block.parent_root ≡ Some p = number_found (take n blocks) kept.block.parent_root has.parent has.found in
        record {
          parent = p;
          number = subst (λ (l : List KeptBlock). node_number l kept.block.parent_root ≡ Some p) (cut blocks n)
              (number_more (take n blocks) (drop n blocks) kept.block.parent_root p numbered);
          node = parent_here ∙ numbered;
          earlier =
              let found : block_of blocks kept.block.parent_root ≡ Some has.parent = subst (λ (l : List KeptBlock). block_of l kept.block.parent_root ≡ Some has.parent) (cut blocks n)
              (block_more (take n blocks) (drop n blocks) kept.block.parent_root has.parent has.found) in
              let at : slot_of blocks kept.block.parent_root ≡ has.parent.block.slot = ap (λ (o : Option KeptBlock). option_map_or (λ k. k.block.slot) o 0) found in
              omega (arith, has.earlier, at);
        }

    -- it has one among them, or it is the first
    pub parent_cases : ((kept.block.slot ≡ first_slot blocks) × (parent_at (nodes_of blocks) n ≡ None)) ⊎ HasParentNode blocks n kept
    parent_cases = elim follows_here.parent [
      | inl none ↦ inl (first_block blocks n kept none here, parent_here ∙ ap (λ l. node_number l kept.block.parent_root) none ∙ no_number kept.block.parent_root)
      | inr has ↦ inr (found_parent has)
    ]

  module _ (root : List ℕ) (n : ℕ) (numbered : node_number blocks root ≡ Some n) where
    pub root_of_number : root_at (nodes_of blocks) n ≡ root
    root_of_number = let it = at_number blocks root n numbered in root_here n it.kept it.at ∙ it.named

    pub slot_of_number : slot_of blocks root ≡ slot_at (nodes_of blocks) n
    unfolding slot_of
    slot_of_number =
        let it = at_number blocks root n numbered in
        ap (λ (o : Option KeptBlock). option_map_or (λ kept. kept.block.slot) o 0) it.found ∙ sym (slot_here n it.kept it.at)

    pub parent_of_number : parent_of blocks root ≡ (at_number blocks root n numbered).kept.block.parent_root
    unfolding parent_of
    parent_of_number =
        let it = at_number blocks root n numbered in
        ap (λ (o : Option KeptBlock). option_map_or (λ kept. kept.block.parent_root) o zero_root) it.found

  pub root_number : (n : ℕ) → n < length blocks → node_number blocks (root_at (nodes_of blocks) n) ≡ Some n
  root_number n inside =
      let it = item_of blocks n inside in
      ap (node_number blocks) (root_here n it.0 it.1) ∙ number_here n it.0 it.1
