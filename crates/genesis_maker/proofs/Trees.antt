-- A tree is kept by a push, and its root and branches are those of its leaves.
use Rattle.std.proofs.Common.{◌≡◌, ◌∙◌, ℕ, suc, ◌+◌, ◌/◌, ◌^◌, ◌<◌, ◌≤◌, true, List, [], ◌∷◌, ◌++◌, length, replicate, get_or, set, Result, Ok, Err, refl, sym, ap, ap₂, subst, add-one, arith}
use Rattle.std.proofs.lemmas.List.{length-map, length_push, get_or-map, set_at, ext_get_or, get_or-replicate}
use Rattle.hash_tree.specs.Merkle.{merkle_root, mix_in_length, length_chunk}
use Rattle.spec_blocks.specs.IsValidMerkleBranch.{is_valid_merkle_branch}
use Rattle.spec_genesis.specs.Branches.{siblings, branch_of}
use Rattle.genesis_maker.specs.inside.Layers.{AreLayers, push_from, node_in, siblings_in}
use Rattle.spec_genesis.proofs.Subtrees.{halved, branch_holds, siblings_count}
use Rattle.bc_words.specs.Outcome.{Becomes}
use Rattle.bc_words.specs.declared.stop.NoMemory.{NoMemory}
use Rattle.genesis_maker.proofs.Layers.{push_keeps, places_of, root_in, siblings_are, leaves_in, none_are_layers}
use Rattle.genesis_maker.specs.inside.Trees.{nodes_of, HavePlaces, leaves_of, IsTree}

-- as many layers stay
push_count : (level place : ℕ) (node : List ℕ) (layers : List (List (List ℕ))) → length (push_from level place node layers) ≡ length layers
unfolding push_from
push_count level place node [] = refl
push_count level place node (layer ∷ layers) = ap suc (push_count (level + 1) (place / 2) _ layers)

count_is : (layers : List (List (List ℕ) × ℕ)) → length (nodes_of layers) ≡ length layers
count_is layers = length-map layers (λ (layer : List (List ℕ) × ℕ). layer.0)

-- the leaf's nodes have places
places_from : (level place : ℕ) (leaves : List (List ℕ)) (layers : List (List (List ℕ))) → place ≡ length leaves / 2 ^ level → AreLayers level leaves layers → HavePlaces place layers
places_from level place leaves [] at held = tt
places_from level place leaves (layer ∷ layers) at held =
    let up : place / 2 ≡ length leaves / 2 ^ (level + 1) = ap (λ (n : ℕ). n / 2) at ∙ halved (length leaves) level ∙ ap (λ (n : ℕ). length leaves / 2 ^ n) (sym (add-one level)) in
    (places_of level place leaves layer at held.0, places_from (level + 1) (place / 2) leaves layers up held.1)

pub have_places : (layers : List (List (List ℕ) × ℕ)) (place : ℕ) → IsTree layers → place ≡ length (leaves_of layers) → HavePlaces place (nodes_of layers)
have_places layers place tree at = places_from 0 place (leaves_of layers) (nodes_of layers) (omega arith) tree.are_layers

-- room alone changes no tree
pub tree_stays : (old new : List (List (List ℕ) × ℕ)) → IsTree old → nodes_of new ≡ nodes_of old → IsTree new × (leaves_of new ≡ leaves_of old)
tree_stays old new tree same =
    let leaves : leaves_of new ≡ leaves_of old = ap (λ (ls : List (List (List ℕ))). get_or ls 0 []) same in (
      record {
        long = omega (arith, count_is new, count_is old, ap length same, tree.long);
        are_layers = subst (λ (ls : List (List (List ℕ))). AreLayers 0 (get_or ls 0 []) ls) (sym same) tree.are_layers;
        fits = subst (λ (ls : List (List ℕ)). length ls ≤ 2 ^ 32) (sym leaves) tree.fits;
      },
      leaves,
    )

-- a leaf more
pub tree_grows : (old new : List (List (List ℕ) × ℕ)) (place : ℕ) (leaf : List ℕ) → IsTree old → place ≡ length (leaves_of old) → length (leaves_of old) < 2 ^ 32 → nodes_of new ≡ push_from 0 place leaf (nodes_of old) → IsTree new × (leaves_of new ≡ leaves_of old ++ leaf ∷ [])
tree_grows old new place leaf tree at room pushed =
    let now : nodes_of new ≡ push_from 0 (length (leaves_of old)) leaf (nodes_of old) = pushed ∙ ap (λ (n : ℕ). push_from 0 n leaf (nodes_of old)) at in
    let held : AreLayers 0 (leaves_of old ++ leaf ∷ []) (nodes_of new) = subst (AreLayers 0 (leaves_of old ++ leaf ∷ [])) (sym now) (push_keeps (nodes_of old) (leaves_of old) leaf tree.are_layers) in
    let long : length new ≡ 33 = sym (count_is new) ∙ ap length now ∙ push_count 0 (length (leaves_of old)) leaf (nodes_of old) ∙ count_is old ∙ tree.long in
    let leaves : leaves_of new ≡ leaves_of old ++ leaf ∷ [] = leaves_in (leaves_of old ++ leaf ∷ []) (nodes_of new) held (omega (arith, count_is new)) in (
      record {
        long = long;
        are_layers = subst (λ (ls : List (List ℕ)). AreLayers 0 ls (nodes_of new)) (sym leaves) held;
        fits = omega (arith, ap length leaves, length_push (leaves_of old) leaf);
      },
      leaves,
    )

-- the layers of no leaf
pub empty_tree : (layers : List (List (List ℕ) × ℕ)) → nodes_of layers ≡ replicate 33 [] → IsTree layers × (leaves_of layers ≡ [])
empty_tree layers none =
    let leaves : leaves_of layers ≡ [] = ap (λ (ls : List (List (List ℕ))). get_or ls 0 []) none in (
      record {
        long = sym (count_is layers) ∙ ap length none;
        are_layers = subst (λ (ls : List (List (List ℕ))). AreLayers 0 (get_or ls 0 []) ls) (sym none) (none_are_layers 33 0);
        fits = omega (arith, ap length leaves);
      },
      leaves,
    )

pub tree_root : (layers : List (List (List ℕ) × ℕ)) → IsTree layers → node_in 32 (get_or (nodes_of layers) 32 []) 0 ≡ merkle_root 32 (leaves_of layers)
tree_root layers tree = root_in (leaves_of layers) (nodes_of layers) tree.are_layers (count_is layers ∙ tree.long) tree.fits

pub tree_siblings : (layers : List (List (List ℕ) × ℕ)) (index : ℕ) → IsTree layers → siblings_in 32 0 (nodes_of layers) index ≡ siblings 32 0 (leaves_of layers) index
tree_siblings layers index tree = siblings_are 32 0 index index (leaves_of layers) (nodes_of layers) tree.are_layers (omega (arith, count_is layers, tree.long)) (omega arith)

pub tree_branch : (layers : List (List (List ℕ) × ℕ)) (index : ℕ) → IsTree layers → siblings_in 32 0 (nodes_of layers) index ++ length_chunk (length (leaves_of layers)) ∷ [] ≡ branch_of (leaves_of layers) index
unfolding branch_of
tree_branch layers index tree = ap (λ (s : List (List ℕ)). s ++ length_chunk (length (leaves_of layers)) ∷ []) (tree_siblings layers index tree)

pub tree_branch_holds : (layers : List (List (List ℕ) × ℕ)) (index : ℕ) → IsTree layers → index < length (leaves_of layers)
    → is_valid_merkle_branch (get_or (leaves_of layers) index []) (branch_of (leaves_of layers) index) 33 index (mix_in_length (merkle_root 32 (leaves_of layers)) (length (leaves_of layers))) ≡ true
tree_branch_holds layers index tree below = branch_holds (leaves_of layers) index below tree.fits

-- what a push leaves, whatever it answers
pub tree_after : (result : Result (Unit {0}) NoMemory) (old new : List (List (List ℕ) × ℕ)) (place : ℕ) (leaf : List ℕ) → IsTree old → place ≡ length (leaves_of old) → length (leaves_of old) < 2 ^ 32
    → Becomes result (nodes_of old) (nodes_of new) (push_from 0 place leaf (nodes_of old)) → IsTree new × Becomes result (leaves_of old) (leaves_of new) (leaves_of old ++ leaf ∷ [])
tree_after (Ok x) old new place leaf tree at room pushed = tree_grows old new place leaf tree at room pushed
tree_after (Err refused) old new place leaf tree at room same = tree_stays old new tree same

-- the nodes of one of the layers
pub layer_nodes : (layers : List (List (List ℕ) × ℕ)) (k : ℕ) (d : List (List ℕ) × ℕ) → k < length layers → (get_or layers k d).0 ≡ get_or (nodes_of layers) k []
layer_nodes layers k d inside = sym (get_or-map (λ (l : List (List ℕ) × ℕ). l.0) layers k d [] inside)

pub replaced_last : (front : List (List ℕ)) (old new : List ℕ) → length front ≡ 32 → set (front ++ old ∷ []) 32 new ≡ front ++ new ∷ []
replaced_last front old new long = set_at front old [] new 32 long

-- the written branch
pub branch_written : (layers : List (List (List ℕ) × ℕ)) (index : ℕ) (front : List (List ℕ)) (old last : List ℕ) (n : ℕ) → IsTree layers → front ≡ siblings_in 32 0 (nodes_of layers) index → last ≡ length_chunk n → n ≡ length (leaves_of layers)
    → set (front ++ old ∷ []) 32 last ≡ branch_of (leaves_of layers) index
branch_written layers index front old last n tree is chunk count =
    let long : length front ≡ 32 = ap length (is ∙ tree_siblings layers index tree) ∙ siblings_count 32 0 (leaves_of layers) index in
    replaced_last front old last long ∙ ap₂ (λ (s : List (List ℕ)) (x : List ℕ). s ++ x ∷ []) is (chunk ∙ ap length_chunk count) ∙ tree_branch layers index tree

-- layers without a node
pub all_empty : (layers : List (List (List ℕ) × ℕ)) → length layers ≡ 33 → ((i : ℕ) → i < 33 → (get_or layers i ([], 0)).0 ≡ []) → nodes_of layers ≡ replicate 33 []
all_empty layers long each =
    ext_get_or [] (nodes_of layers) (replicate 33 []) (count_is layers ∙ long)
    (λ i inside. let low : i < 33 = omega (arith, count_is layers) in
    get_or-map (λ (l : List (List ℕ) × ℕ). l.0) layers i ([], 0) [] (omega arith) ∙ each i low ∙ sym (get_or-replicate 33 i [] [] low))
