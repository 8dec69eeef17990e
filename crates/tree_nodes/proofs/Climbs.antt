-- Layers of nodes: the leaves, an even number of nodes, and the layer above.
use Rattle.std.proofs.Common.{◌≡◌, ℕ, zero, suc, ◌+◌, ◌-◌, ◌*◌, ◌<◌, ◌≤◌, ◌^◌, List, [], ◌∷◌, ◌++◌, length, map, take, drop, refl, sym, ap, ap₂, subst, ◌∙◌, arith, length-append}
use Rattle.std.specs.Prelude.{slice_index_or}
use Rattle.std.proofs.lemmas.List.{append-nil, append_assoc, length-map, take_all, drop_all}
use Rattle.std.proofs.Math.Nat.{suc-mul}
use Rattle.hash_tree.specs.Pairs.{parents}
use Rattle.hash_tree.specs.Merkle.{hash, merkle_root}
use Rattle.hash_tree.proofs.Halves.{width_halves}
use Rattle.tree_nodes.specs.inside.Layers.{leaves, held, paired, node_roots, IsLayer, ArePaired}
use Rattle.tree_nodes.proofs.Pairs.{root_of_halves}

-- what stands first behind a place
pub index_of : {A : Type 0} (xs : List A) (k : ℕ) (y : A) (ys : List A) (d : A) → drop k xs ≡ y ∷ ys → slice_index_or xs k d ≡ y
index_of [] zero y ys d e = absurd (omega (arith, ap length e))
index_of [] (suc k) y ys d e = absurd (omega (arith, ap length e))
index_of (x ∷ xs) zero y ys d e = ap (λ (l : List _). slice_index_or l 0 d) e
index_of (x ∷ xs) (suc k) y ys d e = index_of xs k y ys d e

pub drop_next : {A : Type 0} (xs : List A) (k : ℕ) (y : A) (ys : List A) → drop k xs ≡ y ∷ ys → drop (k + 1) xs ≡ ys
drop_next [] zero y ys e = absurd (omega (arith, ap length e))
drop_next [] (suc k) y ys e = absurd (omega (arith, ap length e))
drop_next (x ∷ xs) zero y ys e = ap (λ (l : List _). drop 1 l) e
drop_next (x ∷ xs) (suc k) y ys e =
    let more : suc k + 1 ≡ suc (k + 1) = omega arith in
    ap (λ (n : ℕ). drop n (x ∷ xs)) more ∙ drop_next xs k y ys e

pub take_next : {A : Type 0} (xs : List A) (k : ℕ) (y : A) (ys : List A) → drop k xs ≡ y ∷ ys → take (k + 1) xs ≡ take k xs ++ y ∷ []
take_next [] zero y ys e = absurd (omega (arith, ap length e))
take_next [] (suc k) y ys e = absurd (omega (arith, ap length e))
take_next (x ∷ xs) zero y ys e = ap (λ (l : List _). take 1 l) e
take_next (x ∷ xs) (suc k) y ys e =
    let more : suc k + 1 ≡ suc (k + 1) = omega arith in
    ap (λ (n : ℕ). take n (x ∷ xs)) more ∙ ap (λ (l : List _). x ∷ l) (take_next xs k y ys e)

pub drop_at : {A : Type 0} (xs : List A) (k : ℕ) (d : A) → k < length xs → drop k xs ≡ slice_index_or xs k d ∷ drop (k + 1) xs
drop_at [] k d low = absurd (omega arith)
drop_at (x ∷ xs) zero d low = refl
drop_at (x ∷ xs) (suc k) d low =
    let more : suc k + 1 ≡ suc (k + 1) = omega arith in
    drop_at xs k d (omega arith) ∙ ap (λ (n : ℕ). slice_index_or xs k d ∷ drop n (x ∷ xs)) (sym more)

-- a slice that was written whole
pub written_back : {A : Type 0} (n : ℕ) (xs ys : List A) → length xs ≡ n → length ys ≡ n → take n (xs ++ drop (length xs) ys) ≡ xs
written_back n xs ys new old =
    ap (λ (r : List _). take n (xs ++ r)) (drop_all (length xs) ys (omega arith)) ∙ (ap (λ (r : List _). take n r) (append-nil xs) ∙ take_all n xs (omega arith))

pub length_parents : (k : ℕ) (nodes : List (List ℕ)) → length nodes ≡ 2 * k → length (parents nodes) ≡ k
unfolding parents
length_parents zero [] long = refl
length_parents zero (a ∷ ns) long = absurd (omega arith)
length_parents (suc k) [] long = absurd (omega arith)
length_parents (suc k) (a ∷ []) long = absurd (omega arith)
length_parents (suc k) (a ∷ (b ∷ ns)) long = omega (arith, length_parents k ns (omega arith))

module _ {A : Type 0} where
  pub length_leaves : (xs : List A) → length (leaves xs) ≡ length xs
  unfolding leaves
  length_leaves [] = refl
  length_leaves (x ∷ xs) = omega (arith, length_leaves xs)

  pub held_leaves : (xs : List A) → held (leaves xs) ≡ xs
  unfolding leaves held
  held_leaves [] = refl
  held_leaves (x ∷ xs) = ap (λ (r : List A). x ∷ r) (held_leaves xs)

  pub leaves_layer : (xs : List A) → IsLayer 0 (leaves xs)
  unfolding leaves
  leaves_layer [] = tt
  leaves_layer (x ∷ xs) = (refl, omega arith, (λ some. omega arith), leaves_layer xs)

  pub length_roots : (root_of : A → List ℕ) (nodes : List (ℕ × List A)) → length (node_roots root_of nodes) ≡ length nodes
  unfolding node_roots
  length_roots root_of nodes = length-map nodes (λ (n : ℕ × List A). merkle_root n.0 (map root_of n.1))

  pub leaves_append : (xs ys : List A) → leaves (xs ++ ys) ≡ leaves xs ++ leaves ys
  unfolding leaves
  leaves_append [] ys = refl
  leaves_append (x ∷ xs) ys = ap (λ (r : List (ℕ × List A)). (0, x ∷ []) ∷ r) (leaves_append xs ys)

  -- one more leaf
  pub leaf_more : (front : List (ℕ × List A)) (x : A) (xs : List A) (all : List (ℕ × List A)) → front ++ leaves (x ∷ xs) ≡ all → (front ++ (0, x ∷ []) ∷ []) ++ leaves xs ≡ all
  unfolding leaves
  leaf_more front x xs all h = append_assoc front ((0, x ∷ []) ∷ []) (leaves xs) ∙ h

  pub leaf_all : (front : List (ℕ × List A)) (xs : List A) (all : List (ℕ × List A)) → length xs ≡ 0 → front ++ leaves xs ≡ all → front ≡ all
  unfolding leaves
  leaf_all front [] all none h = sym (append-nil front) ∙ h
  leaf_all front (x ∷ xs) all none h = absurd (omega arith)

  -- a batch of items
  pub taken_more : (front now : List A) (x : A) (rest next all : List A) → rest ≡ x ∷ next → now ≡ front ++ x ∷ [] → front ++ rest ≡ all → now ++ next ≡ all
  taken_more front now x rest next all first push made =
      ap (λ (xs : List A). xs ++ next) push ∙ (append_assoc front (x ∷ []) next ∙ (ap (λ (xs : List A). front ++ xs) (sym first) ∙ made))

  pub batch_more : (front now : List (ℕ × List A)) (batch rest next : List A) (all : List (ℕ × List A)) → batch ++ next ≡ rest → now ≡ front ++ leaves batch → front ++ leaves rest ≡ all → now ++ leaves next ≡ all
  batch_more front now batch rest next all taken added made =
      ap (λ (ns : List (ℕ × List A)). ns ++ leaves next) added
      ∙ (append_assoc front (leaves batch) (leaves next)
      ∙ (ap (λ (ns : List (ℕ × List A)). front ++ ns) (sym (leaves_append batch next) ∙ ap (λ (xs : List A). leaves xs) taken) ∙ made))

  -- one more root
  pub root_more : (root_of : A → List ℕ) (nodes : List (ℕ × List A)) (k : ℕ) (roots now : List (List ℕ)) (root : List ℕ) (node : ℕ × List A) → k < length nodes → node ≡ slice_index_or nodes k node → root ≡ merkle_root node.0 (map root_of node.1) → now ≡ roots ++ root ∷ [] → roots ++ node_roots root_of (drop k nodes) ≡ node_roots root_of nodes → now ++ node_roots root_of (drop (k + 1) nodes) ≡ node_roots root_of nodes
  unfolding node_roots
  root_more root_of nodes k roots now root node low at is push made =
      ap (λ (rs : List (List ℕ)). rs ++ node_roots root_of (drop (k + 1) nodes)) push
      ∙ (append_assoc roots (root ∷ []) (node_roots root_of (drop (k + 1) nodes))
      ∙ (ap (λ (r : List ℕ). roots ++ r ∷ node_roots root_of (drop (k + 1) nodes)) is
      ∙ (ap (λ (ns : List (ℕ × List A)). roots ++ node_roots root_of ns) (ap (λ (n : ℕ × List A). n ∷ drop (k + 1) nodes) at ∙ sym (drop_at nodes k node low)) ∙ made)))

  pub root_all : (root_of : A → List ℕ) (nodes : List (ℕ × List A)) (k : ℕ) (roots : List (List ℕ)) → length nodes ≤ k → roots ++ node_roots root_of (drop k nodes) ≡ node_roots root_of nodes → roots ≡ node_roots root_of nodes
  unfolding node_roots
  root_all root_of nodes k roots all made =
      sym (append-nil roots) ∙ (ap (λ (ns : List (ℕ × List A)). roots ++ node_roots root_of ns) (sym (drop_all k nodes all)) ∙ made)

  -- a node without items
  pub held_absent : (depth : ℕ) (nodes : List (ℕ × List A)) → held (nodes ++ (depth, []) ∷ []) ≡ held nodes
  unfolding held
  held_absent depth [] = refl
  held_absent depth (n ∷ ns) = ap (λ (r : List A). n.1 ++ r) (held_absent depth ns)

  pub layer_absent : (depth : ℕ) (nodes : List (ℕ × List A)) → IsLayer depth nodes → IsLayer depth (nodes ++ (depth, []) ∷ [])
  unfolding held
  layer_absent depth [] h = (refl, omega arith, (λ some. absurd (omega arith)), tt)
  layer_absent depth (n ∷ ns) h = (h.0, h.1, (λ some. h.2 (subst (λ (r : List A). 0 < length r) (held_absent depth ns) some)), layer_absent depth ns h.3)

  -- nodes two by two
  pub are_paired : (depth : ℕ) (nodes : List (ℕ × List A)) → IsLayer depth nodes → ArePaired nodes
  unfolding held
  are_paired depth [] h = tt
  are_paired depth (l ∷ []) h = tt
  are_paired depth (l ∷ (r ∷ ns)) h =
      let long = length-append r.1 (held ns) in (
        record {
          same_depth = h.0 ∙ sym h.3.0;
          left_fits = subst (λ (d : ℕ). length l.1 ≤ 2 ^ d) (sym h.0) h.1;
          right_fits = subst (λ (d : ℕ). length r.1 ≤ 2 ^ d) (sym h.3.0) h.3.1;
          left_first = λ some. h.2 (omega arith) ∙ ap (λ (d : ℕ). 2 ^ d) (sym h.0);
        },
        are_paired depth ns h.3.3,
      )

  pub held_paired : (k : ℕ) (nodes : List (ℕ × List A)) → length nodes ≡ 2 * k → held (paired nodes) ≡ held nodes
  unfolding held paired
  held_paired zero [] long = refl
  held_paired zero (l ∷ ns) long = absurd (omega arith)
  held_paired (suc k) [] long = absurd (omega arith)
  held_paired (suc k) (l ∷ []) long = absurd (omega arith)
  held_paired (suc k) (l ∷ (r ∷ ns)) long = ap (λ (x : List A). (l.1 ++ r.1) ++ x) (held_paired k ns (omega arith)) ∙ append_assoc l.1 r.1 (held ns)

  pub length_paired : (k : ℕ) (nodes : List (ℕ × List A)) → length nodes ≡ 2 * k → length (paired nodes) ≡ k
  unfolding paired
  length_paired zero [] long = refl
  length_paired zero (l ∷ ns) long = absurd (omega arith)
  length_paired (suc k) [] long = absurd (omega arith)
  length_paired (suc k) (l ∷ []) long = absurd (omega arith)
  length_paired (suc k) (l ∷ (r ∷ ns)) long = omega (arith, length_paired k ns (omega arith))

  pub paired_layer : (depth k : ℕ) (nodes : List (ℕ × List A)) → length nodes ≡ 2 * k → IsLayer depth nodes → IsLayer (suc depth) (paired nodes)
  unfolding held paired
  paired_layer depth zero [] long h = tt
  paired_layer depth zero (l ∷ ns) long h = absurd (omega arith)
  paired_layer depth (suc k) [] long h = absurd (omega arith)
  paired_layer depth (suc k) (l ∷ []) long h = absurd (omega arith)
  paired_layer depth (suc k) (l ∷ (r ∷ ns)) long h =
      let width : 2 ^ suc depth ≡ 2 ^ depth + 2 ^ depth = width_halves (suc depth) depth refl in
      let both : length (l.1 ++ r.1) ≡ length l.1 + length r.1 = length-append l.1 r.1 in
      let behind : length (r.1 ++ held ns) ≡ length r.1 + length (held ns) = length-append r.1 (held ns) in
      let left_fits = h.1 in
      let right_fits = h.3.1 in (
        ap (λ (d : ℕ). suc d) h.0,
        omega arith,
        (λ some.
            let more : 0 < length (held ns) = subst (λ (x : List A). 0 < length x) (held_paired k ns (omega arith)) some in
            let right : length r.1 ≡ 2 ^ depth = h.3.2 more in
            let left : length l.1 ≡ 2 ^ depth = h.2 (omega arith) in
            omega arith),
        paired_layer depth k ns (omega arith) h.3.3,
      )

  pub roots_paired : (root_of : A → List ℕ) (nodes : List (ℕ × List A)) → ArePaired nodes → node_roots root_of (paired nodes) ≡ parents (node_roots root_of nodes)
  unfolding node_roots paired parents hash
  roots_paired root_of [] h = refl
  roots_paired root_of (l ∷ []) h = refl
  roots_paired root_of (l ∷ (r ∷ ns)) h = ap₂ (λ (x : List ℕ) (xs : List (List ℕ)). x ∷ xs) (sym (root_of_halves root_of l r h.0)) (roots_paired root_of ns h.1)

  -- one more pair
  pub pair_more : (front : List (ℕ × List A)) (l r : ℕ × List A) (ns : List (ℕ × List A)) (all : List (ℕ × List A)) → front ++ paired (l ∷ (r ∷ ns)) ≡ paired all → (front ++ (suc l.0, l.1 ++ r.1) ∷ []) ++ paired ns ≡ paired all
  unfolding paired
  pair_more front l r ns all h = append_assoc front ((suc l.0, l.1 ++ r.1) ∷ []) (paired ns) ∙ h

  pub pair_all : (front ns all : List (ℕ × List A)) → length ns ≡ 0 → front ++ paired ns ≡ paired all → front ≡ paired all
  unfolding paired
  pair_all front [] all none h = sym (append-nil front) ∙ h
  pair_all front (n ∷ ns) all none h = absurd (omega arith)

  -- the root of a pair stands first among those of the layer above
  pub pair_roots : (root_of : A → List ℕ) (l r : ℕ × List A) (ns : List (ℕ × List A)) → parents (node_roots root_of (l ∷ (r ∷ ns))) ≡ hash (merkle_root l.0 (map root_of l.1) ++ merkle_root r.0 (map root_of r.1)) ∷ parents (node_roots root_of ns)
  unfolding node_roots parents hash
  pair_roots root_of l r ns = refl

  -- one node of this depth holds all
  pub last_node : (depth : ℕ) (node : ℕ × List A) (items : List A) → IsLayer depth (node ∷ []) → held (node ∷ []) ≡ items → ◌≡◌ {A = ℕ × List A} node (depth, items)
  unfolding held
  last_node depth node items h is = ap₂ (λ (d : ℕ) (xs : List A). (d, xs)) h.0 (sym (append-nil node.1) ∙ is)

  pub last_of : (depth level : ℕ) (nodes front : List (ℕ × List A)) (node : ℕ × List A) (items : List A) → level ≡ depth → nodes ≡ front ++ node ∷ [] → length nodes ≤ 2 ^ (depth - level) → IsLayer level nodes → held nodes ≡ items → ◌≡◌ {A = ℕ × List A} node (depth, items)
  last_of depth level nodes [] node items same is narrow layer all =
      last_node depth node items (subst (λ (d : ℕ). IsLayer d (node ∷ [])) same (subst (λ (ns : List (ℕ × List A)). IsLayer level ns) is layer)) (ap (λ (ns : List (ℕ × List A)). held ns) (sym is) ∙ all)
  last_of depth level nodes (x ∷ xs) node items same is narrow layer all =
      let none : depth - level ≡ 0 = omega arith in
      let width : 2 ^ (depth - level) ≡ 1 = ap (λ (d : ℕ). 2 ^ d) none in
      let long : length nodes ≡ suc (length (xs ++ node ∷ [])) = ap length is in
      let more : length (xs ++ node ∷ []) ≡ length xs + 1 = length-append xs (node ∷ []) in
      absurd (omega arith)

  -- the layer above is made of pairs
  pub pair_root_at : (root_of : A → List ℕ) (above : List (List ℕ)) (k : ℕ) (l r : ℕ × List A) (rest middle ns : List (ℕ × List A)) → rest ≡ l ∷ middle → middle ≡ r ∷ ns → drop k above ≡ parents (node_roots root_of rest) → slice_index_or above k [] ≡ hash (merkle_root l.0 (map root_of l.1) ++ merkle_root r.0 (map root_of r.1))
  pair_root_at root_of above k l r rest middle ns first second roots =
      let both : rest ≡ l ∷ (r ∷ ns) = first ∙ ap (λ (xs : List (ℕ × List A)). l ∷ xs) second in
      index_of above k (hash (merkle_root l.0 (map root_of l.1) ++ merkle_root r.0 (map root_of r.1))) (parents (node_roots root_of ns)) []
      (roots ∙ (ap (λ (xs : List (ℕ × List A)). parents (node_roots root_of xs)) both ∙ pair_roots root_of l r ns))

  pub roots_next : (root_of : A → List ℕ) (above : List (List ℕ)) (k : ℕ) (l r : ℕ × List A) (rest middle ns : List (ℕ × List A)) → rest ≡ l ∷ middle → middle ≡ r ∷ ns → drop k above ≡ parents (node_roots root_of rest) → drop (k + 1) above ≡ parents (node_roots root_of ns)
  roots_next root_of above k l r rest middle ns first second roots =
      let both : rest ≡ l ∷ (r ∷ ns) = first ∙ ap (λ (xs : List (ℕ × List A)). l ∷ xs) second in
      drop_next above k (hash (merkle_root l.0 (map root_of l.1) ++ merkle_root r.0 (map root_of r.1))) (parents (node_roots root_of ns))
      (roots ∙ (ap (λ (xs : List (ℕ × List A)). parents (node_roots root_of xs)) both ∙ pair_roots root_of l r ns))

  pub made_next : (joined now : List (ℕ × List A)) (node l r : ℕ × List A) (rest middle ns all : List (ℕ × List A)) → rest ≡ l ∷ middle → middle ≡ r ∷ ns → now ≡ joined ++ node ∷ [] → ◌≡◌ {A = ℕ × List A} node (suc l.0, l.1 ++ r.1) → joined ++ paired rest ≡ paired all → now ++ paired ns ≡ paired all
  made_next joined now node l r rest middle ns all first second push is made =
      let both : rest ≡ l ∷ (r ∷ ns) = first ∙ ap (λ (xs : List (ℕ × List A)). l ∷ xs) second in
      ap (λ (xs : List (ℕ × List A)). xs ++ paired ns) (push ∙ ap (λ (n : ℕ × List A). joined ++ n ∷ []) is)
      ∙ pair_more joined l r ns all (ap (λ (xs : List (ℕ × List A)). joined ++ paired xs) (sym both) ∙ made)

  pub halves_next : (l r : ℕ × List A) (rest middle ns : List (ℕ × List A)) → rest ≡ l ∷ middle → middle ≡ r ∷ ns → ArePaired rest → ArePaired ns
  halves_next l r rest middle ns first second halves =
      (subst (λ (xs : List (ℕ × List A)). ArePaired xs) (first ∙ ap (λ (xs : List (ℕ × List A)). l ∷ xs) second) halves).1

-- a level more: the width that is left, and the steps
pub width_left : (level depth : ℕ) → level < depth → 2 ^ (depth - level) ≡ 2 ^ (depth - (level + 1)) + 2 ^ (depth - (level + 1))
width_left level depth less = width_halves (depth - level) (depth - (level + 1)) (omega arith)

pub level_more : (n level : ℕ) → n * (level + 1) ≡ n * level + n
level_more zero level = omega arith
level_more (suc n) level = omega (arith, level_more n level, suc-mul n (level + 1), suc-mul n level)

pub whole_width : (depth n : ℕ) → n ≤ 2 ^ depth → n ≤ 2 ^ (depth - 0)
whole_width depth n h = let same : depth ≡ depth - 0 = omega arith in subst (λ (d : ℕ). n ≤ 2 ^ d) same h

pub whole_left : (depth s : ℕ) → s + 2 ^ (depth - 0) ≤ s + 2 ^ depth
whole_left depth s = let same : depth ≡ depth - 0 = omega arith in subst (λ (d : ℕ). s + 2 ^ d ≤ s + 2 ^ depth) same (omega arith)
