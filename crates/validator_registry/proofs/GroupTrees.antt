-- The groups of a list each with its place, and the full tree over them.
use Rattle.std.proofs.Common.{◌≡◌, ℕ, suc, ◌+◌, ◌-◌, ◌*◌, ◌<◌, ◌≤◌, ◌^◌, List, [], ◌∷◌, ◌++◌, length, map, take, drop, replicate, refl, sym, ap, ap₂, subst, ◌∙◌, arith, min, length-append, length-take, length-drop}
use Rattle.std.proofs.lemmas.List.{length-map, length-replicate, map-append, take_min}
use Rattle.beacon_types.specs.declared.validator.Validator.{Validator}
use Rattle.tree_nodes.specs.Changes.{AreChanges, changed}
use Rattle.tree_nodes.proofs.Climbs.{take_next}
use Rattle.validator_registry.specs.inside.Groups.{joined, AreGroups, IsTreeOf}
use Rattle.validator_registry.specs.inside.Places.{places}
use Rattle.validator_registry.proofs.Groups.{group_more, groups_empty_behind, joined_empty_behind}
use Rattle.validator_registry.proofs.Places.{places_changes, places_more, changed_replicate}

module _ {A : Type 0} where
  -- the items of those that have places
  items_places : (k : ℕ) (xs : List A) → map (λ (item : ℕ × A). item.1) (places k xs) ≡ xs
  unfolding places
  items_places k [] = refl
  items_places k (x ∷ xs) = ap (λ (l : List A). x ∷ l) (items_places (suc k) xs)

  -- they are as many
  length_places : (k : ℕ) (xs : List A) → length (places k xs) ≡ length xs
  length_places k xs = sym (length-map (places k xs) (λ (item : ℕ × A). item.1)) ∙ ap length (items_places k xs)

  -- one more item that has a place is one more item
  items_more : (items more : List (ℕ × A)) (k : ℕ) (x : A) → more ≡ items ++ (k, x) ∷ []
      → map (λ (item : ℕ × A). item.1) more ≡ map (λ (item : ℕ × A). item.1) items ++ x ∷ []
  items_more items more k x is =
      ap (λ (l : List (ℕ × A)). map (λ (item : ℕ × A). item.1) l) is
      ∙ map-append (λ (item : ℕ × A). item.1) items ((k, x) ∷ [])

  -- one more item behind those with places, at the place behind theirs
  placed_more : (items more : List (ℕ × A)) (xs : List A) (k : ℕ) (x : A) → items ≡ places 0 xs → length xs ≡ k
      → more ≡ items ++ (k, x) ∷ [] → more ≡ places 0 (xs ++ x ∷ [])
  placed_more items more xs k x placed count is =
      is
      ∙ (ap₂ (λ (l : List (ℕ × A)) (n : ℕ). l ++ (n, x) ∷ []) placed (sym count)
      ∙ sym (places_more xs x))

  -- so many items with places are changes of a list that is as long
  pub placed_changes : (n : ℕ) (items : List (ℕ × A)) (all : List A)
      → items ≡ places 0 (map (λ (item : ℕ × A). item.1) items) → length items ≤ n → length all ≡ n
      → AreChanges 0 (length all) items
  placed_changes n items all placed room long =
      let xs = map (λ (item : ℕ × A). item.1) items in
      let fits : length xs ≤ length all = omega (arith, length-map items (λ (item : ℕ × A). item.1)) in
      subst (λ (l : List (ℕ × A)). AreChanges 0 (length all) l) (sym placed) (places_changes (length all) xs fits)

  -- before items are taken with their places
  pub placed_first : (items : List (ℕ × A)) → items ≡ [] → items ≡ places 0 []
  unfolding places
  placed_first items none = none

  -- the next item of a list goes behind those with places
  pub placed_next : (xs : List A) (k : ℕ) (x y : A) (rest : List A) (items more : List (ℕ × A)) → drop k xs ≡ x ∷ rest
      → items ≡ places 0 (take k xs) → y ≡ x → more ≡ items ++ (k, y) ∷ [] → more ≡ places 0 (take (k + 1) xs)
  placed_next xs k x y rest items more next placed same is =
      let left : length xs - k ≡ suc (length rest) = sym (length-drop k xs) ∙ ap length next in
      placed_more items more (take k xs) k x placed (omega (arith, length-take k xs, left))
      (is ∙ ap (λ (z : A). items ++ (k, z) ∷ []) same)
      ∙ ap (λ (l : List A). places 0 l) (sym (take_next xs k x rest next))

  -- the items of a list that were given their places
  pub items_of : (items : List (ℕ × A)) (xs : List A) → items ≡ places 0 xs
      → map (λ (item : ℕ × A). item.1) items ≡ xs
  items_of items xs placed =
      ap (λ (l : List (ℕ × A)). map (λ (item : ℕ × A). item.1) l) placed
      ∙ items_places 0 xs

  -- they stand at the places of their own items
  pub placed_own : (items : List (ℕ × A)) (xs : List A) → items ≡ places 0 xs
      → items ≡ places 0 (map (λ (item : ℕ × A). item.1) items)
  placed_own items xs placed = placed ∙ ap (λ (l : List A). places 0 l) (sym (items_of items xs placed))

  -- and are as many as the list has items
  pub length_placed : (items : List (ℕ × A)) (xs : List A) → items ≡ places 0 xs → length items ≡ length xs
  length_placed items xs placed = ap length placed ∙ length_places 0 xs

  -- behind a place below the length something is left
  pub some_left : (xs : List A) (k : ℕ) → k < length xs → drop k xs ≡ [] → ⊥
  some_left xs k low none = omega (arith, length-drop k xs, ap length none)

-- before a list is cut into groups that have places
pub groups_begun : (vs : List Validator) (items : List (ℕ × List Validator)) → items ≡ []
    → (items ≡ places 0 (map (λ (item : ℕ × List Validator). item.1) items))
    × (joined (map (λ (item : ℕ × List Validator). item.1) items) ≡ take (16 * 0) vs)
    × AreGroups (map (λ (item : ℕ × List Validator). item.1) items)
    × (length (map (λ (item : ℕ × List Validator). item.1) items) ≡ 0)
unfolding joined places
groups_begun vs [] none = (refl, refl, tt, refl)
groups_begun vs (item ∷ items) none = absurd (omega (arith, ap length none))

-- the next sixteen of a list, or what is left of it where that is less
pub next_piece : (vs : List Validator) (k end : ℕ) → end ≡ min (length vs) (16 * k + 16)
    → take (end - 16 * k) (drop (16 * k) vs) ≡ take 16 (drop (16 * k) vs)
next_piece vs k end is =
    let long : end - 16 * k ≡ min 16 (length (drop (16 * k) vs)) = omega (arith, is, length-drop (16 * k) vs) in
    ap (λ (n : ℕ). take n (drop (16 * k) vs)) long ∙ take_min 16 (drop (16 * k) vs)

-- the next group that is cut off goes behind the others, at the place behind theirs
pub groups_cut : (vs : List Validator) (items more : List (ℕ × List Validator)) (g : List Validator) (k : ℕ)
    → items ≡ places 0 (map (λ (item : ℕ × List Validator). item.1) items)
    → joined (map (λ (item : ℕ × List Validator). item.1) items) ≡ take (16 * k) vs
    → AreGroups (map (λ (item : ℕ × List Validator). item.1) items)
    → length (map (λ (item : ℕ × List Validator). item.1) items) ≡ k
    → 16 * k < length vs → g ≡ take 16 (drop (16 * k) vs) → more ≡ items ++ (k, g) ∷ []
    → (more ≡ places 0 (map (λ (item : ℕ × List Validator). item.1) more))
    × (joined (map (λ (item : ℕ × List Validator). item.1) more) ≡ take (16 * (k + 1)) vs)
    × AreGroups (map (λ (item : ℕ × List Validator). item.1) more)
    × (length (map (λ (item : ℕ × List Validator). item.1) more) ≡ k + 1)
groups_cut vs items more g k placed so_far groups count some cut is =
    let gs = map (λ (item : ℕ × List Validator). item.1) items in
    let new = items_more items more k g is in
    let next = group_more vs gs g k (so_far, groups, count) some cut in (
      placed_more items more gs k g placed count is ∙ ap (λ (l : List (List Validator)). places 0 l) (sym new),
      ap joined new ∙ next.0,
      subst AreGroups (sym new) next.1,
      ap length new ∙ next.2,
    )

-- the full tree over groups, where those behind them are empty
pub tree_over : (depth : ℕ) (none : List Validator) (items : List (ℕ × List Validator)) (tree : ℕ × List (List Validator))
    → none ≡ [] → depth ≤ 36 → items ≡ places 0 (map (λ (item : ℕ × List Validator). item.1) items)
    → AreGroups (map (λ (item : ℕ × List Validator). item.1) items) → length items ≤ 2 ^ depth
    → tree ≡ (depth, changed (replicate (2 ^ depth) none) items)
    → IsTreeOf (joined (map (λ (item : ℕ × List Validator). item.1) items)) tree depth
tree_over depth none items tree empty low placed groups room is =
    let gs = map (λ (item : ℕ × List Validator). item.1) items in
    let fits : length gs ≤ 2 ^ depth = omega (arith, length-map items (λ (item : ℕ × List Validator). item.1)) in
    let filled : tree.1 ≡ gs ++ replicate (2 ^ depth - length gs) [] =
    ap (λ (t : ℕ × List (List Validator)). t.1) is
    ∙ (ap₂ (λ (n : List Validator) (l : List (ℕ × List Validator)). changed (replicate (2 ^ depth) n) l) empty placed
    ∙ changed_replicate (2 ^ depth) [] gs fits) in
    let behind : length (replicate {A = List Validator} (2 ^ depth - length gs) []) ≡ 2 ^ depth - length gs =
    length-replicate (2 ^ depth - length gs) [] in
    let both = length-append gs (replicate (2 ^ depth - length gs) []) in
    record {
      depth_is = ap (λ (t : ℕ × List (List Validator)). t.0) is;
      low = low;
      full = ap length filled ∙ omega (arith, both, behind, fits);
      groups = subst AreGroups (sym filled) (groups_empty_behind gs (2 ^ depth - length gs) groups);
      validators_are = ap joined filled ∙ joined_empty_behind gs (2 ^ depth - length gs);
    }
