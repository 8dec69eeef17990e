-- The tree over groups of sixteen is the tree over their validators.
use Rattle.std.proofs.Common.{◌≡◌, ℕ, zero, suc, ◌+◌, ◌*◌, ◌^◌, ◌<◌, ◌≤◌, List, [], ◌∷◌, ◌++◌, length, map, take, drop, refl, sym, ap, ap₂, ◌∙◌, arith, length-append, length-take, length-drop, pow-add}
use Rattle.std.proofs.lemmas.List.{append-nil, take_all, drop_all, take-map, drop-map}
use Rattle.std.proofs.Math.Seq.{take-append-add, drop-append-add}
use Rattle.hash_tree.specs.Merkle.{hash, merkle_root}
use Rattle.hash_tree.proofs.Halves.{merkle_root-halves, width_halves}
use Rattle.beacon_types.specs.declared.validator.Validator.{Validator}
use Rattle.beacon_types.specs.Containers.{validator_codec}
use Rattle.validator_registry.specs.inside.Groups.{joined, AreGroups, group_root}

-- the first validators of a group and of those behind it
take_more : (k n : ℕ) (g behind first : List Validator) → n ≡ suc k * 16 → length g ≤ 16 → (0 < length behind → length g ≡ 16)
    → take (k * 16) behind ≡ first → take n (g ++ behind) ≡ g ++ first
take_more k n g [] first is few full e =
    take_all n (g ++ []) (omega (arith, length-append g []))
    ∙ ap (λ (vs : List Validator). g ++ vs) (sym (take_all (k * 16) [] (omega arith)) ∙ e)
take_more k n g (v ∷ vs) first is few full e =
    let sixteen = full (omega arith) in
    let long : n ≡ length g + k * 16 = omega arith in
    ap (λ (m : ℕ). take m (g ++ v ∷ vs)) long
    ∙ (take-append-add g (v ∷ vs) (k * 16) ∙ ap (λ (l : List Validator). g ++ l) e)

-- and the ones behind these
drop_more : (k n : ℕ) (g behind last : List Validator) → n ≡ suc k * 16 → length g ≤ 16 → (0 < length behind → length g ≡ 16)
    → drop (k * 16) behind ≡ last → drop n (g ++ behind) ≡ last
drop_more k n g [] last is few full e =
    drop_all n (g ++ []) (omega (arith, length-append g [])) ∙ (sym (drop_all (k * 16) [] (omega arith)) ∙ e)
drop_more k n g (v ∷ vs) last is few full e =
    let sixteen = full (omega arith) in
    let long : n ≡ length g + k * 16 = omega arith in
    ap (λ (m : ℕ). drop m (g ++ v ∷ vs)) long ∙ (drop-append-add g (v ∷ vs) (k * 16) ∙ e)

-- the validators of the first groups
joined_take : (k n : ℕ) (gs : List (List Validator)) → n ≡ k * 16 → AreGroups gs → take n (joined gs) ≡ joined (take k gs)
unfolding joined
joined_take zero n gs is h = ap (λ (m : ℕ). take m (joined gs)) is
joined_take (suc k) n [] is h = take_all n [] (omega arith)
joined_take (suc k) n (g ∷ gs) is h =
    take_more k n g (joined gs) (joined (take k gs)) is h.0 h.1 (joined_take k (k * 16) gs refl h.2)

-- and those of the groups behind them
joined_drop : (k n : ℕ) (gs : List (List Validator)) → n ≡ k * 16 → AreGroups gs → drop n (joined gs) ≡ joined (drop k gs)
unfolding joined
joined_drop zero n gs is h = ap (λ (m : ℕ). drop m (joined gs)) is
joined_drop (suc k) n [] is h = drop_all n [] (omega arith)
joined_drop (suc k) n (g ∷ gs) is h =
    drop_more k n g (joined gs) (joined (drop k gs)) is h.0 h.1 (joined_drop k (k * 16) gs refl h.2)

-- the first groups are groups
groups_take : (k : ℕ) (gs : List (List Validator)) → AreGroups gs → AreGroups (take k gs)
groups_take zero gs h = tt
groups_take (suc k) [] h = tt
groups_take (suc k) (g ∷ gs) h =
    let same = ap length (joined_take k (k * 16) gs refl h.2) in
    (h.0, (λ some. h.1 (omega (arith, same, length-take (k * 16) (joined gs)))), groups_take k gs h.2)

-- and so are those behind them
groups_drop : (k : ℕ) (gs : List (List Validator)) → AreGroups gs → AreGroups (drop k gs)
groups_drop zero gs h = h
groups_drop (suc k) [] h = tt
groups_drop (suc k) (g ∷ gs) h = groups_drop k gs h.2

-- the roots of the validators of the first groups
roots_take : (half n : ℕ) (gs : List (List Validator)) → n ≡ half * 16 → AreGroups gs
    → map validator_codec.hash_tree_root (joined (take half gs)) ≡ take n (map validator_codec.hash_tree_root (joined gs))
roots_take half n gs wide h =
    let root = validator_codec.hash_tree_root in
    sym (take-map root n (joined gs) ∙ ap (map root) (joined_take half n gs wide h))

-- and of those behind them
roots_drop : (half n : ℕ) (gs : List (List Validator)) → n ≡ half * 16 → AreGroups gs
    → map validator_codec.hash_tree_root (joined (drop half gs)) ≡ drop n (map validator_codec.hash_tree_root (joined gs))
roots_drop half n gs wide h =
    let root = validator_codec.hash_tree_root in
    sym (drop-map root n (joined gs) ∙ ap (map root) (joined_drop half n gs wide h))

-- a tree over groups is that over their validators, four levels deeper
pub roots_of_groups : (depth : ℕ) (gs : List (List Validator)) → AreGroups gs → length gs ≡ 2 ^ depth
    → merkle_root depth (map group_root gs) ≡ merkle_root (depth + 4) (map validator_codec.hash_tree_root (joined gs))
unfolding merkle_root joined
roots_of_groups zero [] h count = absurd (omega arith)
roots_of_groups zero (g ∷ []) h count =
    ap (λ (vs : List Validator). merkle_root 4 (map validator_codec.hash_tree_root vs)) (sym (append-nil g))
roots_of_groups zero (g ∷ (f ∷ gs)) h count = absurd (omega arith)
roots_of_groups (suc depth) gs h count =
    let root = validator_codec.hash_tree_root in
    let half = 2 ^ depth in
    let wide : 2 ^ (depth + 4) ≡ half * 16 = pow-add 2 depth 4 in
    let both : 2 ^ suc depth ≡ half + half = width_halves (suc depth) depth refl in
    let left = roots_of_groups depth (take half gs) (groups_take half gs h) (omega (arith, length-take half gs)) in
    let right = roots_of_groups depth (drop half gs) (groups_drop half gs h) (omega (arith, length-drop half gs)) in
    merkle_root-halves (suc depth) depth (map group_root gs) (map group_root (take half gs)) (map group_root (drop half gs)) refl
    (sym (take-map group_root half gs)) (sym (drop-map group_root half gs))
    ∙ (ap₂ (λ (l r : List ℕ). hash (l ++ r)) left right
    ∙ sym (merkle_root-halves (suc depth + 4) (depth + 4) (map root (joined gs))
    (map root (joined (take half gs))) (map root (joined (drop half gs))) (omega arith)
    (roots_take half (2 ^ (depth + 4)) gs wide h) (roots_drop half (2 ^ (depth + 4)) gs wide h)))
