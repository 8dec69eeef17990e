-- The root of a registry by the tree of its groups.
use Rattle.std.proofs.Common.{◌≡◌, ◌∙◌, ℕ, ◌+◌, ◌*◌, ◌≤◌, ◌^◌, List, length, map, ap, ap₂, arith}
use Rattle.std.proofs.lemmas.List.{length-map}
use Rattle.std.proofs.lemmas.Nat.{pow-add}
use Rattle.hash_tree.specs.Merkle.{merkle_root, mix_in_length, merkleize, depth_of, depth_from}
use Rattle.tree_nodes.specs.inside.Lifts.{Lifts}
use Rattle.beacon_types.specs.declared.validator.Validator.{Validator}
use Rattle.beacon_types.specs.Containers.{validator_codec}
use Rattle.validator_registry.specs.Registries.{registry_root}
use Rattle.validator_registry.specs.inside.Groups.{joined, group_root, IsTreeOf}
use Rattle.validator_registry.proofs.Groups.{room}
use Rattle.validator_registry.proofs.GroupRoots.{roots_of_groups}

-- what the root of the tree of groups stands for at the depth of a registry
pub lifted_root : (vs : List Validator) (tree : ℕ × List (List Validator)) (depth : ℕ) (root top : List ℕ) → IsTreeOf vs tree depth → root ≡ merkle_root tree.0 (map group_root tree.1) → Lifts (depth + 4) 40 root top
    → top ≡ merkle_root 40 (map validator_codec.hash_tree_root (joined tree.1))
lifted_root vs tree depth root top is root_is lifts =
    let wide : 2 ^ (depth + 4) ≡ 2 ^ depth * 16 = pow-add 2 depth 4 in
    let fits : length (map validator_codec.hash_tree_root (joined tree.1)) ≤ 2 ^ (depth + 4) =
    omega (arith, length-map (joined tree.1) validator_codec.hash_tree_root, room tree.1 is.groups, is.full, wide) in
    lifts (map validator_codec.hash_tree_root (joined tree.1)) fits
    (root_is ∙ (ap (λ (d : ℕ). merkle_root d (map group_root tree.1)) is.depth_is ∙ roots_of_groups depth tree.1 is.groups is.full))

-- and with the length mixed in
pub mixed_root : (vs : List Validator) (top root : List ℕ) (len : ℕ) → top ≡ merkle_root 40 (map validator_codec.hash_tree_root vs) → len ≡ length vs → root ≡ mix_in_length top len → root ≡ registry_root vs
unfolding registry_root merkleize depth_of depth_from
mixed_root vs top root len top_is len_is root_is = root_is ∙ ap₂ mix_in_length top_is len_is
