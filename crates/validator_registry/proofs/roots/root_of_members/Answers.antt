-- Zeros behind the roots of the members leave the root as it is.
use Rattle.std.proofs.Common.{◌≡◌, ◌∙◌, ◌++◌, ◌-◌, ◌≤◌, ℕ, List, length, map, ap, ap₂, arith}
use Rattle.std.proofs.lemmas.List.{drop-replicate, length-map}
use Rattle.hash_tree.specs.Merkle.{merkle_root, zero_root}
use Rattle.hash_tree.proofs.Filled.{zeros_behind}
use Rattle.beacon_types.specs.Containers.{validator_codec}
use Rattle.validator_registry.specs.inside.Groups.{validators_of}
use Rattle.validator_registry.proofs.MemberRoots.{count_of}
use Rattle.validator_registry.proofs.roots.root_of_members.Goals as goal

pub returns : goal.returns
returns c =
    let members = c.args.members.now in
    let validators = validators_of members c.args.balances.now in
    let roots = map validator_codec.hash_tree_root validators in
    let room : length members ≤ length c.args.balances.now = omega (arith, c.requires.room, c.requires.few) in
    let count : length roots ≡ length members = length-map validators validator_codec.hash_tree_root ∙ count_of members c.args.balances.now room in
    c.root_of_sixteen.ensures
    ∙ (ap (merkle_root 4) (ap₂ (λ (xs ys : List (List ℕ)). xs ++ ys) c.write_roots.ensures (drop-replicate (length members) 16 zero_root))
    ∙ zeros_behind 4 (16 - length members) roots (omega (arith, count, c.requires.few)))
