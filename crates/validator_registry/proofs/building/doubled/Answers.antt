-- The groups of the tree are written into one twice as wide.
use Rattle.std.proofs.Common.{ℕ, ◌∙◌, ◌+◌, ◌*◌, ◌≤◌, List, sym, subst, arith}
use Rattle.std.specs.Prelude.{IfOk}
use Rattle.beacon_types.specs.declared.validator.Validator.{Validator}
use Rattle.hash_tree.proofs.Halves.{width_halves}
use Rattle.validator_registry.specs.inside.Groups.{joined, AreGroups, IsTreeOf}
use Rattle.validator_registry.proofs.GroupTrees.{items_of, length_placed, placed_own}
use Rattle.validator_registry.proofs.building.doubled.Goals as goal

pub tree_of-requires-clause-placed : goal.tree_of-requires-clause-placed
tree_of-requires-clause-placed g c = placed_own c.in_ok-groups.groups.items c.args.tree.now.1 c.in_ok-groups.ensures

pub tree_of-requires-clause-groups : goal.tree_of-requires-clause-groups
tree_of-requires-clause-groups g c =
    subst AreGroups (sym (items_of c.in_ok-groups.groups.items c.args.tree.now.1 c.in_ok-groups.ensures)) c.requires.tree.groups

pub tree_of-requires-clause-room : goal.tree_of-requires-clause-room
tree_of-requires-clause-room g c =
    let count = length_placed c.in_ok-groups.groups.items c.args.tree.now.1 c.in_ok-groups.ensures in
    omega (arith, count, c.requires.tree.full, width_halves (c.args.depth + 1) c.args.depth (omega arith))

pub returns-clause-tree : goal.returns-clause-tree
returns-clause-tree g c =
    subst (λ (gs : List (List Validator)). IfOk c.tree_of.result (λ more. IsTreeOf (joined gs) more (c.args.depth + 1)))
    (items_of c.in_ok-groups.groups.items c.args.tree.now.1 c.in_ok-groups.ensures) c.tree_of.ensures.tree

pub returns-clause-at_most : goal.returns-clause-at_most
returns-clause-at_most g c =
    let count = length_placed c.in_ok-groups.groups.items c.args.tree.now.1 c.in_ok-groups.ensures in
    subst (λ (n : ℕ). c.tree_of.new.steps ≤ c.args.steps.now + n * (c.args.depth + 1))
    (count ∙ c.requires.tree.full) c.tree_of.ensures.at_most
