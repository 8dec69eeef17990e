-- The group of the place with the other validator.
use Rattle.std.proofs.Common.{◌∙◌, ◌<◌, ◌/◌, List, length, arith, sym, ap}
use Rattle.std.specs.Prelude.{slice_set}
use Rattle.beacon_types.specs.declared.validator.Validator.{Validator}
use Rattle.validator_registry.specs.inside.Groups.{joined}
use Rattle.validator_registry.proofs.Groups.{place_in_group}
use Rattle.validator_registry.proofs.RegistryTrees.{not_none, own_tree, place_there, set_length, set_tree}
use Rattle.validator_registry.proofs.registry.Registry.set.Goals as goal

pub with-requires : goal.with-requires
with-requires g c =
    let within : c.args.i < length (joined c.self.inside.tree.1) = omega (arith, c.requires, ap length c.self.view_is) in
    place_in_group c.self.inside.tree.1 c.args.i c.in-Some.group.now c.self.invariant.tree_is.groups within (sym c.in-Some.ensures)

pub unreachable-requires : goal.unreachable-requires
unreachable-requires g c =
    let within : c.args.i < length (joined c.self.inside.tree.1) = omega (arith, c.requires, ap length c.self.view_is) in
    not_none c.self.inside.tree.1 (c.args.i / 16) (place_there _ _ _ c.args.i c.self.invariant.tree_is within).0 c.in-None.ensures

pub put-requires-clause-place : goal.put-requires-clause-place
put-requires-clause-place g c =
    let within : c.args.i < length (joined c.self.inside.tree.1) = omega (arith, c.requires, ap length c.self.view_is) in
    let there = place_there _ _ _ c.args.i c.self.invariant.tree_is within in
    omega (arith, there.0)

pub put-requires-clause-room : goal.put-requires-clause-room
put-requires-clause-room g c =
    let within : c.args.i < length (joined c.self.inside.tree.1) = omega (arith, c.requires, ap length c.self.view_is) in
    (place_there _ _ _ c.args.i c.self.invariant.tree_is within).1

pub root_over-self-inside-requires-clause-tree : goal.root_over-self-inside-requires-clause-tree
root_over-self-inside-requires-clause-tree g c =
    let within : c.args.i < length (joined c.self.inside.tree.1) = omega (arith, c.requires, ap length c.self.view_is) in
    own_tree _ _ _ (set_tree c.self.inside.tree c.put.new.self c.self.inside.depth c.args.i c.in-Some.group.now _ c.args.validator.now c.self.invariant.tree_is within (sym c.in-Some.ensures) c.in_ok-group-in-Some.ensures c.in_ok-put.ensures.put)

pub root_over-self-inside-requires-clause-len : goal.root_over-self-inside-requires-clause-len
root_over-self-inside-requires-clause-len g c =
    let within : c.args.i < length (joined c.self.inside.tree.1) = omega (arith, c.requires, ap length c.self.view_is) in
    let now = set_tree c.self.inside.tree c.put.new.self c.self.inside.depth c.args.i c.in-Some.group.now _ c.args.validator.now c.self.invariant.tree_is within (sym c.in-Some.ensures) c.in_ok-group-in-Some.ensures c.in_ok-put.ensures.put in
    set_length (joined c.self.inside.tree.1) (joined c.put.new.self.1) c.args.i c.self.inside.len c.args.validator.now now.validators_are c.self.invariant.len_is

pub invariant_of-self-2 : goal.invariant_of-self-2
invariant_of-self-2 g c =
    let within : c.args.i < length (joined c.self.inside.tree.1) = omega (arith, c.requires, ap length c.self.view_is) in
    let now = set_tree c.self.inside.tree c.put.new.self c.self.inside.depth c.args.i c.in-Some.group.now _ c.args.validator.now c.self.invariant.tree_is within (sym c.in-Some.ensures) c.in_ok-group-in-Some.ensures c.in_ok-put.ensures.put in
    record {
      tree_is = own_tree _ _ _ now;
      len_is = set_length (joined c.self.inside.tree.1) (joined c.put.new.self.1) c.args.i c.self.inside.len c.args.validator.now now.validators_are c.self.invariant.len_is;
      root_is = c.root_over-self-inside.ensures.root;
    }

pub returns-clause-set : goal.returns-clause-set
returns-clause-set g c =
    let within : c.args.i < length (joined c.self.inside.tree.1) = omega (arith, c.requires, ap length c.self.view_is) in
    let now = set_tree c.self.inside.tree c.put.new.self c.self.inside.depth c.args.i c.in-Some.group.now _ c.args.validator.now c.self.invariant.tree_is within (sym c.in-Some.ensures) c.in_ok-group-in-Some.ensures c.in_ok-put.ensures.put in
    now.validators_are ∙ ap (λ (vs : List Validator). slice_set vs c.args.i c.args.validator.now) c.self.view_is
