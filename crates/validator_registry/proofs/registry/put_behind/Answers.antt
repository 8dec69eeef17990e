-- The group in which the next validator goes, with this one.
use Rattle.std.proofs.Common.{◌/◌, arith, sym}
use Rattle.validator_registry.proofs.Groups.{last_length, next_there}
use Rattle.validator_registry.proofs.RegistryTrees.{not_none, push_tree}
use Rattle.validator_registry.proofs.registry.put_behind.Goals as goal

pub with_more-requires : goal.with_more-requires
with_more-requires g c =
    let long = last_length c.args.tree.now.1 c.args.len c.in-Some.group.now c.requires.tree.groups c.requires.len (sym c.in-Some.ensures) in
    omega arith

pub unreachable-requires : goal.unreachable-requires
unreachable-requires g c = not_none c.args.tree.now.1 (c.args.len / 16) (next_there c.args.tree.now.1 c.args.len c.requires.room) c.in-None.ensures

pub returns-clause-tree : goal.returns-clause-tree
returns-clause-tree g c =
    push_tree c.args.tree.now c.put.new.self c.args.depth c.args.len c.in-Some.group.now _ c.args.validator.now c.requires.tree c.requires.len c.requires.room (sym c.in-Some.ensures) c.in_ok-more-in-Some.ensures c.in_ok-put-in-Some.ensures.put
