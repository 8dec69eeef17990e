-- The group with the balance is changed behind the others.
use Rattle.std.proofs.Common.{ℕ, ◌+◌, ◌/◌, List, sym, subst, arith}
use Rattle.tree_nodes.specs.Changes.{AreChanges, changed}
use Rattle.tree_nodes.proofs.Changes.{length_changed}
use Rattle.tree_nodes.proofs.Many.{more_places}
use Rattle.validator_registry.proofs.GroupChanges.{balance_added}
use Rattle.validator_registry.proofs.Groups.{group_there, place_in_group}
use Rattle.validator_registry.proofs.group_changes.add_balance.Goals as goal

pub held_group-requires-clause-within : goal.held_group-requires-clause-within
held_group-requires-clause-within c =
    let room = group_there (changed c.args.tree.now.1 c.args.groups.now.items) c.args.at c.requires.groups c.requires.within in
    omega (arith, room, length_changed c.args.tree.now.1 c.args.groups.now.items)

pub set_effective_balance-requires : goal.set_effective_balance-requires
set_effective_balance-requires c =
    place_in_group (changed c.args.tree.now.1 c.args.groups.now.items) c.args.at c.in_ok-group.group c.requires.groups c.requires.within c.in_ok-group.ensures.held

pub returns-clause-places : goal.returns-clause-places
returns-clause-places c =
    subst (λ (cs : List (ℕ × _)). AreChanges 0 (c.args.at / 16 + 1) cs) (sym c.in_ok-push.ensures.items) (more_places 0 (c.args.at / 16) c.held_group.new.groups.items c.set_effective_balance.new.self (omega arith) c.in_ok-group.ensures.places)

pub returns-clause-groups : goal.returns-clause-groups
returns-clause-groups c =
    (balance_added c.args.tree.now.1 c.args.at c.args.balance c.in_ok-group.group c.set_effective_balance.new.self c.args.groups.now.items c.held_group.new.groups.items c.push.new.self.items c.requires.groups c.requires.within c.in_ok-group.ensures.places c.in_ok-group.ensures.held c.in_ok-group.ensures.set c.set_effective_balance.ensures c.in_ok-push.ensures.items).0

pub returns-clause-joined : goal.returns-clause-joined
returns-clause-joined c =
    (balance_added c.args.tree.now.1 c.args.at c.args.balance c.in_ok-group.group c.set_effective_balance.new.self c.args.groups.now.items c.held_group.new.groups.items c.push.new.self.items c.requires.groups c.requires.within c.in_ok-group.ensures.places c.in_ok-group.ensures.held c.in_ok-group.ensures.set c.set_effective_balance.ensures c.in_ok-push.ensures.items).1
