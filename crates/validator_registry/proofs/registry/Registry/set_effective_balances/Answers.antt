-- The groups with the other balances.
use Rattle.std.proofs.Common.{rules, ◌≡◌, ◌∙◌, List, length, sym, ap}
use Rattle.beacon_types.specs.declared.validator.Validator.{Validator}
use Rattle.validator_registry.specs.Registries.{with_balances}
use Rattle.validator_registry.specs.inside.Groups.{joined}
use Rattle.validator_registry.proofs.GroupChanges.{balance_none}
use Rattle.validator_registry.proofs.RegistryTrees.{balances_length, changed_tree, own_tree}
use Rattle.validator_registry.proofs.registry.Registry.set_effective_balances.Goals as goal

pub returns-then-is_empty-clause-set : goal.returns-then-is_empty-clause-set
returns-then-is_empty-clause-set g c =
    let none : length c.args.changes.items ≡ 0 = search rules in
    sym (balance_none c.args.self.now c.args.changes.items none)

pub root_over-self-inside-requires-clause-tree : goal.root_over-self-inside-requires-clause-tree
root_over-self-inside-requires-clause-tree g c =
    own_tree _ _ _ (changed_tree c.self.inside.tree c.put_many.new.self c.self.inside.depth c.in_ok-groups.groups.items _ c.self.invariant.tree_is c.in_ok-groups.ensures.groups c.in_ok-groups.ensures.joined c.in_ok-put_many.ensures.put)

pub root_over-self-inside-requires-clause-len : goal.root_over-self-inside-requires-clause-len
root_over-self-inside-requires-clause-len g c =
    let now = changed_tree c.self.inside.tree c.put_many.new.self c.self.inside.depth c.in_ok-groups.groups.items _ c.self.invariant.tree_is c.in_ok-groups.ensures.groups c.in_ok-groups.ensures.joined c.in_ok-put_many.ensures.put in
    balances_length (joined c.self.inside.tree.1) (joined c.put_many.new.self.1) c.args.changes.items c.self.inside.len now.validators_are c.self.invariant.len_is

pub invariant_of-self-2 : goal.invariant_of-self-2
invariant_of-self-2 g c =
    let now = changed_tree c.self.inside.tree c.put_many.new.self c.self.inside.depth c.in_ok-groups.groups.items _ c.self.invariant.tree_is c.in_ok-groups.ensures.groups c.in_ok-groups.ensures.joined c.in_ok-put_many.ensures.put in
    record {
      tree_is = own_tree _ _ _ now;
      len_is = balances_length (joined c.self.inside.tree.1) (joined c.put_many.new.self.1) c.args.changes.items c.self.inside.len now.validators_are c.self.invariant.len_is;
      root_is = c.root_over-self-inside.ensures.root;
    }

pub returns-clause-set : goal.returns-clause-set
returns-clause-set g c =
    let now = changed_tree c.self.inside.tree c.put_many.new.self c.self.inside.depth c.in_ok-groups.groups.items _ c.self.invariant.tree_is c.in_ok-groups.ensures.groups c.in_ok-groups.ensures.joined c.in_ok-put_many.ensures.put in
    now.validators_are ∙ ap (λ (vs : List Validator). with_balances vs c.args.changes.items) c.self.view_is
