-- The changes so far are made in the groups, and the groups changed reach as far as they do.
use Rattle.std.proofs.Common.{◌≡◌, ℕ, ◌+◌, ◌/◌, ◌≤◌, length, take, drop}
use Rattle.std.specs.Vec.Iter.{into_iter_items}
use Rattle.tree_nodes.specs.Changes.{AreChanges, changed}
use Rattle.validator_registry.specs.Registries.{with_balances}
use Rattle.validator_registry.specs.inside.Groups.{joined, AreGroups}
use Rattle.validator_registry.proofs.group_changes.group_changes.Given as goal

abbrev pub invariant-balances : goal.invariant-balances
invariant-balances l = record {
  rest : into_iter_items l.rest ≡ drop l.k l.fn.changes.items;
  made : joined (changed l.tree.1 l.groups.items) ≡ with_balances (joined l.tree.1) (take l.k l.fn.changes.items);
  groups : AreGroups (changed l.tree.1 l.groups.items);
  places : (next : ℕ) → AreChanges 0 next (take l.k l.fn.changes.items) → AreChanges 0 ((next + 15) / 16) l.groups.items;
  few : length l.groups.items ≤ l.k;
}
