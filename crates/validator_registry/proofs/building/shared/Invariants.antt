-- The groups so far are the first of the tree, and the walk has those behind them.
use Rattle.std.proofs.Common.{◌≡◌, take, drop}
use Rattle.validator_registry.specs.inside.Places.{places}
use Rattle.validator_registry.proofs.building.shared.Given as goal

abbrev pub invariant-groups : goal.invariant-groups
invariant-groups l = record {
  rest : l.walk ≡ drop l.k l.tree.1;
  placed : l.groups.items ≡ places 0 (take l.k l.tree.1);
}
