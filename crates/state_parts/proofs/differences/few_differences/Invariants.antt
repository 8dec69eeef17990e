use Rattle.std.proofs.Common.{◌≡◌, ◌≤◌, length, drop}
use Rattle.state_parts.specs.inside.Differences.{AreDifferences}
use Rattle.state_parts.proofs.differences.few_differences.Given as goal

abbrev pub invariant-loop-i : goal.invariant-loop-i
invariant-loop-i l = record {
  at : l.i-iterator.iter ≡ drop l.i-iterator.count l.list.items;
  within : l.i-iterator.count ≤ length l.list.items;
  made : AreDifferences l.list.items l.numbers l.i-iterator.count l.changes.items;
}
