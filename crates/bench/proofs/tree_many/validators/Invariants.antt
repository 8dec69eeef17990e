-- As many items as places so far.
use Rattle.std.proofs.Common.{◌≡◌, length}
use Rattle.bench.proofs.tree_many.validators.Given as goal

abbrev pub invariant-loop-i : goal.invariant-loop-i
invariant-loop-i l = length l.items.items ≡ l.i
