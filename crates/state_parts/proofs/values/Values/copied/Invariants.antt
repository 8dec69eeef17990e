use Rattle.std.proofs.Common.{◌≡◌, take}
use Rattle.state_parts.proofs.values.Values.copied.Given as goal

abbrev pub invariant-loop-i : goal.invariant-loop-i
invariant-loop-i g l = l.values.items ≡ take l.i l.self.items
