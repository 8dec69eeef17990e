use Rattle.std.proofs.Common.{◌≡◌, take}
use Rattle.state_parts.proofs.validators.Validators.copied.Given as goal

abbrev pub invariant-loop-i : goal.invariant-loop-i
invariant-loop-i l = l.validators.items ≡ take l.i l.self
