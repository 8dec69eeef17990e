use Rattle.std.proofs.Common.{◌≡◌, take, replicate}
use Rattle.state_parts.proofs.uniform.are_same.Given as goal

abbrev pub invariant-loop-i : goal.invariant-loop-i
invariant-loop-i g l = take l.i l.values ≡ replicate l.i l.first
