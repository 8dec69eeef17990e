use Rattle.std.proofs.Common.{◌≡◌, []}
use Rattle.forensics.specs.inside.SideBySide.{stay}
use Rattle.forensics.proofs.steady.are_idle.Given as goal

abbrev pub invariant-loop-own : goal.invariant-loop-own
invariant-loop-own l = stay l.previous l.current l.own-iterator [] ≡ stay l.previous l.current l.fn.owns []
