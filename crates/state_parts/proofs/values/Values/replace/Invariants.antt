use Rattle.std.proofs.Common.{take}
use Rattle.std.specs.List.{AllByRecursion}
use Rattle.state_parts.proofs.values.Values.replace.Given as goal

abbrev pub invariant-loop-value : goal.invariant-loop-value
invariant-loop-value g l = AllByRecursion g.T.Ssz.codec.Within (take l.value-index l.value-items)
