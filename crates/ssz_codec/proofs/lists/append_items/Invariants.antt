use Rattle.std.proofs.Common.{◌≡◌, ◌++◌, take}
use Rattle.std.specs.List.{flat_map}
use Rattle.ssz_codec.proofs.lists.append_items.Given as goal

abbrev pub invariant-loop-value : goal.invariant-loop-value
invariant-loop-value g l = l.out ≡ l.fn.out ++ flat_map g.T.Ssz.codec.serialize (take l.value-index l.values)
