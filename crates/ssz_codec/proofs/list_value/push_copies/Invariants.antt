use Rattle.std.proofs.Common.{◌≡◌, ◌++◌, take}
use Rattle.ssz_codec.proofs.list_value.push_copies.Given as goal

abbrev pub invariant-loop-value : goal.invariant-loop-value
invariant-loop-value g l = l.copies ≡ l.fn.copies ++ take l.value-index l.values
