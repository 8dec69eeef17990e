use Rattle.std.proofs.Common.{◌≡◌, take}
use Rattle.ssz_codec.proofs.list_value.all_equal.Given as goal

-- the values so far are the same
abbrev pub invariant-loop-i : goal.invariant-loop-i
invariant-loop-i g l = take l.i l.a ≡ take l.i l.b
