use Rattle.std.proofs.Common.{◌≡◌, drop, map}
use Rattle.ssz_codec.specs.inside.Halves.{with_variable_parts}
use Rattle.ssz_codec.proofs.variable_list.write_parts.Given as goal

-- what is written, with what is left to write
abbrev pub invariant-loop-value : goal.invariant-loop-value
invariant-loop-value g l =
    with_variable_parts (map g.T.Ssz.codec.serialize (drop l.value-index l.values)) l.parts
    ≡ with_variable_parts (map g.T.Ssz.codec.serialize l.values) l.fn.parts
