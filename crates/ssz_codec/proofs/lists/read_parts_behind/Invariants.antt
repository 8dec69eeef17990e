use Rattle.std.proofs.Common.{◌≡◌, drop, map}
use Rattle.ssz_codec.specs.Lists.{parse_parts}
use Rattle.ssz_codec.specs.inside.Reading.{with_front}
use Rattle.ssz_codec.proofs.lists.read_parts_behind.Given as goal

abbrev pub invariant-loop-part : goal.invariant-loop-part
invariant-loop-part g l =
    with_front l.values (parse_parts g.T.Ssz.codec.deserialize (map (λ part. part.now) (drop l.part-index l.parts)))
    ≡ with_front l.fn.values (parse_parts g.T.Ssz.codec.deserialize (map (λ part. part.now) l.parts))
