use Rattle.std.proofs.Common.{ap, ◌∙◌, sym}
use Rattle.ssz_codec.specs.Lists.{parse_parts}
use Rattle.ssz_codec.specs.inside.Reading.{with_front}
use Rattle.ssz_codec.proofs.ItemsLoop.{part_more, part_fails, parts_end, parts_from, parts_none}
use Rattle.ssz_codec.proofs.lists.read_parts_behind.Goals as goal

pub returns-in-Err : goal.returns-in-Err
returns-in-Err g c =
    let parse = g.T.Ssz.codec.deserialize in
    let this = parts_from (λ part. part.now) c.args.parts.now c.loop-part.part-index _ c.loop-part-test.true in
    part_fails c.in-Err.fault parse c.loop-part.values _ _ _ c.in-Err.ensures (ap (λ ps. with_front c.loop-part.values (parse_parts parse ps)) (sym this) ∙ c.loop-part.invariant)

pub loop-part-preserved : goal.loop-part-preserved
loop-part-preserved g c =
    let parse = g.T.Ssz.codec.deserialize in
    let this = parts_from (λ part. part.now) c.args.parts.now c.loop-part.part-index _ c.loop-part-test.true in
    part_more parse c.loop-part.values _ _ _ _ c.in-Ok.ensures (ap (λ ps. with_front c.loop-part.values (parse_parts parse ps)) (sym this) ∙ c.loop-part.invariant)

pub returns : goal.returns
returns g c =
    let parse = g.T.Ssz.codec.deserialize in
    let none = parts_none (λ part. part.now) c.args.parts.now c.loop-part.part-index c.loop-part-test.false in
    parts_end parse c.loop-part.values _ (ap (λ ps. with_front c.loop-part.values (parse_parts parse ps)) (sym none) ∙ c.loop-part.invariant)
