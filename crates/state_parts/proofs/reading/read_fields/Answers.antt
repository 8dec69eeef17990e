use Rattle.std.proofs.Common.{subst}
use Rattle.ssz_codec.specs.Reads.{ReadsAs}
use Rattle.state_parts.proofs.PartsOfGroups.{parts_are_read}
use Rattle.state_parts.proofs.reading.read_fields.Goals as goal

pub returns : goal.returns
returns c =
    subst (λ o. ReadsAs c.read_groups.result o)
    (parts_are_read (λ part. part.now) c.args.preset.now c.args.parts.now _ _ _ _ _ _ _ _ _ _
    c.split_at.ensures.front c.split_at.ensures.back c.split_at-2.ensures.front c.split_at-2.ensures.back c.split_at-3.ensures.front c.split_at-3.ensures.back
    c.split_at-4.ensures.front c.split_at-4.ensures.back c.split_at-5.ensures.front c.split_at-5.ensures.back c.requires.count)
    c.read_groups.ensures
