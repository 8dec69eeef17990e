use Rattle.std.proofs.Common.{◌≡◌, ◌-◌}
use Rattle.ssz_codec.specs.Lists.{parse_items}
use Rattle.ssz_codec.specs.inside.Reading.{with_front}
use Rattle.ssz_codec.proofs.lists.read_items_behind.Given as goal

abbrev pub invariant-loop : goal.invariant-loop
invariant-loop g l =
    with_front l.values (parse_items g.T.Ssz.codec.deserialize l.size (l.count - l.counter) l.rest)
    ≡ with_front l.fn.values (parse_items g.T.Ssz.codec.deserialize l.size l.count l.bytes)
