use Rattle.std.proofs.Common.{◌≡◌, Some, subst}
use Rattle.ssz_codec.specs.Lists.{parse_list}
use Rattle.ssz_codec.specs.laws.Lists.{list_lawful}
use Rattle.ssz_codec.proofs.limited.LimitedListSsz.parse.Goals as goal

-- what was read is within the limit
pub invariant_of-result : goal.invariant_of-result
invariant_of-result g c =
    let limited = subst (λ n. parse_list g.T.Ssz.codec.deserialize c.size_of.result n c.args.bytes.now ≡ Some c.in-Ok.values) c.LIMIT.ensures c.in-Ok.ensures in
    let e = subst (λ size. parse_list g.T.Ssz.codec.deserialize size g.L.ListLimit.LIMIT c.args.bytes.now ≡ Some c.in-Ok.values) c.size_of.ensures.exact limited in
    ((list_lawful g.T.Ssz.codec g.L.ListLimit.LIMIT g.met.T.FixedSsz.is_fixed g.met.T.Ssz.lawful).sound c.args.bytes.now c.in-Ok.values (λ i. (c.type_inv.bytes i).fits) e).0.0
