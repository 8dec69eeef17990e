use Rattle.std.proofs.Common.{◌≡◌, Some, subst}
use Rattle.ssz_codec.specs.Basic.{uint64}
use Rattle.ssz_codec.specs.Lists.{parse_list}
use Rattle.ssz_codec.specs.laws.Basic.{uint64_lawful, uint64_is_fixed}
use Rattle.ssz_codec.specs.laws.Lists.{list_lawful}
use Rattle.ssz_codec.proofs.number_list.NumberListSsz.parse.Goals as goal

-- what was read is within the limit
pub invariant_of-result : goal.invariant_of-result
invariant_of-result g c =
    let e = subst (λ n. parse_list uint64.deserialize 8 n c.args.bytes.now ≡ Some c.in-Ok.numbers) c.LIMIT.ensures c.in-Ok.ensures in
    ((list_lawful uint64 g.L.ListLimit.LIMIT uint64_is_fixed uint64_lawful).sound c.args.bytes.now c.in-Ok.numbers (λ i. (c.type_inv.bytes i).fits) e).0.0
