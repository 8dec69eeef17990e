use Rattle.std.proofs.Common.{◌≡◌, Some, subst}
use Rattle.ssz_codec.specs.Basic.{bytes32}
use Rattle.ssz_codec.specs.Lists.{parse_items}
use Rattle.ssz_codec.specs.laws.Basic.{bytes32_lawful, bytes32_is_fixed}
use Rattle.ssz_codec.specs.laws.Lists.{vector_lawful}
use Rattle.ssz_codec.proofs.root_vector.RootVectorSsz.parse.Goals as goal

-- what was read has the length
pub invariant_of-result : goal.invariant_of-result
invariant_of-result g c =
    let e = subst (λ n. parse_items bytes32.deserialize 32 n c.args.bytes.now ≡ Some c.in-Ok.values) c.LENGTH.ensures c.in-Ok.ensures in
    ((vector_lawful bytes32 g.L.VectorLength.LENGTH bytes32_is_fixed bytes32_lawful).sound c.args.bytes.now c.in-Ok.values (λ i. (c.type_inv.bytes i).fits) e).0.0
