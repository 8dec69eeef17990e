use Rattle.std.proofs.Common.{◌≡◌, Some, subst}
use Rattle.ssz_codec.specs.Lists.{parse_variable_list}
use Rattle.ssz_codec.specs.laws.Lists.{variable_list_lawful}
use Rattle.ssz_codec.proofs.variable_list.VariableListSsz.parse.Goals as goal

-- what was read is within the limit
pub invariant_of-result : goal.invariant_of-result
invariant_of-result g c =
    let e = subst (λ n. parse_variable_list g.T.Ssz.codec.deserialize n c.args.bytes.now ≡ Some c.in-Ok.values) c.LIMIT.ensures c.in-Ok.ensures in
    ((variable_list_lawful g.T.Ssz.codec g.L.ListLimit.LIMIT g.met.T.Ssz.lawful).sound c.args.bytes.now c.in-Ok.values (λ i. (c.type_inv.bytes i).fits) e).0.0
