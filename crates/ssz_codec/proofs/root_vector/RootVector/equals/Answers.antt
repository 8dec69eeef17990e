use Rattle.std.proofs.Common.{◌≡◌, subst}
use Rattle.std.specs.Prelude.{IsTrue, ◌↔◌}
use Rattle.std.specs.Cmp.{unsigned_Decides}
use Rattle.std.specs.Cmp.Lexicographic.{pointwise_decides}
use Rattle.std.proofs.lemmas.Slice.Eq.{slice_eq-Decides}
use Rattle.ssz_codec.proofs.root_vector.RootVector.equals.Goals as goal

pub returns : goal.returns
returns g c =
    subst (λ xs. IsTrue c.eq.result ↔ (xs ≡ c.args.other.now)) c.as_slice.ensures.same
    (subst (λ ys. IsTrue c.eq.result ↔ (c.as_slice.result.now ≡ ys)) c.as_slice-2.ensures.same
    (slice_eq-Decides (pointwise_decides unsigned_Decides) c.as_slice.result.now c.as_slice-2.result.now c.eq.result c.eq.ensures))
