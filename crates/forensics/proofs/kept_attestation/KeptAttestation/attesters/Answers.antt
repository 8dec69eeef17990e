use Rattle.std.proofs.Common.{◌≡◌, ◌∙◌, ℕ, List, IfOk, ap, subst}
use Rattle.committees.specs.Committees.{Committees}
use Rattle.forensics.specs.inside.Carriers.{Attested, attesters_among, attested_among}
use Rattle.forensics.proofs.kept_attestation.KeptAttestation.attesters.Goals as goal

pub returns : goal.returns
unfolding attested_among
returns c =
    subst (λ (ms : List ℕ). IfOk c.attesters_among.result (λ members. members.items ≡ ms))
    (ap (λ (k : Committees). attesters_among k c.self.inside.attestation) c.as_ref-committees.ensures ∙ ap (λ (k : Attested). k.attesters) c.self.view_is) c.attesters_among.ensures
