use Rattle.std.proofs.Common.{◌≡◌, ◌∙◌, ℕ, ◌≤◌, List, length, sym, ap, subst, arith}
use Rattle.beacon_types.specs.Limits.{max_validators_per_committee}
use Rattle.beacon_types.specs.declared.attestation.Attestation.{Attestation}
use Rattle.committees.specs.Committees.{Committees}
use Rattle.spec_slasher.specs.GetIndexedAttestation.{in_order}
use Rattle.spec_slasher.proofs.Lists.{in_order_long}
use Rattle.spec_slasher.proofs.Written.{members_long}
use Rattle.forensics.specs.inside.Carriers.{attesters_among, attested_among, indexed_of}
use Rattle.forensics.proofs.kept_attestation.KeptAttestation.indexed.Goals as goal

-- there are no more of them than bits
few : (committees : Committees) (a : Attestation) (attesters indices : List ℕ) → length a.aggregation_bits ≤ max_validators_per_committee → attesters ≡ attesters_among committees a → indices ≡ in_order attesters → length indices ≤ max_validators_per_committee
unfolding attesters_among
few committees a attesters indices most are is =
    let one : length attesters ≤ length a.aggregation_bits = subst (λ (ms : List ℕ). length ms ≤ length a.aggregation_bits) (sym are) (members_long _ a.aggregation_bits) in
    let other : length indices ≤ length attesters = subst (λ (ms : List ℕ). length ms ≤ length attesters) (sym is) (in_order_long attesters) in
    omega (arith, one, other, most)

pub from_vec-attesting_indices-requires : goal.from_vec-attesting_indices-requires
from_vec-attesting_indices-requires c = few c.as_ref-committees.result.now c.self.inside.attestation c.in_ok-attesters.attesters.items _ c.len-bits.ensures.limit c.in_ok-attesters.ensures c.in_order.ensures

pub returns : goal.returns
unfolding indexed_of attested_among
returns c =
    ap (λ (ms : List ℕ). record { attesting_indices = ms; content = c.self.inside.attestation.content; signature = c.self.inside.attestation.signature })
    (c.from_vec-attesting_indices.ensures ∙ c.in_order.ensures ∙ ap in_order (c.in_ok-attesters.ensures ∙ ap (λ (k : Committees). attesters_among k c.self.inside.attestation) c.as_ref-committees.ensures))
    ∙ ap indexed_of c.self.view_is
