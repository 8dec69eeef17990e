-- Where a carried attestation stands.
use Rattle.std.proofs.Common.{◌≡◌, ℕ, ◌+◌, ◌⊎◌, inl, inr, List, [], ◌∷◌, ◌++◌, refl, subst}
use Rattle.std.specs.List.{enumerate_from}
use Rattle.beacon_types.specs.declared.attestation.Attestation.{Attestation}
use Rattle.ffg_law.specs.Links.{IsOneOf}
use Rattle.spec_forensics.specs.Histories.{AcceptedBlock}
use Rattle.spec_slasher.specs.AttestationOf.{CarriedAttestation, attestations_of_block, carried_attestations, all_attestations}
use Rattle.spec_slasher.proofs.Lists.{in_first, in_second, of_append, of_map}

-- the place of a carried attestation
pub record IsPlaced (which : ℕ) (blocks : List AcceptedBlock) (c : CarriedAttestation) : Type 0 where
  pub which_is : c.which ≡ which
  pub accepted : IsOneOf c.accepted blocks
  pub at : IsOneOf (c.position, c.attestation) (enumerate_from 0 c.accepted.block.body.attestations)

placed_in_block : (which : ℕ) (b : AcceptedBlock) (earlier : List AcceptedBlock) (c : CarriedAttestation) → IsOneOf c (attestations_of_block which b) → IsPlaced which (b ∷ earlier) c
unfolding attestations_of_block
placed_in_block which b earlier c h =
    let x = of_map _ c (enumerate_from 0 b.block.body.attestations) h in
    subst (IsPlaced which (b ∷ earlier)) x.is (record { which_is = refl; accepted = inl refl; at = x.listed })

placed : (which : ℕ) (blocks : List AcceptedBlock) (c : CarriedAttestation) → IsOneOf c (carried_attestations which blocks) → IsPlaced which blocks c
unfolding carried_attestations
placed which [] c h = absurd h
placed which (b ∷ earlier) c h = elim (of_append c (carried_attestations which earlier) (attestations_of_block which b) h) [
  | inl before ↦ let r = placed which earlier c before in record { which_is = r.which_is; accepted = inr r.accepted; at = r.at }
  | inr here ↦ placed_in_block which b earlier c here
]

pub placed_either : (first second : List AcceptedBlock) (c : CarriedAttestation) → IsOneOf c (all_attestations first second) → IsPlaced 0 first c ⊎ IsPlaced 1 second c
unfolding all_attestations
placed_either first second c h = elim (of_append c (carried_attestations 0 first) (carried_attestations 1 second) h) [
  | inl one ↦ inl (placed 0 first c one)
  | inr other ↦ inr (placed 1 second c other)
]

-- ---- without its place

-- its block is one of some, and it is one of that block's
pub record StandsIn (blocks : List AcceptedBlock) (c : CarriedAttestation) : Type 0 where
  pub accepted : IsOneOf c.accepted blocks
  pub carried : IsOneOf c.attestation c.accepted.block.body.attestations

of_places : (n p : ℕ) (a : Attestation) (xs : List Attestation) → IsOneOf (p, a) (enumerate_from n xs) → IsOneOf a xs
of_places n p a [] h = absurd h
of_places n p a (x ∷ xs) (inl e) = inl (λ i. (e i).1)
of_places n p a (x ∷ xs) (inr h) = inr (of_places (n + 1) p a xs h)

pub stands : (first second : List AcceptedBlock) (c : CarriedAttestation) → IsOneOf c (all_attestations first second) → StandsIn (first ++ second) c
stands first second c h = elim (placed_either first second c h) [
  | inl one ↦ record { accepted = in_first c.accepted first second one.accepted; carried = of_places 0 c.position c.attestation c.accepted.block.body.attestations one.at }
  | inr other ↦ record { accepted = in_second c.accepted first second other.accepted; carried = of_places 0 c.position c.attestation c.accepted.block.body.attestations other.at }
]
