-- What it says of the epochs of two votes that they are slashable.
use Rattle.std.proofs.Common.{◌≡◌, ℕ, ◌<◌, ◌⊎◌, inl, inr, true, false, ◌||◌, List, sym, ap}
use Rattle.std.proofs.lemmas.Bool.{cases_Bool, or_left, or_right, or_cases, and_from, and_parts, not_from_false, not-true, eq-eqb, eqb-true, lt-ltb, ltb-true}
use Rattle.beacon_types.proofs.Equality.{data_decides}
use Rattle.beacon_types.specs.declared.attestation_data.AttestationData.{AttestationData}
use Rattle.beacon_types.specs.Equality.{same_data}
use Rattle.beacon_types.specs.Slashable.{is_slashable_attestation_data}
use Rattle.spec_forensics.specs.Offences.{are_slashable}
use Rattle.forensics.specs.Pairs.{content_at, source_at, target_at, are_slashable_at}

-- two votes have one content
pub record IsSame (contents : List AttestationData) (a b : ℕ) : Type 0 where
  pub content : content_at contents a ≡ content_at contents b

-- two votes for one target with two contents; or one within the other
pub record IsDouble (contents : List AttestationData) (a b : ℕ) : Type 0 where
  pub other : same_data (content_at contents a) (content_at contents b) ≡ false
  pub target : target_at contents a ≡ target_at contents b

pub record IsAround (contents : List AttestationData) (a b : ℕ) : Type 0 where
  pub source : source_at contents a < source_at contents b
  pub target : target_at contents b < target_at contents a

abbrev pub IsEither : List AttestationData → ℕ → ℕ → Type 0
IsEither contents a b = IsDouble contents a b ⊎ (IsAround contents a b ⊎ IsAround contents b a)

module _ (contents : List AttestationData) where
  pub same_source : (a b : ℕ) → IsSame contents a b → source_at contents a ≡ source_at contents b
  unfolding source_at
  same_source a b h = ap (λ (d : AttestationData). d.source.epoch) h.content

  pub same_target : (a b : ℕ) → IsSame contents a b → target_at contents a ≡ target_at contents b
  unfolding target_at
  same_target a b h = ap (λ (d : AttestationData). d.target.epoch) h.content

  pub same_from : (a b : ℕ) → same_data (content_at contents a) (content_at contents b) ≡ true → IsSame contents a b
  same_from a b h = record { content = (data_decides (content_at contents a) (content_at contents b)).0 h }

  pub same_gives : (a b : ℕ) → IsSame contents a b → same_data (content_at contents a) (content_at contents b) ≡ true
  same_gives a b h = (data_decides (content_at contents a) (content_at contents b)).1 h.content

  pub same_slashable : (a b v : ℕ) → IsSame contents a b → are_slashable_at contents a v ≡ are_slashable_at contents b v
  unfolding are_slashable_at are_slashable
  same_slashable a b v h = ap (λ (d : AttestationData). is_slashable_attestation_data d (content_at contents v) || is_slashable_attestation_data (content_at contents v) d) h.content

  around_is : (a b : ℕ) → IsAround contents a b → is_slashable_attestation_data (content_at contents a) (content_at contents b) ≡ true
  unfolding is_slashable_attestation_data source_at target_at
  around_is a b h = or_right _ _ (and_from _ _ (lt-ltb _ _ h.source) (lt-ltb _ _ h.target))

  double_is : (a b : ℕ) → IsDouble contents a b → is_slashable_attestation_data (content_at contents a) (content_at contents b) ≡ true
  unfolding is_slashable_attestation_data target_at
  double_is a b h = or_left _ _ (and_from _ _ (not_from_false _ h.other) (eq-eqb _ _ h.target))

  pub slashable_from : (a b : ℕ) → IsEither contents a b → are_slashable_at contents a b ≡ true
  unfolding are_slashable_at are_slashable
  slashable_from a b h = elim h [
    | inl double ↦ or_left _ _ (double_is a b double)
    | inr around ↦ elim around [
      | inl over ↦ or_left _ _ (around_is a b over)
      | inr under ↦ or_right _ _ (around_is b a under)
    ]
  ]

  slashable_gives : (a b : ℕ) → is_slashable_attestation_data (content_at contents a) (content_at contents b) ≡ true → IsDouble contents a b ⊎ IsAround contents a b
  unfolding is_slashable_attestation_data source_at target_at
  slashable_gives a b h = elim (or_cases _ _ h) [
    | inl double ↦ let p = and_parts _ _ double in inl (record { other = not-true _ p.0; target = eqb-true _ _ p.1 })
    | inr around ↦ let p = and_parts _ _ around in inr (record { source = ltb-true _ _ p.0; target = ltb-true _ _ p.1 })
  ]

  other_too : (a b : ℕ) → IsDouble contents a b → IsDouble contents b a
  other_too a b h = record {
    other = elim (cases_Bool (same_data (content_at contents b) (content_at contents a))) [
      | inl same ↦ absurd (let s = same_from b a same in cc (same_gives a b (record { content = sym s.content }), h.other))
      | inr other ↦ other
    ];
    target = sym h.target;
  }

  pub slashable_gives_either : (a b : ℕ) → are_slashable_at contents a b ≡ true → IsEither contents a b
  unfolding are_slashable_at are_slashable
  slashable_gives_either a b h = elim (or_cases _ _ h) [
    | inl first ↦ elim (slashable_gives a b first) [ inl double ↦ inl double | inr over ↦ inr (inl over) ]
    | inr second ↦ elim (slashable_gives b a second) [ inl double ↦ inl (other_too b a double) | inr under ↦ inr (inr under) ]
  ]
