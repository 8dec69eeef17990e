-- The attesters by the committees of an epoch are the published ones.
use Rattle.std.proofs.Common.{◌≡◌, ◌∙◌, ℕ, ◌<◌, List, [], ◌∷◌, map, length, Option, None, refl, sym, ap}
use Rattle.std.specs.Option.{unwrap_or}
use Rattle.std.proofs.lemmas.List.{length-map}
use Rattle.bc_preset.specs.Presets.{IsPreset}
use Rattle.beacon_types.specs.declared.attestation.Attestation.{Attestation}
use Rattle.committees.specs.Committees.{Committees, committee_at}
use Rattle.spec_state.specs.declared.plain.PlainState.{PlainState}
use Rattle.spec_state.specs.Misc.{compute_epoch_at_slot}
use Rattle.spec_state.specs.Accessors.{get_committee_count_per_slot, get_attesting_indices, members_with_bits}
use Rattle.spec_state.specs.inside.EpochCommittees.{epoch_committees}
use Rattle.spec_state.proofs.BeaconCommittees.{committee_is_published}
use Rattle.forensics.specs.inside.BlockVotes.{attesters_in}
use Rattle.forensics.specs.inside.Carriers.{Attested, attesters_among, attested_among, attested_in}

abbrev with_committee : Attestation → Option (List ℕ) → Attested
with_committee a committee = record { attestation = a; attesters = members_with_bits (unwrap_or committee []) a.aggregation_bits }

pub attested_is : (state : PlainState) (committees : Committees) (a : Attestation) → IsPreset state.preset → committees ≡ epoch_committees state (compute_epoch_at_slot state.preset a.content.slot)
    → a.content.index < get_committee_count_per_slot state (compute_epoch_at_slot state.preset a.content.slot) → attested_among committees a ≡ attested_in state a
unfolding attested_among attesters_among attested_in attesters_in get_attesting_indices
attested_is state committees a preset is less =
    ap (λ (c : Committees). with_committee a (committee_at c a.content.slot a.content.index)) is
    ∙ ap (with_committee a) (committee_is_published state (compute_epoch_at_slot state.preset a.content.slot) a.content.slot a.content.index preset refl less)

-- nobody attests where the committees lack that of the attestation
pub nobody_attests : (committees : Committees) (a : Attestation) → committee_at committees a.content.slot a.content.index ≡ None → attesters_among committees a ≡ []
unfolding attesters_among members_with_bits
nobody_attests committees a none = ap (λ (o : Option (List ℕ)). members_with_bits (unwrap_or o []) a.aggregation_bits) none

attesters_again : (state : PlainState) (attestations : List Attestation) → map (λ (k : Attested). k.attesters) (map (attested_in state) attestations) ≡ map (attesters_in state) attestations
unfolding attested_in
attesters_again state [] = refl
attesters_again state (a ∷ attestations) = ap (λ (ls : List (List ℕ)). attesters_in state a ∷ ls) (attesters_again state attestations)

-- the lists of attesters of kept attestations
pub lists_are : (state : PlainState) (attestations : List Attestation) (kept shown : List Attested) (lists : List (List ℕ)) → shown ≡ kept → kept ≡ map (attested_in state) attestations → lists ≡ map (λ (k : Attested). k.attesters) shown
    → lists ≡ map (attesters_in state) attestations
lists_are state attestations kept shown lists same is are = are ∙ ap (map (λ (k : Attested). k.attesters)) (same ∙ is) ∙ attesters_again state attestations

-- there are as many
pub as_many : {A B C : Type 0} (f : A → C) (g : B → C) (xs : List A) (ys : List B) → map f xs ≡ map g ys → length xs ≡ length ys
as_many f g xs ys same = sym (length-map xs f) ∙ ap length same ∙ length-map ys g
