-- The votes of a list and those of a block, as one list.
use Rattle.std.proofs.Common.{◌∙◌, ℕ, List, [], ◌∷◌, ◌++◌, map, refl, ap, subst, arith, inl, inr}
use Rattle.beacon_types.specs.declared.attestation_data.AttestationData.{AttestationData}
use Rattle.beacon_types.specs.declared.attestation.Attestation.{Attestation}
use Rattle.spec_state.specs.declared.plain.PlainState.{PlainState}
use Rattle.spec_state.specs.Accessors.{get_attesting_indices}
use Rattle.spec_transition.specs.ProcessSlots.{Stepped}
use Rattle.ffg_law.specs.Links.{IsOneOf}
use Rattle.vote_law.specs.Backed.{Votes, IsListed, Adding, CarriedVote, AreAmong, votes_of}
use Rattle.vote_law.specs.Runs.{Places, Goes}
use Rattle.vote_law.proofs.Backed.{More, backed_more}
use Rattle.vote_law.proofs.Runs.{run_moves}

among_first : {A : Type 0} (x : A) (xs ys : List A) → IsOneOf x xs → IsOneOf x (xs ++ ys)
among_first x [] ys one = absurd one
among_first x (z ∷ xs) ys (inl is) = inl is
among_first x (z ∷ xs) ys (inr later) = inr (among_first x xs ys later)

among_later : {A : Type 0} (x : A) (xs ys : List A) → IsOneOf x ys → IsOneOf x (xs ++ ys)
among_later x [] ys one = one
among_later x (z ∷ xs) ys one = inr (among_later x xs ys one)

among_mapped : {A B : Type 0} (make : A → B) (xs : List A) (x : A) → IsOneOf x xs → IsOneOf (make x) (map make xs)
among_mapped make [] x one = absurd one
among_mapped make (y ∷ ys) x (inl is) = inl (ap make is)
among_mapped make (y ∷ ys) x (inr later) = inr (among_mapped make ys x later)

abbrev vote_of : PlainState → Attestation → CarriedVote
vote_of behind attestation = record { voted = attestation.content; attesters = get_attesting_indices behind attestation.content attestation.aggregation_bits }

abbrev vote_by : AttestationData → List ℕ → CarriedVote
vote_by voted attesters = record { voted = voted; attesters = attesters }

-- a vote of a block is one of its list
is_listed : (attestations : List Attestation) (behind : PlainState) (voted : AttestationData) (attesters : List ℕ) → IsListed attestations behind voted attesters → IsOneOf (vote_by voted attesters) (votes_of attestations behind)
unfolding votes_of
is_listed attestations behind voted attesters here =
    let bits = here.attestation.aggregation_bits in
    subst (λ (v : CarriedVote). IsOneOf v (map (vote_of behind) attestations))
    (ap (λ (content : AttestationData). vote_by content (get_attesting_indices behind content bits)) here.content ∙ ap (vote_by voted) here.attest)
    (among_mapped (vote_of behind) attestations here.attestation here.listed)

-- votes with those of a block are one list
pub added_are_among : (votes : List CarriedVote) (attestations : List Attestation) (behind : PlainState) → More (Adding (AreAmong votes) attestations behind) (AreAmong (votes_of attestations behind ++ votes))
added_are_among votes attestations behind voted attesters (inl before) = among_later (vote_by voted attesters) (votes_of attestations behind) votes before
added_are_among votes attestations behind voted attesters (inr here) = among_first (vote_by voted attesters) (votes_of attestations behind) votes (is_listed attestations behind voted attesters here)

-- what states say of links they say with more votes
pub goes_more : (genesis : PlainState) (votes others : Votes) (stands : Places) (root : List ℕ) (x : Stepped) → More votes others → Goes genesis votes stands root x → Goes genesis others stands root x
goes_more genesis votes others stands root x more goes = record {
  backed = backed_more votes others x.state more goes.backed;
  told = goes.told;
  header = goes.header;
  filled = goes.filled;
  preset = goes.preset;
  run = λ steady. run_moves genesis votes others stands stands x.state x.state more (λ slot root less here. here) (omega arith) refl refl (goes.run steady);
}
