-- The votes of all validators. An attestation is known by its place, and its attesters stand in a list at that place.
use Rattle.std.specs.Prelude.{◌≡◌, ℕ, ◌<◌, ◌≤◌, ◌==◌, List, [], ◌∷◌, ◌++◌, length, slice_index_or, map, filter, All, suc, Option, None}
use Rattle.beacon_types.specs.declared.attestation_data.AttestationData.{AttestationData}
use Rattle.forensics.specs.Spans.{HeldSpans, IsSorted, spans_after}
use Rattle.forensics.specs.Standing.{StandsFor}

-- the contents of attestations with the spans of each validator, and how many contents there is room for
pub record PlainAllSpans : Type 0 where
  pub contents : List AttestationData
  pub spans : List HeldSpans
  pub room : ℕ

-- the votes of a validator in an attestation, and in those from a place on, and in all
unfoldable pub votes_in : ℕ → ℕ → List ℕ → List ℕ
votes_in validator vote attesters = map (λ _. vote) (filter (λ a. a == validator) attesters)

unfoldable pub votes_from : ℕ → ℕ → List (List ℕ) → List ℕ
votes_from validator vote [] = []
votes_from validator vote (attesters ∷ later) = votes_in validator vote attesters ++ votes_from validator (suc vote) later

unfoldable pub votes_of : ℕ → List (List ℕ) → List ℕ
votes_of validator attested = votes_from validator 0 attested

-- what stands for spans that aren't there
unfoldable pub nothing_held : HeldSpans
nothing_held = record { spans = record { votes = []; offence = None }; room = 0 }

-- the pair of slashable votes that a validator's spans keep
unfoldable pub offence_in : PlainAllSpans → ℕ → Option (ℕ × ℕ)
offence_in all_spans validator = (slice_index_or all_spans.spans validator nothing_held).spans.offence

-- each validator's spans stand for its votes
pub record AllStand (contents : List AttestationData) (spans : List HeldSpans) (votes : ℕ → List ℕ) : Type 0 where
  pub stands : (validator : ℕ) (d : HeldSpans) → validator < length spans → StandsFor contents (slice_index_or spans validator d).spans (votes validator)

-- none of their votes is later than one
pub record AreLow (vote : ℕ) (votes : ℕ → List ℕ) : Type 0 where
  pub low : (validator : ℕ) → All (λ e. e ≤ vote) (votes validator)

-- there is a content for each attestation, and each validator's spans stand for its votes in these
pub record AreSpansOf (all_spans : PlainAllSpans) (attested : List (List ℕ)) : Type 0 where
  pub count : length all_spans.contents ≡ length attested
  pub all : AllStand all_spans.contents all_spans.spans (λ validator. votes_of validator attested)

-- one validator's spans take a vote
pub record IsTaken (contents : List AttestationData) (old now : List HeldSpans) (validator vote : ℕ) : Type 0 where
  pub count : length now ≡ length old
  pub others : (other : ℕ) (d : HeldSpans) → (other ≡ validator → ⊥) → slice_index_or now other d ≡ slice_index_or old other d
  pub own : (d : HeldSpans) → validator < length old → (slice_index_or now validator d).spans ≡ spans_after contents (slice_index_or old validator d).spans vote

-- all are sorted
pub record AreSorted (contents : List AttestationData) (spans : List HeldSpans) : Type 0 where
  pub sorted_all : All (λ h. IsSorted contents h.spans.votes) spans
