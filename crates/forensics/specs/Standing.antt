-- The votes, in their order, that spans stand for.
use Rattle.std.specs.Prelude.{◌≡◌, ℕ, ◌<◌, ◌≤◌, List, [], length, All, AllPairs, Contains, None}
use Rattle.beacon_types.specs.declared.attestation_data.AttestationData.{AttestationData}
use Rattle.forensics.specs.Pairs.{content_at, first_slashable}
use Rattle.forensics.specs.Spans.{PlainSpans, IsSorted}

-- one of the votes that are kept has the content of a vote, and isn't later
pub record IsCovered (contents : List AttestationData) (votes : List ℕ) (vote : ℕ) : Type 0 where
  pub by : ℕ
  pub among : Contains votes by
  pub content : content_at contents by ≡ content_at contents vote
  pub no_later : by ≤ vote

-- the offence is the first slashable pair of the votes; while there is none, the votes that are kept are some of them, and cover all
pub record StandsFor (contents : List AttestationData) (spans : PlainSpans) (votes : List ℕ) : Type 0 where
  pub offence : spans.offence ≡ first_slashable contents [] votes
  pub sorted : IsSorted contents spans.votes
  pub ascends : AllPairs (λ a b. a ≤ b) votes
  pub inside : All (λ v. v < length contents) votes
  pub listed : spans.offence ≡ None → All (Contains votes) spans.votes
  pub covered : spans.offence ≡ None → All (IsCovered contents spans.votes) votes
