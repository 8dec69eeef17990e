-- Spans: the votes of one validator of which no two are slashable, in order of their targets; or its first slashable pair.
use Rattle.std.specs.Prelude.{ℕ, ◌-◌, ◌<◌, ◌≤◌, ◌&&◌, ◌||◌, Bool, true, false, List, [], ◌∷◌, length, slice_index_or, insert, nat_lt, nat_le, min, All, AllPairs, Option, Some, None, is_some, if◌then◌else◌}
use Rattle.std.specs.List.{position_or_len}
use Rattle.beacon_types.specs.declared.attestation_data.AttestationData.{AttestationData}
use Rattle.beacon_types.specs.Equality.{same_data}
use Rattle.forensics.specs.Pairs.{content_at, source_at, target_at, are_slashable_at}

pub record PlainSpans : Type 0 where
  pub votes : List ℕ
  pub offence : Option (ℕ × ℕ)

-- spans as they are held, and how many votes there is room for
pub record HeldSpans : Type 0 where
  pub spans : PlainSpans
  pub room : ℕ

-- of two votes the second has the later target, and no earlier source
pub record Follows (contents : List AttestationData) (a b : ℕ) : Type 0 where
  pub later : target_at contents a < target_at contents b
  pub no_earlier : source_at contents a ≤ source_at contents b

-- votes whose contents are there, each behind the one before it
pub record IsSorted (contents : List AttestationData) (votes : List ℕ) : Type 0 where
  pub inside : All (λ v. v < length contents) votes
  pub rises : AllPairs (Follows contents) votes

-- the place of a target among votes in order: that of the first one whose target isn't earlier
unfoldable pub place_of : List AttestationData → List ℕ → ℕ → ℕ
place_of contents votes target = position_or_len (λ v. nat_le target (target_at contents v)) votes

-- a vote is slashable with the one at a place, and with one of those beside a place
unfoldable pub slashable_at : List AttestationData → List ℕ → ℕ → ℕ → Bool
slashable_at contents votes place vote = nat_lt place (length votes) && are_slashable_at contents (slice_index_or votes place 0) vote

unfoldable pub slashable_beside : List AttestationData → List ℕ → ℕ → ℕ → Bool
slashable_beside contents votes place vote = slashable_at contents votes place vote || (nat_lt 0 place && slashable_at contents votes (place - 1) vote)

-- the least of votes that passes
unfoldable pub lesser : Bool → Option ℕ → ℕ → Option ℕ
lesser true None vote = Some vote
lesser true (Some best) vote = Some (min best vote)
lesser false best vote = best

unfoldable pub least_of : (ℕ → Bool) → Option ℕ → List ℕ → Option ℕ
least_of test best [] = best
least_of test best (v ∷ votes) = least_of test (lesser (test v) best v) votes

-- the content of a vote stands at a place
unfoldable pub stands_at : List AttestationData → List ℕ → ℕ → ℕ → Bool
stands_at contents votes place vote = nat_lt place (length votes) && same_data (content_at contents (slice_index_or votes place 0)) (content_at contents vote)

-- spans behind a vote
unfoldable pub with_vote : List AttestationData → PlainSpans → ℕ → Option ℕ → PlainSpans
with_vote contents spans vote (Some earlier) = record spans { offence = Some (earlier, vote) }
with_vote contents spans vote None =
    let place : ℕ = place_of contents spans.votes (target_at contents vote) in
    if stands_at contents spans.votes place vote then spans else record spans { votes = insert spans.votes place vote }

unfoldable pub spans_after : List AttestationData → PlainSpans → ℕ → PlainSpans
spans_after contents spans vote = if is_some spans.offence then spans else with_vote contents spans vote (least_of (λ e. are_slashable_at contents e vote) None spans.votes)
