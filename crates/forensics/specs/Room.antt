-- Room for votes that are still to come, so that they can be taken without fail.
use Rattle.std.specs.Prelude.{◌≡◌, ℕ, ◌+◌, ◌<◌, ◌≤◌, ◌==◌, List, [], ◌∷◌, All, length, slice_index_or, if◌then◌else◌}
use Rattle.std.specs.List.{count_by}
use Rattle.forensics.specs.Spans.{HeldSpans}

-- how many votes of each validator are to come: where one votes, where attesters do, and where those of many attestations do
unfoldable pub one_of : ℕ → ℕ → ℕ
one_of validator other = if validator == other then 1 else 0

unfoldable pub all_of : List ℕ → ℕ → ℕ
all_of attesters other = count_by (λ a. a == other) attesters

unfoldable pub all_in : List (List ℕ) → ℕ → ℕ
all_in [] other = 0
all_in (attesters ∷ later) other = all_of attesters other + all_in later other

pub record HasRoom (spans : List HeldSpans) (need : ℕ → ℕ) : Type 0 where
  pub room : (validator : ℕ) (d : HeldSpans) → validator < length spans → 0 < need validator → length (slice_index_or spans validator d).spans.votes + need validator ≤ (slice_index_or spans validator d).room

-- each has at most so many votes more, and no less room
pub record Grows (old now : List HeldSpans) (more : ℕ → ℕ) : Type 0 where
  pub count : length now ≡ length old
  pub votes : (validator : ℕ) (d : HeldSpans) → validator < length old → length (slice_index_or now validator d).spans.votes ≤ length (slice_index_or old validator d).spans.votes + more validator
  pub room : (validator : ℕ) (d : HeldSpans) → validator < length old → (slice_index_or old validator d).room ≤ (slice_index_or now validator d).room

-- each is as before, but for more room
pub record IsSame (old now : List HeldSpans) : Type 0 where
  pub count : length now ≡ length old
  pub spans : (validator : ℕ) (d : HeldSpans) → validator < length old → (slice_index_or now validator d).spans ≡ (slice_index_or old validator d).spans
  pub room : (validator : ℕ) (d : HeldSpans) → validator < length old → (slice_index_or old validator d).room ≤ (slice_index_or now validator d).room

-- room for a number of votes more of each attester
pub record IsReserved (spans : List HeldSpans) (count : ℕ) (attesters : List ℕ) : Type 0 where
  pub room : (validator : ℕ) (d : HeldSpans) → validator < length spans → 0 < all_of attesters validator → length (slice_index_or spans validator d).spans.votes + count ≤ (slice_index_or spans validator d).room

pub record AreReserved (spans : List HeldSpans) (count : ℕ) (lists : List (List ℕ)) : Type 0 where
  pub each : All (IsReserved spans count) lists

-- no attester stands twice in a list
pub record StandOnce (lists : List (List ℕ)) : Type 0 where
  pub once : All (λ attesters. (validator : ℕ) → all_of attesters validator ≤ 1) lists
