-- Votes by their places in a list of contents, and which two of one validator are slashable.
use Rattle.std.specs.Prelude.{ℕ, Bool, List, [], slice_index_or, Option}
use Rattle.beacon_types.specs.declared.checkpoint.Checkpoint.{Checkpoint}
use Rattle.beacon_types.specs.declared.attestation_data.AttestationData.{AttestationData}
use Rattle.spec_forensics.specs.FirstPair.{first_pair}
use Rattle.spec_forensics.specs.Offences.{are_slashable}

-- what stands for the content at a place that isn't there
unfoldable pub no_checkpoint : Checkpoint
no_checkpoint = record { epoch = 0; root = [] }

unfoldable pub no_content : AttestationData
no_content = record { slot = 0; index = 0; beacon_block_root = []; source = no_checkpoint; target = no_checkpoint }

-- the content of a vote, and its two epochs
unfoldable pub content_at : List AttestationData → ℕ → AttestationData
content_at contents vote = slice_index_or contents vote no_content

unfoldable pub source_at : List AttestationData → ℕ → ℕ
source_at contents vote = (content_at contents vote).source.epoch

unfoldable pub target_at : List AttestationData → ℕ → ℕ
target_at contents vote = (content_at contents vote).target.epoch

-- nobody may cast both
unfoldable pub are_slashable_at : List AttestationData → ℕ → ℕ → Bool
are_slashable_at contents a b = are_slashable (content_at contents a) (content_at contents b)

-- the least later vote that is slashable with an earlier one, with the least such earlier one
abbrev pub first_slashable : List AttestationData → List ℕ → List ℕ → Option (ℕ × ℕ)
first_slashable contents earlier later = first_pair (are_slashable_at contents) earlier later
