-- Reading items of lists.
use Rattle.std.proofs.Common.{◌≡◌, ℕ, ◌<◌, List, length, get_or}
use Rattle.std.proofs.lemmas.List.{get_or_read}
use Rattle.std.proofs.lemmas.List.Elements.{All-get_or}
use Rattle.beacon_types.specs.declared.attestation_data.AttestationData.{AttestationData}
use Rattle.forensics.specs.Pairs.{no_content}
use Rattle.forensics.specs.Spans.{IsSorted}

pub got : (contents : List AttestationData) (i : ℕ) (x : AttestationData) → i < length contents → x ≡ get_or contents i x → x ≡ get_or contents i no_content
got contents i x h e = get_or_read contents i x h e no_content

pub stands : (contents : List AttestationData) (votes : List ℕ) (k : ℕ) → IsSorted contents votes → k < length votes → get_or votes k 0 < length contents
stands contents votes k sorted h = All-get_or (λ v. v < length contents) votes k 0 h sorted.inside

pub ruleset getting = (got)

pub ruleset inside_at = (stands)
