-- What is kept of accepted blocks, so that the attestation that a vote names can be given back: each block's attestations with their
-- attesters.
use Rattle.std.specs.Prelude.{◌≡◌, ℕ, Bool, ◌&&◌, ◌==◌, nat_lt, List, [], ◌∷◌, map, reverse, slice_get, unwrap_or, Option, Some, None, if◌then◌else◌}
use Rattle.std.specs.List.{list_any}
use Rattle.beacon_types.specs.Equality.{same_root, same_data}
use Rattle.beacon_types.specs.declared.indexed_attestation.IndexedAttestation.{IndexedAttestation}
use Rattle.beacon_types.specs.declared.attestation.Attestation.{Attestation}
use Rattle.committees.specs.Committees.{Committees, committee_at}
use Rattle.spec_state.specs.declared.plain.PlainState.{PlainState}
use Rattle.spec_state.specs.Accessors.{members_with_bits}
use Rattle.spec_forensics.specs.declared.vote.Vote.{Vote}
use Rattle.spec_forensics.specs.Histories.{AcceptedBlock}
use Rattle.spec_slasher.specs.GetIndexedAttestation.{in_order}
use Rattle.forensics.specs.declared.entries.Entry.{Entry}
use Rattle.forensics.specs.inside.BlockVotes.{attesters_in}
use Rattle.forensics.specs.inside.Entries.{IsKeptOf}

-- an attestation and who attested in it
pub record Attested : Type 0 where
  pub attestation : Attestation
  pub attesters : List ℕ

-- who attested, by the committees of the epoch; nobody where they lack that of the attestation
unfoldable pub attesters_among : Committees → Attestation → List ℕ
attesters_among committees attestation =
    members_with_bits (unwrap_or (committee_at committees attestation.content.slot attestation.content.index) []) attestation.aggregation_bits

unfoldable pub attested_among : Committees → Attestation → Attested
attested_among committees attestation = record { attestation = attestation; attesters = attesters_among committees attestation }

-- and by a state
unfoldable pub attested_in : PlainState → Attestation → Attested
attested_in state attestation = record { attestation = attestation; attesters = attesters_in state attestation }

-- with all its attesters, sorted and each once
unfoldable pub indexed_of : Attested → IndexedAttestation
indexed_of attested = record {
  attesting_indices = in_order attested.attesters;
  content = attested.attestation.content;
  signature = attested.attestation.signature;
}

-- a block's attestations, with its event and its root
pub record PlainCarrier : Type 0 where
  pub event : ℕ
  pub root : List ℕ
  pub attestations : List Attested

unfoldable pub carrier_of : AcceptedBlock → PlainCarrier
carrier_of b = record { event = b.event; root = b.root; attestations = map (attested_in b.state) b.block.body.attestations }

-- those of a history's blocks, in the order of these
unfoldable pub carriers_of : List AcceptedBlock → List PlainCarrier
carriers_of blocks = reverse (map carrier_of blocks)

-- entries and attestations are those of a history's blocks
pub record IsHistoryKept (genesis : PlainState) (blocks : List AcceptedBlock) (entries : List Entry) (carriers : List PlainCarrier) : Type 0 where
  pub entries_are : IsKeptOf genesis blocks entries
  pub carriers_are : carriers ≡ carriers_of blocks

-- whether a vote is one of an attestation's, of the validators below a number
unfoldable pub has_vote : ℕ → Vote → Attested → Bool
has_vote validators vote attested =
    nat_lt vote.validator validators
    && (same_data attested.attestation.content vote.content && list_any (λ validator. validator == vote.validator) attested.attesters)

-- an attestation, where a vote is one of its
unfoldable pub where_named : ℕ → Vote → Option Attested → Option Attested
where_named validators vote None = None
where_named validators vote (Some attested) = if has_vote validators vote attested then Some attested else None

-- the attestation of a block that a vote names
unfoldable pub named_by : ℕ → Vote → PlainCarrier → Option Attested
named_by validators vote carrier =
    if (carrier.event == vote.event) && same_root carrier.root vote.block_root
    then where_named validators vote (slice_get carrier.attestations vote.position)
    else None

-- what is there, and else another
unfoldable pub or_else : Option Attested → Option Attested → Option Attested
or_else (Some attested) other = Some attested
or_else None other = other

-- that of the first block of which a vote names one
unfoldable pub named_among : ℕ → Vote → List PlainCarrier → Option Attested
named_among validators vote [] = None
named_among validators vote (carrier ∷ later) = or_else (named_by validators vote carrier) (named_among validators vote later)

-- that of the history which the vote is of
unfoldable pub named_in : ℕ → Vote → List AcceptedBlock → List AcceptedBlock → Option Attested
named_in validators vote first second =
    if vote.which == 0 then named_among validators vote (carriers_of first)
    else if vote.which == 1 then named_among validators vote (carriers_of second)
    else None
