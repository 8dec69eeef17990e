-- The attestations of blocks with their attesters, and the places and spans that hold them.
use Rattle.std.specs.Prelude.{◌≡◌, ℕ, ◌+◌, ◌≤◌, ◌^◌, Bool, is_some, List, [], map, filter, length, nat_lt, slice_index_or}
use Rattle.std.specs.List.{flat_map}
use Rattle.beacon_types.specs.declared.attestation_data.AttestationData.{AttestationData}
use Rattle.spec_forensics.specs.declared.vote.Vote.{Vote}
use Rattle.forensics.specs.Pairs.{content_at}
use Rattle.forensics.specs.AllSpans.{PlainAllSpans, AreSpansOf, offence_in}
use Rattle.forensics.specs.Room.{HasRoom, all_in}
use Rattle.forensics.specs.declared.spans.place.Place.{Place}

-- an attestation of a block, and its attesters
pub record Carried : Type 0 where
  pub which : ℕ
  pub event : ℕ
  pub position : ℕ
  pub block_root : List ℕ
  pub content : AttestationData
  pub attesters : List ℕ

unfoldable pub place_of : Carried → Place
place_of c = record { which = c.which; event = c.event; position = c.position; block_root = c.block_root }

-- the vote of one attester, and those of all below a number
unfoldable pub vote_by : Carried → ℕ → Vote
vote_by c validator = record { which = c.which; event = c.event; position = c.position; block_root = c.block_root; validator = validator; content = c.content }

unfoldable pub votes_by : ℕ → Carried → List Vote
votes_by count c = map (vote_by c) (filter (λ validator. nat_lt validator count) c.attesters)

unfoldable pub all_votes_by : ℕ → List Carried → List Vote
all_votes_by count carried = flat_map (votes_by count) carried

-- places and spans as they are held, and how many places there is room for
pub record Held : Type 0 where
  pub places : List Place
  pub spans : PlainAllSpans
  pub room : ℕ

-- they hold attestations, in their order
pub record Holds (held : Held) (carried : List Carried) : Type 0 where
  pub places : held.places ≡ map place_of carried
  pub contents : held.spans.contents ≡ map (λ c. c.content) carried
  pub stand : AreSpansOf held.spans (map (λ c. c.attesters) carried)

pub record IsHeld (held : Held) : Type 0 where
  pub carried : List Carried
  pub holds : Holds held carried

-- room for an attestation of each list of attesters
pub record HasRoomFor (held : Held) (lists : List (List ℕ)) : Type 0 where
  pub places : length held.places + length lists ≤ held.room
  pub contents : length held.spans.contents + length lists ≤ held.spans.room
  pub votes : HasRoom held.spans.spans (all_in lists)
  pub few : length held.spans.contents + length lists ≤ 2 ^ 32

-- the vote of a validator in the attestation with a number
unfoldable pub no_place : Place
no_place = record { which = 0; event = 0; position = 0; block_root = [] }

unfoldable pub vote_at : Held → ℕ → ℕ → Vote
vote_at held validator number =
    let place : Place = slice_index_or held.places number no_place in
    record { which = place.which; event = place.event; position = place.position; block_root = place.block_root; validator = validator; content = content_at held.spans.contents number }

-- whether the spans keep slashable votes of a validator
unfoldable pub has_offence : Held → ℕ → Bool
has_offence held validator = is_some (offence_in held.spans validator)
