-- The attestations that the blocks of two histories carry, and the one that a vote names. A list of accepted blocks has the latest
-- first.
use Rattle.std.specs.Prelude.{◌<◌, ℕ, All, Bool, ◌&&◌, ◌==◌, List, [], ◌∷◌, ◌++◌, map, Option}
use Rattle.std.specs.List.{find, list_any, enumerate_from}
use Rattle.std.specs.Option.{option_map}
use Rattle.beacon_types.specs.Equality.{same_root, same_data}
use Rattle.beacon_types.specs.declared.indexed_attestation.IndexedAttestation.{IndexedAttestation}
use Rattle.beacon_types.specs.declared.attestation.Attestation.{Attestation}
use Rattle.spec_state.specs.declared.plain.PlainState.{PlainState}
use Rattle.spec_forensics.specs.declared.vote.Vote.{Vote}
use Rattle.spec_forensics.specs.Histories.{AcceptedBlock}
use Rattle.spec_forensics.specs.CarriedVotes.{votes_of_attestation}
use Rattle.spec_slasher.specs.GetIndexedAttestation.{get_indexed_attestation}

-- an attestation that an accepted block carries: the history, the block, and the place in its body
pub record CarriedAttestation : Type 0 where
  pub which : ℕ
  pub accepted : AcceptedBlock
  pub position : ℕ
  pub attestation : Attestation

-- those of a block, of a history, and of two histories, in the order of their votes
unfoldable pub attestations_of_block : ℕ → AcceptedBlock → List CarriedAttestation
attestations_of_block which b =
    map (λ x. record { which = which; accepted = b; position = x.0; attestation = x.1 }) (enumerate_from 0 b.block.body.attestations)

unfoldable pub carried_attestations : ℕ → List AcceptedBlock → List CarriedAttestation
carried_attestations which [] = []
carried_attestations which (b ∷ earlier) = carried_attestations which earlier ++ attestations_of_block which b

unfoldable pub all_attestations : List AcceptedBlock → List AcceptedBlock → List CarriedAttestation
all_attestations first second = carried_attestations 0 first ++ carried_attestations 1 second

-- the blocks of a history were accepted by one event each, in order
abbrev pub AreInOrder : List AcceptedBlock → Type 0
AreInOrder [] = Unit {0}
AreInOrder (b ∷ earlier) = All (λ e. e.event < b.event) earlier × AreInOrder earlier

-- the votes of a carried attestation
unfoldable pub votes_of : PlainState → CarriedAttestation → List Vote
votes_of genesis carried = votes_of_attestation genesis carried.which carried.accepted (carried.position, carried.attestation)

unfoldable pub same_vote : Vote → Vote → Bool
same_vote a b =
    (a.which == b.which)
    && ((a.event == b.event)
    && ((a.position == b.position) && (same_root a.block_root b.block_root && ((a.validator == b.validator) && same_data a.content b.content))))

-- a vote names an attestation that it is one of the votes of
unfoldable pub names : PlainState → Vote → CarriedAttestation → Bool
names genesis vote carried = list_any (λ other. same_vote other vote) (votes_of genesis carried)

-- the carried attestation with its attesters in the state behind the block, who are all that it has, also those that the genesis
-- registry doesn't have
unfoldable pub indexed : CarriedAttestation → IndexedAttestation
indexed carried = get_indexed_attestation carried.accepted.state carried.attestation

-- the carried attestation that a vote names, if there is one
unfoldable pub attestation_of : PlainState → List AcceptedBlock → List AcceptedBlock → Vote → Option IndexedAttestation
attestation_of genesis first second vote = option_map indexed (find (names genesis vote) (all_attestations first second))
