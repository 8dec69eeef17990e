-- The votes of the attestations that are held are those that the histories carry.
use Rattle.std.proofs.Common.{◌≡◌, ◌∙◌, ℕ, ◌+◌, List, [], ◌∷◌, ◌++◌, map, length, Result, Ok, Err, IfOk, refl, sym, ap, ap₂, subst}
use Rattle.std.specs.List.{All, flat_map, enumerate_from}
use Rattle.std.proofs.lemmas.Grind.{flat_map-append}
use Rattle.beacon_types.specs.declared.attestation.Attestation.{Attestation}
use Rattle.spec_state.specs.declared.plain.PlainState.{PlainState}
use Rattle.spec_forensics.specs.declared.vote.Vote.{Vote}
use Rattle.spec_forensics.specs.Histories.{AcceptedBlock}
use Rattle.spec_forensics.specs.CarriedVotes.{votes_of_attestation, votes_of_block, carried_votes, all_votes}
use Rattle.forensics.specs.Carried.{vote_by, votes_by, all_votes_by}
use Rattle.forensics.specs.inside.BlockVotes.{attesters_in, carried_at, carried_from, carried_by_block, carried_by}
use Rattle.forensics.specs.inside.Whole.{carried_in}
use Rattle.spec_forensics.specs.declared.offence.Offence.{Offence}
use Rattle.spec_forensics.specs.Offences.{IsCarried, offences_below}
use Rattle.spec_forensics.proofs.Carried.{all_carried}

module _ (genesis : PlainState) where
  abbrev count : ℕ
  count = length genesis.validators

  votes_at : (which : ℕ) (b : AcceptedBlock) (position : ℕ) (a : Attestation) → votes_by count (carried_at which b.event b.root position a (attesters_in b.state a)) ≡ votes_of_attestation genesis which b (position, a)
  unfolding votes_by vote_by carried_at attesters_in votes_of_attestation
  votes_at which b position a = refl

  votes_from : (which : ℕ) (b : AcceptedBlock) (position : ℕ) (attestations : List Attestation)
      → flat_map (votes_by count) (carried_from which b.event b.root position attestations (map (attesters_in b.state) attestations)) ≡ flat_map (votes_of_attestation genesis which b) (enumerate_from position attestations)
  unfolding carried_from
  votes_from which b position [] = refl
  votes_from which b position (a ∷ attestations) = ap₂ (λ (x y : List Vote). x ++ y) (votes_at which b position a) (votes_from which b (position + 1) attestations)

  votes_of_one : (which : ℕ) (b : AcceptedBlock) → flat_map (votes_by count) (carried_by_block which b) ≡ votes_of_block genesis which b
  unfolding carried_by_block votes_of_block
  votes_of_one which b = votes_from which b 0 b.block.body.attestations

  votes_of_history : (which : ℕ) (blocks : List AcceptedBlock) → flat_map (votes_by count) (carried_by which blocks) ≡ carried_votes genesis which blocks
  unfolding carried_by carried_votes
  votes_of_history which [] = refl
  votes_of_history which (b ∷ earlier) = flat_map-append (votes_by count) (carried_by which earlier) (carried_by_block which b) ∙ ap₂ (λ (x y : List Vote). x ++ y) (votes_of_history which earlier) (votes_of_one which b)

  pub votes_held : (first second : List AcceptedBlock) → all_votes_by (length genesis.validators) (carried_in first second) ≡ all_votes genesis first second
  unfolding all_votes_by carried_in all_votes
  votes_held first second = flat_map-append (votes_by count) (carried_by 0 first) (carried_by 1 second) ∙ ap₂ (λ (x y : List Vote). x ++ y) (votes_of_history 0 first) (votes_of_history 1 second)

-- both votes of each offence that is listed are among the votes
pub all_are_carried : {A E : Type 0} (items : A → List Offence) (r : Result A E) (votes : List Vote) (n : ℕ) → IfOk r (λ x. items x ≡ offences_below votes n) → IfOk r (λ x. All (IsCarried votes) (items x))
all_are_carried items (Ok x) votes n is = subst (All (IsCarried votes)) (sym is) (all_carried votes n)
all_are_carried items (Err e) votes n is = tt

-- what held votes give, where they are those of two histories
pub listed_of : {A E : Type 0} (items : A → List Offence) (r : Result A E) (genesis : PlainState) (first second : List AcceptedBlock) (n : ℕ) → n ≡ length genesis.validators
    → IfOk r (λ x. items x ≡ offences_below (all_votes_by n (carried_in first second)) n) → IfOk r (λ x. items x ≡ offences_below (all_votes genesis first second) (length genesis.validators))
listed_of items (Ok x) genesis first second n is listed =
    listed ∙ ap (λ (k : ℕ). offences_below (all_votes_by k (carried_in first second)) k) is ∙ ap (λ (vs : List Vote). offences_below vs (length genesis.validators)) (votes_held genesis first second)
listed_of items (Err e) genesis first second n is listed = tt
