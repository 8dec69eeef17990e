-- get_inclusion_delay_deltas (beacon-chain.md, "Components of attestation deltas").
use Rattle.std.specs.Prelude.{ℕ, ◌/◌, Bool, false, List, [], ◌∷◌, map, filter, Option, Some, None, leb, ◌==◌, if◌then◌else◌}
use Rattle.bc_words.specs.Outcome.{Outcome, done, ◌>>=◌, checked_add, checked_sub}
use Rattle.beacon_types.specs.declared.pending_attestation.PendingAttestation.{PendingAttestation}
use Rattle.spec_state.specs.declared.plain.PlainState.{PlainState}
use Rattle.spec_state.specs.Accessors.{get_previous_epoch}
use Rattle.spec_epochs.specs.declared.deltas.Deltas.{Deltas}
use Rattle.spec_epochs.specs.Each.{validator_indices, checked_map, checked_total, is_among}
use Rattle.spec_epochs.specs.Helpers.{get_matching_source_attestations, attests, get_unslashed_attesting_indices}
use Rattle.spec_epochs.specs.GetBaseReward.{get_base_reward}
use Rattle.spec_epochs.specs.RewardHelpers.{get_proposer_reward}

-- the one of the lesser inclusion delay; the first where they are equal
unfoldable pub sooner : PendingAttestation → Option PendingAttestation → PendingAttestation
sooner a None = a
sooner a (Some b) = if leb a.inclusion_delay b.inclusion_delay then a else b

-- min(attestations, key=lambda a: a.inclusion_delay): the first of the least inclusion delay
unfoldable pub first_of_least_delay : List PendingAttestation → Option PendingAttestation
first_of_least_delay [] = None
first_of_least_delay (a ∷ attestations) = Some (sooner a (first_of_least_delay attestations))

-- the attestation that a validator is paid for: the first of the least delay among those in which it attests
unfoldable pub inclusion : PlainState → List PendingAttestation → ℕ → Option PendingAttestation
inclusion state attestations index = first_of_least_delay (filter (attests state index) attestations)

-- whether a validator proposed the block with the attestation
unfoldable pub is_proposer_of : ℕ → Option PendingAttestation → Bool
is_proposer_of index None = false
is_proposer_of index (Some a) = a.proposer_index == index

-- what a validator gets for an attestation, after its delay
unfoldable pub delayed_reward : PlainState → ℕ → Option PendingAttestation → Outcome ℕ
delayed_reward state index None = done 0
delayed_reward state index (Some a) = do
  base_reward ← get_base_reward state index
  proposer_reward ← get_proposer_reward state index
  max_attester_reward ← checked_sub base_reward proposer_reward
  done (max_attester_reward / a.inclusion_delay)

-- what a validator gets by the inclusion of attestations: as proposer for each attester that its blocks included, and
-- as an attester
unfoldable pub inclusion_delay_reward : PlainState → List PendingAttestation → ℕ → Outcome ℕ
inclusion_delay_reward state attestations index = do
  let attesters = get_unslashed_attesting_indices state attestations
  as_proposer ← checked_total (get_proposer_reward state) (filter (λ attester. is_proposer_of index (inclusion state attestations attester)) attesters)
  as_attester ← if is_among index attesters then delayed_reward state index (inclusion state attestations index) else done 0
  checked_add as_proposer as_attester

-- get_inclusion_delay_deltas(state): no penalties
unfoldable pub get_inclusion_delay_deltas : PlainState → Outcome Deltas
get_inclusion_delay_deltas state = do
  let matching_source_attestations = get_matching_source_attestations state (get_previous_epoch state)
  rewards ← checked_map (inclusion_delay_reward state matching_source_attestations) (validator_indices state)
  done (record { rewards = rewards; penalties = map (λ index. 0) (validator_indices state) })
