-- get_attestation_deltas (beacon-chain.md, "Rewards and penalties").
use Rattle.std.specs.Prelude.{ℕ, List, slice_index}
use Rattle.bc_words.specs.Outcome.{Outcome, done, ◌>>=◌, checked_add}
use Rattle.spec_state.specs.declared.plain.PlainState.{PlainState}
use Rattle.spec_epochs.specs.declared.deltas.Deltas.{Deltas}
use Rattle.spec_epochs.specs.Each.{validator_indices, checked_map}
use Rattle.spec_epochs.specs.GetSourceDeltas.{get_source_deltas}
use Rattle.spec_epochs.specs.GetTargetDeltas.{get_target_deltas}
use Rattle.spec_epochs.specs.GetHeadDeltas.{get_head_deltas}
use Rattle.spec_epochs.specs.GetInclusionDelayDeltas.{get_inclusion_delay_deltas}
use Rattle.spec_epochs.specs.GetInactivityPenaltyDeltas.{get_inactivity_penalty_deltas}

-- a[i] + b[i] + c[i] + d[i]
unfoldable pub sum_at : List ℕ → List ℕ → List ℕ → List ℕ → ℕ → Outcome ℕ
sum_at a b c d i = do
  two ← checked_add (slice_index a i) (slice_index b i)
  three ← checked_add two (slice_index c i)
  checked_add three (slice_index d i)

-- get_attestation_deltas(state)
unfoldable pub get_attestation_deltas : PlainState → Outcome Deltas
get_attestation_deltas state = do
  source ← get_source_deltas state
  target ← get_target_deltas state
  head ← get_head_deltas state
  inclusion_delay ← get_inclusion_delay_deltas state
  inactivity ← get_inactivity_penalty_deltas state
  rewards ← checked_map (sum_at source.rewards target.rewards head.rewards inclusion_delay.rewards) (validator_indices state)
  penalties ← checked_map (sum_at source.penalties target.penalties head.penalties inactivity.penalties) (validator_indices state)
  done (record { rewards = rewards; penalties = penalties })
