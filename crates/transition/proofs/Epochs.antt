-- What justification leaves for rewards: how each validator attested in the previous epoch, and a state that is sound within its
-- epoch.
use Rattle.std.proofs.Common.{◌≡◌, ◌∙◌, ℕ, refl, ap, subst, inl, inr}
use Rattle.bc_words.specs.Outcome.{done}
use Rattle.spec_state.specs.declared.plain.PlainState.{PlainState}
use Rattle.spec_state.specs.Accessors.{get_current_epoch, get_previous_epoch, get_block_root_at_slot, get_block_root, get_randao_mix, get_active_validator_indices, get_committee_count_per_slot, get_beacon_committee, get_attesting_indices}
use Rattle.spec_epochs.specs.declared.justification.Justification.{Justification}
use Rattle.spec_epochs.specs.Each.{validator_indices}
use Rattle.spec_epochs.specs.Helpers.{get_matching_source_attestations, get_matching_target_attestations, get_matching_head_attestations, attests}
use Rattle.spec_epochs.specs.GetInclusionDelayDeltas.{inclusion}
use Rattle.spec_epochs.specs.WeighJustificationAndFinalization.{with_justification}
use Rattle.spec_epochs.specs.ProcessJustificationAndFinalization.{process_justification_and_finalization}
use Rattle.spec_epochs.proofs.SoundJustification.{either_of}
use Rattle.epoch_rewards.specs.inside.Statuses.{status_of, statuses_of}

-- how each attested doesn't depend on the bits and checkpoints
by_the_rest : (s : PlainState) (j : Justification) (epoch : ℕ) → statuses_of (with_justification s j) epoch ≡ statuses_of s epoch
unfolding with_justification statuses_of validator_indices status_of inclusion attests get_matching_source_attestations get_matching_target_attestations get_matching_head_attestations get_current_epoch get_block_root get_block_root_at_slot get_attesting_indices get_beacon_committee get_committee_count_per_slot get_active_validator_indices get_randao_mix
by_the_rest s j epoch = refl

same_epoch : (s : PlainState) (j : Justification) → get_previous_epoch (with_justification s j) ≡ get_previous_epoch s
unfolding with_justification get_previous_epoch get_current_epoch
same_epoch s j = refl

abbrev AreThose : PlainState → PlainState → Type 0
AreThose s t = statuses_of t (get_previous_epoch t) ≡ statuses_of s (get_previous_epoch s)

pub justified_statuses : (s t : PlainState) → process_justification_and_finalization s ≡ done t → statuses_of t (get_previous_epoch t) ≡ statuses_of s (get_previous_epoch s)
justified_statuses s t is = elim (either_of s t is) as (λ _. AreThose s t) [
  | inl same ↦ subst (AreThose s) same refl
  | inr weighed ↦
      let t' = with_justification s weighed.checkpoints in
      subst (AreThose s) weighed.gives (ap (statuses_of t') (same_epoch s weighed.checkpoints) ∙ by_the_rest s weighed.checkpoints (get_previous_epoch s))
]
