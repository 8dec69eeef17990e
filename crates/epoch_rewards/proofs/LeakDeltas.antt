-- The penalties of the leak by flags are those by attestations.
use Rattle.std.proofs.Common.{◌≡◌, ℕ, List, map, replicate, length, refl, sym, ap, ◌∙◌, cond}
use Rattle.bc_words.specs.Outcome.{Outcome, done, bind}
use Rattle.spec_state.specs.declared.plain.PlainState.{PlainState}
use Rattle.spec_state.specs.Accessors.{get_previous_epoch}
use Rattle.spec_epochs.specs.declared.deltas.Deltas.{Deltas}
use Rattle.spec_epochs.specs.Each.{validator_indices, checked_map}
use Rattle.spec_epochs.specs.Helpers.{get_matching_target_attestations, get_unslashed_attesting_indices}
use Rattle.spec_epochs.specs.RewardHelpers.{is_in_inactivity_leak}
use Rattle.spec_epochs.specs.GetInactivityPenaltyDeltas.{get_inactivity_penalty_deltas}
use Rattle.epoch_rewards.specs.declared.matching.Vote.TheVariants.{Target}
use Rattle.epoch_rewards.specs.declared.table.Status.{Status}
use Rattle.epoch_rewards.specs.inside.Votes.{matching}
use Rattle.epoch_rewards.specs.inside.Marks.{flagged}
use Rattle.epoch_rewards.specs.inside.Statuses.{statuses_of, flags_of}
use Rattle.epoch_rewards.proofs.Columns.{voters_are}
use Rattle.epoch_rewards.specs.inside.Leak.{leak_penalty, penalties_of, leak_deltas}
use Rattle.epoch_rewards.proofs.Nothing.{nothing_is}

by_nothing : PlainState → List ℕ → List ℕ → Outcome Deltas
by_nothing state attesters nothing =
    bind (is_in_inactivity_leak state) (λ leak. bind (cond leak (checked_map (leak_penalty state attesters) (validator_indices state)) (done nothing)) (λ penalties. done (record { rewards = nothing; penalties = penalties })))

by_zeros : (state : PlainState) (attesters : List ℕ) → leak_deltas state attesters ≡ by_nothing state attesters (replicate (length state.validators) 0)
unfolding leak_deltas penalties_of by_nothing
by_zeros state attesters = refl

by_map : (state : PlainState) → get_inactivity_penalty_deltas state ≡ by_nothing state (get_unslashed_attesting_indices state (get_matching_target_attestations state (get_previous_epoch state))) (map (λ index. 0) (validator_indices state))
unfolding get_inactivity_penalty_deltas leak_penalty by_nothing
by_map state = refl

pub leak_deltas_are : (state : PlainState) (statuses : List Status) → statuses ≡ statuses_of state (get_previous_epoch state) → leak_deltas state (flagged state (flags_of Target statuses)) ≡ get_inactivity_penalty_deltas state
unfolding matching
leak_deltas_are state statuses are =
    let attestations = get_matching_target_attestations state (get_previous_epoch state) in
    ap (leak_deltas state) (voters_are state (get_previous_epoch state) statuses are Target)
    ∙ by_zeros state (get_unslashed_attesting_indices state attestations)
    ∙ ap (by_nothing state (get_unslashed_attesting_indices state attestations)) (sym (nothing_is state))
    ∙ sym (by_map state)
