-- The balance of those who have the target right in an epoch is that of the attesters of its first block.
use Rattle.std.proofs.Common.{◌≡◌, ℕ, Bool, List, refl, ap, ◌∙◌}
use Rattle.spec_state.specs.declared.plain.PlainState.{PlainState}
use Rattle.spec_state.specs.Accessors.{get_total_balance}
use Rattle.spec_epochs.specs.Helpers.{get_matching_target_attestations, get_attesting_balance}
use Rattle.epoch_rewards.specs.declared.matching.Vote.TheVariants.{Target}
use Rattle.epoch_rewards.specs.declared.table.Status.{Status}
use Rattle.epoch_rewards.specs.inside.Votes.{matching}
use Rattle.epoch_rewards.specs.inside.Marks.{flagged}
use Rattle.epoch_rewards.specs.inside.Statuses.{statuses_of, flags_of}
use Rattle.epoch_rewards.proofs.Columns.{voters_are}

-- by a table of statuses
pub targets_are : (state : PlainState) (statuses : List Status) (epoch : ℕ) → statuses ≡ statuses_of state epoch → get_total_balance state (flagged state (flags_of Target statuses)) ≡ get_attesting_balance state (get_matching_target_attestations state epoch)
unfolding get_attesting_balance matching
targets_are state statuses epoch are = ap (get_total_balance state) (voters_are state epoch statuses are Target)

-- by a table of flags
pub flags_are : (state : PlainState) (flags : List Bool) (epoch : ℕ) → flags ≡ flags_of Target (statuses_of state epoch) → get_total_balance state (flagged state flags) ≡ get_attesting_balance state (get_matching_target_attestations state epoch)
flags_are state flags epoch are = ap (λ fs. get_total_balance state (flagged state fs)) are ∙ targets_are state (statuses_of state epoch) epoch refl
