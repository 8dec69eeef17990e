-- The gains of proposers: by one attester who is included, and by those whose flag is set, from an index on.
use Rattle.std.proofs.Common.{◌≡◌, ℕ, List, Option, Some, get_or, set, sym, ap, ◌∙◌, ◌+◌, ◌≤◌, Bool, false, not, ◌∷◌, length, filter, refl}
use Rattle.bc_words.specs.Outcome.{Outcome, done, bind, checked_add, Stops}
use Rattle.spec_state.specs.declared.plain.PlainState.{PlainState}
use Rattle.spec_epochs.specs.RewardHelpers.{get_proposer_reward}
use Rattle.epoch_rewards.specs.declared.inclusions.Inclusion.{Inclusion}
use Rattle.epoch_rewards.specs.inside.InclusionRewards.{included, entry_at, all_included}
use Rattle.std.proofs.lemmas.List.{drop_all}
use Rattle.bc_words.specs.declared.stop.Stop.{Stop}
use Rattle.bc_words.proofs.Outcomes.{stops_bound}
use Rattle.spec_state.specs.Accessors.{indices_from}
use Rattle.epoch_rewards.specs.inside.Marks.{flagged, flagged_from}

-- an attester that is included, by the reward of the proposer
pub includes : (state : PlainState) (attester : ℕ) (e : Inclusion) (entry : Option Inclusion) (gains : List ℕ) (reward : ℕ) → Some e ≡ entry → get_proposer_reward state attester ≡ done reward
    → bind (checked_add (get_or gains e.proposer 0) reward) (λ sum. done (set gains e.proposer sum)) ≡ included state attester entry gains
unfolding included
includes state attester e entry gains reward is_entry is_reward =
    sym (ap (λ (o : Outcome ℕ). bind o (λ reward. bind (checked_add (get_or gains e.proposer 0) reward) (λ sum. done (set gains e.proposer sum)))) is_reward)
    ∙ ap (λ entry. included state attester entry gains) is_entry

module _ (state : PlainState) (flags : List Bool) (entries : List (Option Inclusion)) where
  pub included_begins : (gains : List ℕ) → all_included state entries gains (flagged_from state flags 0) ≡ all_included state entries gains (flagged state flags)
  unfolding flagged
  included_begins gains = refl

  pub included_ends : (gains : List ℕ) (index : ℕ) → length state.validators ≤ index → all_included state entries gains (flagged_from state flags index) ≡ done gains
  unfolding flagged_from indices_from all_included
  included_ends gains index over = ap (λ vs. all_included state entries gains (filter (λ i. get_or flags i false) (indices_from (λ v. not v.slashed) index vs))) (drop_all index state.validators over)

  pub included_more : (gains more : List ℕ) (index : ℕ) → flagged_from state flags index ≡ index ∷ flagged_from state flags (index + 1) → included state index (entry_at entries index) gains ≡ done more
      → all_included state entries gains (flagged_from state flags index) ≡ all_included state entries more (flagged_from state flags (index + 1))
  unfolding all_included
  included_more gains more index one e = ap (all_included state entries gains) one ∙ ap (λ o. bind o (λ next. all_included state entries next (flagged_from state flags (index + 1)))) e

  pub included_stops : (gains : List ℕ) (index : ℕ) (stop : Stop) → flagged_from state flags index ≡ index ∷ flagged_from state flags (index + 1) → Stops stop (included state index (entry_at entries index) gains)
      → Stops stop (all_included state entries gains (flagged_from state flags index))
  unfolding all_included
  included_stops gains index stop one e = rw one (stops_bound stop (included state index (entry_at entries index) gains) (λ next. all_included state entries next (flagged_from state flags (index + 1))) e)

  pub included_left : (gains : List ℕ) (index : ℕ) → flagged_from state flags index ≡ flagged_from state flags (index + 1) → all_included state entries gains (flagged_from state flags index) ≡ all_included state entries gains (flagged_from state flags (index + 1))
  included_left gains index e = ap (all_included state entries gains) e

pub ruleset including = (included_begins, included_ends, included_more, included_stops, included_left)
