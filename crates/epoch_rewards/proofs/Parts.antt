-- The balances of one pass are those of the five parts.
use Rattle.std.proofs.Common.{◌≡◌, ℕ, zero, suc, ◌+◌, ◌/◌, ◌<◌, Bool, true, false, not, cond, ◌==◌, List, ◌∷◌, Option, length, replicate, get_or, slice_get, slice_index, refl, sym, ap, ◌∙◌, arith}
use Rattle.std.specs.List.{AllByRecursion, range_with_len}
use Rattle.bc_words.specs.Outcome.{Outcome, done, refused, limited, bind, ◌>>=◌, checked_add, checked_sub, checked_mul}
use Rattle.spec_state.specs.declared.plain.PlainState.{PlainState}
use Rattle.spec_state.specs.Accessors.{get_current_epoch, get_previous_epoch, get_total_active_balance, get_total_balance, indices_from}
use Rattle.spec_state.specs.Soundness.{IsSoundWithinEpoch}
use Rattle.spec_blocks.specs.Checks.{item_at}
use Rattle.spec_epochs.specs.declared.deltas.Deltas.{Deltas}
use Rattle.spec_epochs.specs.Each.{validator_indices, checked_map, is_among}
use Rattle.spec_epochs.specs.GetBaseReward.{get_base_reward}
use Rattle.spec_epochs.specs.RewardHelpers.{get_proposer_reward, get_finality_delay, is_in_inactivity_leak, get_eligible_validator_indices}
use Rattle.spec_epochs.specs.GetAttestationComponentDeltas.{attester_reward}
use Rattle.spec_epochs.specs.GetSourceDeltas.{get_source_deltas}
use Rattle.spec_epochs.specs.GetTargetDeltas.{get_target_deltas}
use Rattle.spec_epochs.specs.GetHeadDeltas.{get_head_deltas}
use Rattle.spec_epochs.specs.GetInclusionDelayDeltas.{get_inclusion_delay_deltas}
use Rattle.spec_epochs.specs.GetInactivityPenaltyDeltas.{absence_penalty, inactivity_penalty, get_inactivity_penalty_deltas}
use Rattle.spec_epochs.specs.GetAttestationDeltas.{sum_at, get_attestation_deltas}
use Rattle.spec_epochs.specs.ProcessRewardsAndPenalties.{rewarded_balance, process_rewards_and_penalties}
use Rattle.epoch_rewards.specs.declared.inclusions.Inclusion.{Inclusion}
use Rattle.epoch_rewards.specs.declared.matching.Vote.{Vote}
use Rattle.epoch_rewards.specs.declared.matching.Vote.TheVariants.{Source, Target, Head}
use Rattle.epoch_rewards.specs.declared.table.Status.{Status}
use Rattle.epoch_rewards.specs.inside.Votes.{matching}
use Rattle.epoch_rewards.specs.inside.Marks.{flagged, flagged_from}
use Rattle.epoch_rewards.specs.inside.Statuses.{statuses_of, flags_of, entries_of}
use Rattle.epoch_rewards.specs.declared.paid.Delta.{Delta}
use Rattle.epoch_rewards.specs.inside.Components.{component_reward, component_penalty, needed_balance, component_deltas}
use Rattle.epoch_rewards.specs.inside.InclusionRewards.{own_reward, joined_reward, all_included, all_joined, joined_deltas}
use Rattle.epoch_rewards.specs.inside.Leak.{leak_penalty, penalties_of, leak_deltas}
use Rattle.epoch_rewards.specs.inside.Paid.{sum_of_four, component_delta, leak_part, settled, summed, paid_balance, weights_by, all_rewarded, all_paid}
use Rattle.epoch_rewards.proofs.Overflows.{OnlyOverflows, bound_only, add_only, sub_only, mul_only, total_only, item_only, validator_only, base_only, proposer_only, own_only}
use Rattle.epoch_rewards.proofs.Gained.{all_only}
use Rattle.epoch_rewards.proofs.Joined.{same_map, indices_below, filtered_below, joined_are}
use Rattle.epoch_rewards.proofs.Components.{component_deltas_are}
use Rattle.epoch_rewards.proofs.LeakDeltas.{leak_deltas_are}
use Rattle.epoch_rewards.proofs.Fused.{bound_same, bound_twice, r0, apart, at_once_is}

-- the five parts, added up
unfoldable pub added : PlainState → Deltas → Deltas → Deltas → Deltas → Deltas → Outcome Deltas
added state source target head inclusion_delay inactivity = do
  rewards ← checked_map (sum_at source.rewards target.rewards head.rewards inclusion_delay.rewards) (validator_indices state)
  penalties ← checked_map (sum_at source.penalties target.penalties head.penalties inactivity.penalties) (validator_indices state)
  done (record { rewards = rewards; penalties = penalties })

-- ---- nothing but an overflow stops a part of a validator

pick_only : {A : Type 0} (b : Bool) (x y : Outcome A) → OnlyOverflows x → OnlyOverflows y → OnlyOverflows (cond b x y)
pick_only true x y x_only y_only = x_only
pick_only false x y x_only y_only = y_only

module _ (state : PlainState) where
  attester_only : (leak : Bool) (attesting total index : ℕ) → index < length state.validators → OnlyOverflows (attester_reward state leak attesting total index)
  unfolding attester_reward
  attester_only leak attesting total index less =
      bound_only (get_base_reward state index) _ (base_only state index less)
      (λ base. pick_only leak (done base) _ tt (bound_only (checked_mul base (attesting / state.preset.effective_balance_increment)) _ (mul_only base (attesting / state.preset.effective_balance_increment)) (λ x. tt)))

  reward_only : (attesters : List ℕ) (leak : Bool) (attesting total index : ℕ) → index < length state.validators → OnlyOverflows (component_reward state attesters leak attesting total index)
  unfolding component_reward
  reward_only attesters leak attesting total index less = pick_only _ (attester_reward state leak attesting total index) (done 0) (attester_only leak attesting total index less) tt

  penalty_only : (attesters : List ℕ) (index : ℕ) → index < length state.validators → OnlyOverflows (component_penalty state attesters index)
  unfolding component_penalty
  penalty_only attesters index less = pick_only _ (get_base_reward state index) (done 0) (base_only state index less) tt

  joined_only : (entries : List (Option Inclusion)) (attesters gains : List ℕ) (index : ℕ) → index < length state.validators → OnlyOverflows (joined_reward state entries attesters gains index)
  unfolding joined_reward
  joined_only entries attesters gains index less =
      bound_only (own_reward state entries attesters index) _ (own_only state entries attesters index less) (λ own. add_only (slice_index gains index) own)

  absence_only : (index : ℕ) → index < length state.validators → OnlyOverflows (absence_penalty state index)
  unfolding absence_penalty get_finality_delay
  absence_only index less =
      bound_only (item_at state.validators index) _ (validator_only state index less)
      (λ v. bound_only (checked_sub (get_previous_epoch state) state.finalized_checkpoint.epoch) _ (sub_only (get_previous_epoch state) state.finalized_checkpoint.epoch)
      (λ delay. bound_only (checked_mul v.effective_balance delay) _ (mul_only v.effective_balance delay) (λ weighed. tt)))

  inactivity_only : (targets : List ℕ) (index : ℕ) → index < length state.validators → OnlyOverflows (inactivity_penalty state targets index)
  unfolding inactivity_penalty
  inactivity_only targets index less =
      bound_only (get_base_reward state index) _ (base_only state index less)
      (λ base. bound_only (get_proposer_reward state index) _ (proposer_only state index less)
      (λ proposer. bound_only (checked_mul 4 base) _ (mul_only 4 base)
      (λ all. bound_only (checked_sub all proposer) _ (sub_only all proposer)
      (λ penalty. bound_only (cond (is_among index targets) (done 0) (absence_penalty state index)) _ (pick_only (is_among index targets) (done 0) (absence_penalty state index) tt (absence_only index less))
      (λ more. add_only penalty more)))))

  leak_only : (leak : Bool) (targets : List ℕ) (index : ℕ) → index < length state.validators → OnlyOverflows (leak_part state leak targets index)
  unfolding leak_part leak_penalty
  leak_only leak targets index less = pick_only leak _ (done 0) (pick_only (is_among index (get_eligible_validator_indices state)) (inactivity_penalty state targets index) (done 0) (inactivity_only targets index less) tt) tt

  settled_only : length state.balances ≡ length state.validators → (index rewards penalties : ℕ) → index < length state.validators → OnlyOverflows (settled (slice_get state.balances index) rewards penalties)
  unfolding settled
  settled_only same index rewards penalties less =
      bound_only (item_at state.balances index) _ (item_only state.balances index 0 (omega (arith, less, same)))
      (λ balance. bound_only (checked_add balance rewards) _ (add_only balance rewards) (λ increased. tt))

  needed_only : (attesters : List ℕ) (leak : Bool) → OnlyOverflows (needed_balance state attesters leak)
  unfolding needed_balance
  needed_only attesters leak = pick_only leak (done 0) (get_total_balance state attesters) tt (total_only state attesters)

  flagged_below : (flags : List Bool) → AllByRecursion (λ a. a < length state.validators) (flagged state flags)
  unfolding flagged flagged_from
  flagged_below flags = filtered_below (length state.validators) (λ i. get_or flags i false) (indices_from (λ v. not v.slashed) 0 state.validators) (indices_below (λ v. not v.slashed) 0 (length state.validators) state.validators (omega arith))

-- ---- the parts, one after the other

abbrev deltas : List ℕ → List ℕ → Deltas
deltas rewards penalties = record { rewards = rewards; penalties = penalties }

nothing_each : (start n : ℕ) → checked_map {B = ℕ} (λ (index : ℕ). done 0) (range_with_len start n) ≡ done (replicate n 0)
unfolding checked_map
nothing_each start zero = refl
nothing_each start (suc n) = ap (λ o. bind o (λ others. done (0 ∷ others))) (nothing_each (start + 1) n)

penalties_each : (state : PlainState) (leak : Bool) (targets : List ℕ) → penalties_of state leak targets ≡ checked_map (leak_part state leak targets) (range_with_len 0 (length state.validators))
unfolding penalties_of leak_part validator_indices
penalties_each state true targets = refl
penalties_each state false targets = sym (nothing_each 0 (length state.validators))

-- five parts and then what is made of them
abbrev five : {B : Type 0} → Outcome Deltas → Outcome Deltas → Outcome Deltas → Outcome Deltas → Outcome Deltas → (Deltas → Deltas → Deltas → Deltas → Deltas → Outcome B) → Outcome B
five a b c d e next = bind a (λ source. bind b (λ target. bind c (λ head. bind d (λ inclusion. bind e (λ inactivity. next source target head inclusion inactivity)))))

five_first : {B C : Type 0} (a b c d e : Outcome Deltas) (next : Deltas → Deltas → Deltas → Deltas → Deltas → Outcome B) (last : B → Outcome C)
    → bind (five a b c d e next) last ≡ five a b c d e (λ source target head inclusion inactivity. bind (next source target head inclusion inactivity) last)
five_first a b c d e next last =
    bound_twice a _ last ∙ bound_same a _ _ (λ source. bound_twice b _ last ∙ bound_same b _ _ (λ target. bound_twice c _ last ∙ bound_same c _ _
    (λ head. bound_twice d _ last ∙ bound_same d _ _ (λ inclusion. bound_twice e _ last))))

-- where the total and the leak are what three of them begin with, and the leak what the last does
total_first : {B : Type 0} (total : Outcome ℕ) (leak : Outcome Bool) (a b c : ℕ → Bool → Outcome Deltas) (d : Outcome Deltas) (e : Bool → Outcome Deltas) (next : Deltas → Deltas → Deltas → Deltas → Deltas → Outcome B)
    → five (bind total (λ t. bind leak (λ l. a t l))) (bind total (λ t. bind leak (λ l. b t l))) (bind total (λ t. bind leak (λ l. c t l))) d (bind leak (λ l. e l)) next
    ≡ bind total (λ t. bind leak (λ l. five (a t l) (b t l) (c t l) d (e l) next))
total_first (done t) (done l) a b c d e next = refl
total_first (done t) (refused why) a b c d e next = refl
total_first (done t) (limited bound) a b c d e next = refl
total_first (refused why) leak a b c d e next = refl
total_first (limited bound) leak a b c d e next = refl

component_first : {B : Type 0} (needed : Outcome ℕ) (rewards : ℕ → Outcome (List ℕ)) (penalties : Outcome (List ℕ)) (next : Deltas → Outcome B)
    → bind (bind needed (λ a. bind (rewards a) (λ r. bind penalties (λ p. done (deltas r p))))) next ≡ bind needed (λ a. bind (rewards a) (λ r. bind penalties (λ p. next (deltas r p))))
component_first needed rewards penalties next =
    bound_twice needed _ next ∙ bound_same needed _ _ (λ a. bound_twice (rewards a) _ next ∙ bound_same (rewards a) _ _ (λ r. bound_twice penalties _ next))

inclusion_first : {B : Type 0} (gains : Outcome (List ℕ)) (rewards : List ℕ → Outcome (List ℕ)) (nothing : List ℕ) (next : Deltas → Outcome B)
    → bind (bind (bind gains rewards) (λ r. done (deltas r nothing))) next ≡ bind gains (λ g. bind (rewards g) (λ r. next (deltas r nothing)))
inclusion_first gains rewards nothing next = bound_twice (bind gains rewards) _ next ∙ bound_twice gains rewards (λ r. next (deltas r nothing))

delta_first : {B : Type 0} (r p : Outcome ℕ) (next : Delta → Outcome B)
    → bind (bind r (λ x. bind p (λ y. done (let d : Delta = record { reward = x; penalty = y } in d)))) next ≡ bind r (λ x. bind p (λ y. next (record { reward = x; penalty = y })))
delta_first r p next = bound_twice r _ next ∙ bound_same r _ _ (λ x. bound_twice p _ next)

-- ---- the parts by flags

module _ (state : PlainState) (sources targets heads : List ℕ) (entries : List (Option Inclusion)) where
  abbrev count : ℕ
  count = length state.validators

  abbrev none : List ℕ
  none = replicate (length state.validators) 0

  abbrev gains_of : Outcome (List ℕ)
  gains_of = all_included state entries none sources

  -- balances by five parts
  abbrev last : Deltas → Deltas → Deltas → Deltas → Deltas → Outcome (List ℕ)
  last source target head inclusion inactivity = bind (added state source target head inclusion inactivity) (λ all. checked_map (rewarded_balance state all) (validator_indices state))

  abbrev part : List ℕ → ℕ → Bool → Outcome Deltas
  part attesters total leak =
      bind (needed_balance state attesters leak) (λ a. bind (checked_map (component_reward state attesters leak a total) (validator_indices state))
      (λ r. bind (checked_map (component_penalty state attesters) (validator_indices state)) (λ p. done (deltas r p))))

  abbrev late_part : Bool → Outcome Deltas
  late_part leak = bind (penalties_of state leak targets) (λ p. done (deltas none p))

  all_open : five (component_deltas state sources) (component_deltas state targets) (component_deltas state heads) (joined_deltas state entries sources) (leak_deltas state targets) last
      ≡ bind (get_total_active_balance state) (λ total. bind (is_in_inactivity_leak state) (λ leak. five (part sources total leak) (part targets total leak) (part heads total leak) (joined_deltas state entries sources) (late_part leak) last))
  unfolding component_deltas leak_deltas
  all_open = total_first (get_total_active_balance state) (is_in_inactivity_leak state) (part sources) (part targets) (part heads) (joined_deltas state entries sources) late_part last

  module _ (total : ℕ) (leak : Bool) where
    abbrev in_lists : ℕ → Outcome (List ℕ)
    in_lists a = apart count (component_reward state sources leak a total) (component_penalty state sources) (component_penalty state targets) (component_penalty state heads) (leak_part state leak targets)
        (λ b. component_reward state targets leak b total) (λ c. component_reward state heads leak c total) (joined_reward state entries sources) (λ k. settled (slice_get state.balances k))
        (needed_balance state targets leak) (needed_balance state heads leak) gains_of

    last_open : (source target head inclusion inactivity : Deltas) → last source target head inclusion inactivity
        ≡ bind (checked_map (λ k. sum_of_four (get_or source.rewards k 0) (get_or target.rewards k 0) (get_or head.rewards k 0) (get_or inclusion.rewards k 0)) (range_with_len 0 count)) (λ gains.
        bind (checked_map (λ k. sum_of_four (get_or source.penalties k 0) (get_or target.penalties k 0) (get_or head.penalties k 0) (get_or inactivity.penalties k 0)) (range_with_len 0 count)) (λ losses.
        checked_map (λ k. settled (slice_get state.balances k) (get_or gains k 0) (get_or losses k 0)) (range_with_len 0 count)))
    unfolding added sum_at rewarded_balance sum_of_four settled validator_indices
    last_open source target head inclusion inactivity =
        bound_twice (checked_map (sum_at source.rewards target.rewards head.rewards inclusion.rewards) (range_with_len 0 count)) _ (λ all. checked_map (rewarded_balance state all) (validator_indices state))
        ∙ bound_same (checked_map (sum_at source.rewards target.rewards head.rewards inclusion.rewards) (range_with_len 0 count)) _ _
        (λ rewards. bound_twice (checked_map (sum_at source.penalties target.penalties head.penalties inactivity.penalties) (range_with_len 0 count)) _ (λ all. checked_map (rewarded_balance state all) (validator_indices state)))

    late_first : {B : Type 0} (next : Deltas → Outcome B) → bind (late_part leak) next ≡ bind (checked_map (leak_part state leak targets) (range_with_len 0 count)) (λ p. next (deltas none p))
    late_first next = bound_twice (penalties_of state leak targets) _ next ∙ ap (λ o. bind o (λ p. next (deltas none p))) (penalties_each state leak targets)

    lists_open : five (part sources total leak) (part targets total leak) (part heads total leak) (joined_deltas state entries sources) (late_part leak) last ≡ bind (needed_balance state sources leak) in_lists
    unfolding joined_deltas all_joined validator_indices
    lists_open =
        component_first (needed_balance state sources leak) (λ a. checked_map (component_reward state sources leak a total) (range_with_len 0 count)) (checked_map (component_penalty state sources) (range_with_len 0 count)) _
        ∙ bound_same (needed_balance state sources leak) _ _ (λ a. bound_same (checked_map (component_reward state sources leak a total) (range_with_len 0 count)) _ _ (λ ss. bound_same (checked_map (component_penalty state sources) (range_with_len 0 count)) _ _ (λ ps.
        component_first (needed_balance state targets leak) (λ b. checked_map (component_reward state targets leak b total) (range_with_len 0 count)) (checked_map (component_penalty state targets) (range_with_len 0 count)) _
        ∙ bound_same (needed_balance state targets leak) _ _ (λ b. bound_same (checked_map (component_reward state targets leak b total) (range_with_len 0 count)) _ _ (λ ts. bound_same (checked_map (component_penalty state targets) (range_with_len 0 count)) _ _ (λ qs.
        component_first (needed_balance state heads leak) (λ c. checked_map (component_reward state heads leak c total) (range_with_len 0 count)) (checked_map (component_penalty state heads) (range_with_len 0 count)) _
        ∙ bound_same (needed_balance state heads leak) _ _ (λ c. bound_same (checked_map (component_reward state heads leak c total) (range_with_len 0 count)) _ _ (λ hs. bound_same (checked_map (component_penalty state heads) (range_with_len 0 count)) _ _ (λ os.
        inclusion_first gains_of (λ g. checked_map (joined_reward state entries sources g) (range_with_len 0 count)) none _
        ∙ bound_same gains_of _ _ (λ gains. bound_same (checked_map (joined_reward state entries sources gains) (range_with_len 0 count)) _ _ (λ js.
        late_first _
        ∙ bound_same (checked_map (leak_part state leak targets) (range_with_len 0 count)) _ _ (λ is. last_open (deltas ss ps) (deltas ts qs) (deltas hs os) (deltas js none) (deltas none is)))))))))))))

    regrouped : (a b c : ℕ) (gains : List ℕ) (k : ℕ) → paid_balance state sources targets heads (weights_by state leak a total) (weights_by state leak b total) (weights_by state leak c total) entries gains k
        ≡ r0 count (component_reward state sources leak a total) (component_penalty state sources) (component_reward state targets leak b total) (component_penalty state targets) (component_reward state heads leak c total) (component_penalty state heads) (joined_reward state entries sources gains) (leak_part state leak targets) (λ k. settled (slice_get state.balances k)) k
    unfolding paid_balance component_delta summed weights_by
    regrouped a b c gains k =
        delta_first (component_reward state sources leak a total k) (component_penalty state sources k) _
        ∙ bound_same (component_reward state sources leak a total k) _ _ (λ s. bound_same (component_penalty state sources k) _ _ (λ p.
        delta_first (component_reward state targets leak b total k) (component_penalty state targets k) _
        ∙ bound_same (component_reward state targets leak b total k) _ _ (λ t. bound_same (component_penalty state targets k) _ _ (λ q.
        delta_first (component_reward state heads leak c total k) (component_penalty state heads k) _))))

  paid_are : length state.balances ≡ length state.validators → AllByRecursion (λ a. a < length state.validators) sources → all_paid state sources targets heads entries
      ≡ bind (get_total_active_balance state) (λ total. bind (is_in_inactivity_leak state) (λ leak. five (part sources total leak) (part targets total leak) (part heads total leak) (joined_deltas state entries sources) (late_part leak) last))
  unfolding all_paid validator_indices
  paid_are same below =
      bound_same (get_total_active_balance state) _ _ (λ total. bound_same (is_in_inactivity_leak state) _ _ (λ leak.
      bound_same (needed_balance state sources leak) _ _ (λ a.
      bound_same (needed_balance state targets leak) _ _ (λ b. bound_same (needed_balance state heads leak) _ _ (λ c. bound_same gains_of _ _ (λ gains.
      same_map (paid_balance state sources targets heads (weights_by state leak a total) (weights_by state leak b total) (weights_by state leak c total) entries gains) _ 0 count (λ k more less. regrouped total leak a b c gains k))))
      ∙ sym (at_once_is count (component_reward state sources leak a total) (component_penalty state sources) (component_penalty state targets) (component_penalty state heads) (leak_part state leak targets)
      (λ b. component_reward state targets leak b total) (λ c. component_reward state heads leak c total) (joined_reward state entries sources) (λ k. settled (slice_get state.balances k))
      (λ k less. reward_only state sources leak a total k less) (λ k less. penalty_only state sources k less) (λ b k less. reward_only state targets leak b total k less) (λ k less. penalty_only state targets k less)
      (λ c k less. reward_only state heads leak c total k less) (λ k less. penalty_only state heads k less) (λ gains k less. joined_only state entries sources gains k less) (λ k less. leak_only state leak targets k less)
      (λ k gain loss less. settled_only state same k gain loss less)
      (needed_balance state targets leak) (needed_balance state heads leak) gains_of (needed_only state targets leak) (needed_only state heads leak) (all_only state entries sources none below)))
      ∙ sym (lists_open total leak)))

  pub by_flags : length state.balances ≡ length state.validators → AllByRecursion (λ a. a < length state.validators) sources
      → all_paid state sources targets heads entries ≡ five (component_deltas state sources) (component_deltas state targets) (component_deltas state heads) (joined_deltas state entries sources) (leak_deltas state targets) last
  by_flags same below = paid_are same below ∙ sym all_open

-- ---- the published parts

module _ (state : PlainState) (statuses : List Status) (are : statuses ≡ statuses_of state (get_previous_epoch state)) where
  abbrev voters : Vote → List ℕ
  voters vote = flagged state (flags_of vote statuses)

  abbrev balances_by : Deltas → Deltas → Deltas → Deltas → Deltas → Outcome (List ℕ)
  balances_by = last state (voters Source) (voters Target) (voters Head) (entries_of statuses)

  published : all_rewarded state ≡ five (get_source_deltas state) (get_target_deltas state) (get_head_deltas state) (get_inclusion_delay_deltas state) (get_inactivity_penalty_deltas state) balances_by
  unfolding all_rewarded get_attestation_deltas added
  published = five_first (get_source_deltas state) (get_target_deltas state) (get_head_deltas state) (get_inclusion_delay_deltas state) (get_inactivity_penalty_deltas state) (added state) (λ all. checked_map (rewarded_balance state all) (validator_indices state))

  sources_are : component_deltas state (voters Source) ≡ get_source_deltas state
  unfolding get_source_deltas matching
  sources_are = component_deltas_are state (get_previous_epoch state) statuses Source are

  targets_are : component_deltas state (voters Target) ≡ get_target_deltas state
  unfolding get_target_deltas matching
  targets_are = component_deltas_are state (get_previous_epoch state) statuses Target are

  heads_are : component_deltas state (voters Head) ≡ get_head_deltas state
  unfolding get_head_deltas matching
  heads_are = component_deltas_are state (get_previous_epoch state) statuses Head are

  pub by_table : IsSoundWithinEpoch state → all_paid state (voters Source) (voters Target) (voters Head) (entries_of statuses) ≡ all_rewarded state
  by_table sound =
      by_flags state (voters Source) (voters Target) (voters Head) (entries_of statuses) sound.balances (flagged_below state (flags_of Source statuses))
      ∙ ap (λ a. five a (component_deltas state (voters Target)) (component_deltas state (voters Head)) (joined_deltas state (entries_of statuses) (voters Source)) (leak_deltas state (voters Target)) balances_by) sources_are
      ∙ ap (λ b. five (get_source_deltas state) b (component_deltas state (voters Head)) (joined_deltas state (entries_of statuses) (voters Source)) (leak_deltas state (voters Target)) balances_by) targets_are
      ∙ ap (λ c. five (get_source_deltas state) (get_target_deltas state) c (joined_deltas state (entries_of statuses) (voters Source)) (leak_deltas state (voters Target)) balances_by) heads_are
      ∙ ap (λ d. five (get_source_deltas state) (get_target_deltas state) (get_head_deltas state) d (leak_deltas state (voters Target)) balances_by) (joined_are state statuses sound are)
      ∙ ap (λ e. five (get_source_deltas state) (get_target_deltas state) (get_head_deltas state) (get_inclusion_delay_deltas state) e balances_by) (leak_deltas_are state statuses are)
      ∙ sym published

pub processed : (state : PlainState) → process_rewards_and_penalties state ≡ cond (get_current_epoch state == 0) (done state) (bind (all_rewarded state) (λ balances. done (record state { balances = balances })))
unfolding process_rewards_and_penalties all_rewarded
processed state = ap (λ o. cond (get_current_epoch state == 0) (done state) o) (sym (bound_twice (get_attestation_deltas state) (λ deltas. checked_map (rewarded_balance state deltas) (validator_indices state)) (λ balances. done (let next : PlainState = record state { balances = balances } in next))))
