-- The rewards for inclusion by entries are those by attestations.
use Rattle.std.proofs.Common.{◌≡◌, ℕ, zero, suc, ◌+◌, ◌<◌, ◌≤◌, Bool, true, false, not, cond, List, [], ◌∷◌, Option, Some, None, length, map, filter, replicate, get_or, refl, sym, ap, ◌∙◌, arith, inl, inr}
use Rattle.std.specs.List.{AllByRecursion, range_with_len}
use Rattle.std.specs.Option.{option_map}
use Rattle.std.proofs.lemmas.Bool.{cases_lt}
use Rattle.std.proofs.lemmas.List.{get_or-replicate, length-replicate, get_or_past}
use Rattle.std.proofs.lemmas.List.FromFn.{length-map-range_with_len, get_or-map-range_with_len}
use Rattle.bc_words.specs.Outcome.{Outcome, done, refused, limited, bind, checked_add}
use Rattle.bc_words.specs.declared.refusal.Refusal.TheVariants.{Overflow}
use Rattle.beacon_types.specs.declared.validator.Validator.{Validator}
use Rattle.beacon_types.specs.declared.pending_attestation.PendingAttestation.{PendingAttestation}
use Rattle.spec_state.specs.declared.plain.PlainState.{PlainState}
use Rattle.spec_state.specs.Accessors.{get_previous_epoch, get_current_epoch, indices_from}
use Rattle.spec_state.specs.Soundness.{IsSoundWithinEpoch, IsSoundPending}
use Rattle.spec_epochs.specs.declared.deltas.Deltas.{Deltas}
use Rattle.spec_epochs.specs.Each.{validator_indices, checked_map, checked_total, checked_total_from, is_among}
use Rattle.spec_epochs.specs.Helpers.{get_matching_source_attestations, get_unslashed_attesting_indices, attests}
use Rattle.spec_epochs.specs.RewardHelpers.{get_proposer_reward}
use Rattle.spec_epochs.specs.GetInclusionDelayDeltas.{sooner, first_of_least_delay, inclusion, is_proposer_of, delayed_reward, inclusion_delay_reward, get_inclusion_delay_deltas}
use Rattle.epoch_rewards.specs.declared.inclusions.Inclusion.{Inclusion}
use Rattle.epoch_rewards.specs.declared.matching.Vote.TheVariants.{Source}
use Rattle.epoch_rewards.specs.declared.table.Status.{Status}
use Rattle.epoch_rewards.specs.inside.Votes.{matching}
use Rattle.epoch_rewards.specs.inside.Marks.{flagged}
use Rattle.epoch_rewards.specs.inside.Inclusions.{entry_of, inclusion_entries}
use Rattle.epoch_rewards.specs.inside.Statuses.{statuses_of, flags_of, entries_of}
use Rattle.epoch_rewards.proofs.Columns.{voters_are, entries_are}
use Rattle.epoch_rewards.proofs.Sound.{sound_previous}
use Rattle.epoch_rewards.specs.inside.InclusionRewards.{entry_at, delayed_by, own_reward, joined_reward, all_included, all_joined, joined_deltas}
use Rattle.epoch_rewards.proofs.Overflows.{OnlyOverflows, bound_only, add_only, proposer_only, own_only}
use Rattle.epoch_rewards.proofs.Gained.{proposes, gained, all_done, all_refused, all_only}
use Rattle.epoch_rewards.proofs.Nothing.{nothing_is}

-- ---- maps over indices

pub same_map : {B : Type 0} (f g : ℕ → Outcome B) (start n : ℕ) → ((k : ℕ) → start ≤ k → k < start + n → f k ≡ g k) → checked_map f (range_with_len start n) ≡ checked_map g (range_with_len start n)
unfolding checked_map
same_map f g start zero same = refl
same_map f g start (suc n) same =
    ap (λ o. bind o (λ first. bind (checked_map f (range_with_len (start + 1) n)) (λ others. done (first ∷ others)))) (same start (omega arith) (omega arith))
    ∙ ap (λ o. bind (g start) (λ first. bind o (λ others. done (first ∷ others)))) (same_map f g (start + 1) n (λ k more less. same k (omega arith) (omega arith)))

then_refused : {A B : Type 0} (o : Outcome A) (next : A → Outcome B) → OnlyOverflows o → ((x : A) → next x ≡ refused Overflow) → bind o next ≡ refused Overflow
then_refused (done x) next only e = e x
then_refused (refused why) next only e = ap refused only
then_refused (limited bound) next only e = absurd only

pub refused_map : {B : Type 0} (f : ℕ → Outcome B) (start n index : ℕ) → ((k : ℕ) → start ≤ k → k < start + n → OnlyOverflows (f k)) → start ≤ index → index < start + n → f index ≡ refused Overflow → checked_map f (range_with_len start n) ≡ refused Overflow
unfolding checked_map
refused_map f start zero index only more less e = absurd (omega arith)
refused_map f start (suc n) index only more less e = elim (cases_lt start index) as (λ _. bind (f start) (λ first. bind (checked_map f (range_with_len (start + 1) n)) (λ others. done (first ∷ others))) ≡ refused Overflow) [
  | inl later ↦ then_refused (f start) (λ first. bind (checked_map f (range_with_len (start + 1) n)) (λ others. done (first ∷ others))) (only start (omega arith) (omega arith))
      (λ first. ap (λ o. bind o (λ others. done (first ∷ others))) (refused_map f (start + 1) n index (λ k above below. only k (omega arith) (omega arith)) (omega arith) (omega arith) e))
  | inr here ↦ let same : start ≡ index = omega arith in ap (λ o. bind o (λ first. bind (checked_map f (range_with_len (start + 1) n)) (λ others. done (first ∷ others)))) (ap f same ∙ e)
]

-- ---- the attesters are in the registry

either_below : (end : ℕ) (b : Bool) (x : ℕ) (xs : List ℕ) → x < end → AllByRecursion (λ a. a < end) xs → AllByRecursion (λ a. a < end) (cond b (x ∷ xs) xs)
either_below end true x xs less all = (less, all)
either_below end false x xs less all = all

pub indices_below : (test : Validator → Bool) (start end : ℕ) (vs : List Validator) → end ≡ start + length vs → AllByRecursion (λ a. a < end) (indices_from test start vs)
unfolding indices_from
indices_below test start end [] e = tt
indices_below test start end (v ∷ vs) e = either_below end (test v) start (indices_from test (suc start) vs) (omega arith) (indices_below test (suc start) end vs (omega arith))

pub filtered_below : (end : ℕ) (p : ℕ → Bool) (xs : List ℕ) → AllByRecursion (λ a. a < end) xs → AllByRecursion (λ a. a < end) (filter p xs)
filtered_below end p [] all = tt
filtered_below end p (x ∷ xs) all = either_below end (p x) x (filter p xs) all.0 (filtered_below end p xs all.1)

attesters_below : (state : PlainState) (attestations : List PendingAttestation) → AllByRecursion (λ a. a < length state.validators) (get_unslashed_attesting_indices state attestations)
unfolding get_unslashed_attesting_indices
attesters_below state attestations = filtered_below (length state.validators) _ _ (indices_below (λ v. not v.slashed) 0 (length state.validators) state.validators (omega arith))

-- ---- the entries

module _ (state : PlainState) (attestations : List PendingAttestation) where
  entries : List (Option Inclusion)
  entries = inclusion_entries state attestations

  entry_is : (index : ℕ) → index < length state.validators → entry_at (inclusion_entries state attestations) index ≡ option_map entry_of (inclusion state attestations index)
  unfolding inclusion_entries validator_indices
  entry_is index less = get_or-map-range_with_len (λ i. option_map entry_of (inclusion state attestations i)) 0 (length state.validators) index index None less (omega arith)

  no_entry : (index : ℕ) → length state.validators ≤ index → entry_at (inclusion_entries state attestations) index ≡ None
  unfolding inclusion_entries validator_indices
  no_entry index over = get_or_past (map (λ i. option_map entry_of (inclusion state attestations i)) (range_with_len 0 (length state.validators))) index None (omega (arith, length-map-range_with_len (λ i. option_map entry_of (inclusion state attestations i)) 0 (length state.validators)))

-- what holds of each attestation holds of the first of the least delay of some of them
either_holds : (P : PendingAttestation → Type 0) (b : Bool) (x : PendingAttestation) (xs : List PendingAttestation) → P x → AllByRecursion P xs → AllByRecursion P (cond b (x ∷ xs) xs)
either_holds P true x xs holds all = (holds, all)
either_holds P false x xs holds all = all

filtered_hold : (P : PendingAttestation → Type 0) (p : PendingAttestation → Bool) (xs : List PendingAttestation) → AllByRecursion P xs → AllByRecursion P (filter p xs)
filtered_hold P p [] all = tt
filtered_hold P p (x ∷ xs) all = either_holds P (p x) x (filter p xs) all.0 (filtered_hold P p xs all.1)

HoldsOf : (PendingAttestation → Type 0) → Option PendingAttestation → Type 0
HoldsOf P None = Unit {0}
HoldsOf P (Some a) = P a

one_of_two : (P : PendingAttestation → Type 0) (b : Bool) (x y : PendingAttestation) → P x → P y → P (cond b x y)
one_of_two P true x y px py = px
one_of_two P false x y px py = py

sooner_holds : (P : PendingAttestation → Type 0) (x : PendingAttestation) (o : Option PendingAttestation) → P x → HoldsOf P o → P (sooner x o)
unfolding sooner HoldsOf
sooner_holds P x None px po = px
sooner_holds P x (Some y) px po = one_of_two P _ x y px po

first_holds : (P : PendingAttestation → Type 0) (xs : List PendingAttestation) → AllByRecursion P xs → HoldsOf P (first_of_least_delay xs)
unfolding first_of_least_delay HoldsOf
first_holds P [] all = tt
first_holds P (x ∷ xs) all = sooner_holds P x (first_of_least_delay xs) all.0 (first_holds P xs all.1)

proposer_known : (n : ℕ) (o : Option PendingAttestation) (x : Inclusion) → HoldsOf (λ a. a.proposer_index < n) o → option_map entry_of o ≡ Some x → x.proposer < n
unfolding HoldsOf entry_of
proposer_known n None x holds e = absurd cc
proposer_known n (Some a) x holds e = let same : entry_of a ≡ x = cc in let p = ap (λ y. y.proposer) same in omega (arith, p)

all_known : (state : PlainState) (epoch : ℕ) (xs : List PendingAttestation) → AllByRecursion (IsSoundPending state epoch) xs → AllByRecursion (λ a. a.proposer_index < length state.validators) xs
all_known state epoch [] sound = tt
all_known state epoch (x ∷ xs) sound = (sound.0.proposer, all_known state epoch xs sound.1)

entries_known : (state : PlainState) (epoch : ℕ) (attestations : List PendingAttestation) → AllByRecursion (IsSoundPending state epoch) attestations → (a : ℕ) (x : Inclusion) → entry_at (inclusion_entries state attestations) a ≡ Some x → x.proposer < length state.validators
unfolding inclusion
entries_known state epoch attestations sound a x e = elim (cases_lt a (length state.validators)) [
  | inl less ↦ proposer_known (length state.validators) (first_of_least_delay (filter (attests state a) attestations)) x
      (first_holds (λ b. b.proposer_index < length state.validators) (filter (attests state a) attestations) (filtered_hold (λ b. b.proposer_index < length state.validators) (attests state a) attestations (all_known state epoch attestations sound)))
      (sym (entry_is state attestations a less) ∙ e)
  | inr over ↦ let none = no_entry state attestations a over in absurd (cc (none, e))
]

-- ---- both rewards of a validator

proposes_is : (index : ℕ) (o : Option PendingAttestation) → proposes index (option_map entry_of o) ≡ is_proposer_of index o
unfolding proposes entry_of is_proposer_of
proposes_is index None = refl
proposes_is index (Some a) = refl

delayed_is : (state : PlainState) (index : ℕ) (o : Option PendingAttestation) → delayed_by state index (option_map entry_of o) ≡ delayed_reward state index o
unfolding delayed_by entry_of delayed_reward
delayed_is state index None = refl
delayed_is state index (Some a) = refl

same_filter : (p q : ℕ → Bool) (end : ℕ) (xs : List ℕ) → AllByRecursion (λ a. a < end) xs → ((k : ℕ) → k < end → p k ≡ q k) → filter p xs ≡ filter q xs
same_filter p q end [] all same = refl
same_filter p q end (x ∷ xs) all same =
    ap (λ b. cond b (x ∷ filter p xs) (filter p xs)) (same x all.0) ∙ ap (λ ys. cond (q x) (x ∷ ys) ys) (same_filter p q end xs all.1 same)

as_proposer_is : (state : PlainState) (attestations : List PendingAttestation) (index : ℕ) → gained state (inclusion_entries state attestations) index 0 (get_unslashed_attesting_indices state attestations)
    ≡ checked_total (get_proposer_reward state) (filter (λ attester. is_proposer_of index (inclusion state attestations attester)) (get_unslashed_attesting_indices state attestations))
unfolding gained checked_total
as_proposer_is state attestations index =
    ap (checked_total_from (get_proposer_reward state) 0)
    (same_filter (λ a. proposes index (entry_at (inclusion_entries state attestations) a)) (λ a. is_proposer_of index (inclusion state attestations a)) (length state.validators) (get_unslashed_attesting_indices state attestations) (attesters_below state attestations)
    (λ k less. ap (proposes index) (entry_is state attestations k less) ∙ proposes_is index (inclusion state attestations k)))

as_attester_is : (state : PlainState) (attestations : List PendingAttestation) (index : ℕ) → index < length state.validators → own_reward state (inclusion_entries state attestations) (get_unslashed_attesting_indices state attestations) index
    ≡ cond (is_among index (get_unslashed_attesting_indices state attestations)) (delayed_reward state index (inclusion state attestations index)) (done 0)
unfolding own_reward
as_attester_is state attestations index less =
    ap (λ o. cond (is_among index (get_unslashed_attesting_indices state attestations)) o (done 0)) (ap (delayed_by state index) (entry_is state attestations index less) ∙ delayed_is state index (inclusion state attestations index))

-- the reward of a validator, by what it gains as a proposer and as an attester
by_both : Outcome ℕ → Outcome ℕ → Outcome ℕ
by_both as_proposer as_attester = bind as_proposer (λ p. bind as_attester (λ a. checked_add p a))

reward_is : (state : PlainState) (attestations : List PendingAttestation) (index : ℕ) → index < length state.validators → inclusion_delay_reward state attestations index
    ≡ by_both (gained state (inclusion_entries state attestations) index 0 (get_unslashed_attesting_indices state attestations)) (own_reward state (inclusion_entries state attestations) (get_unslashed_attesting_indices state attestations) index)
unfolding inclusion_delay_reward by_both
reward_is state attestations index less =
    ap (λ o. bind o (λ p. bind (cond (is_among index (get_unslashed_attesting_indices state attestations)) (delayed_reward state index (inclusion state attestations index)) (done 0)) (λ a. checked_add p a))) (sym (as_proposer_is state attestations index))
    ∙ ap (λ o. bind (gained state (inclusion_entries state attestations) index 0 (get_unslashed_attesting_indices state attestations)) (λ p. bind o (λ a. checked_add p a))) (sym (as_attester_is state attestations index less))

-- ---- all of them

by_gains : Outcome (List ℕ) → PlainState → List (Option Inclusion) → List ℕ → Outcome (List ℕ)
by_gains o state entries attesters = bind o (λ gains. checked_map (joined_reward state entries attesters gains) (validator_indices state))

total_only : (state : PlainState) (sum : ℕ) (xs : List ℕ) → AllByRecursion (λ a. a < length state.validators) xs → OnlyOverflows (checked_total_from (get_proposer_reward state) sum xs)
unfolding checked_total_from
total_only state sum [] all = tt
total_only state sum (x ∷ xs) all =
    bound_only (get_proposer_reward state x) (λ number. bind (checked_add sum number) (λ more. checked_total_from (get_proposer_reward state) more xs)) (proposer_only state x all.0)
    (λ number. bound_only (checked_add sum number) (λ more. checked_total_from (get_proposer_reward state) more xs) (add_only sum number) (λ more. total_only state more xs all.1))

-- rewards by entries, where the attesters and those who included them are in the registry
module _ (state : PlainState) (entries : List (Option Inclusion)) (attesters : List ℕ) (below : AllByRecursion (λ a. a < length state.validators) attesters) (known : (a : ℕ) (x : Inclusion) → entry_at entries a ≡ Some x → x.proposer < length state.validators) where
  none : List ℕ
  none = replicate (length state.validators) 0

  reward : ℕ → Outcome ℕ
  unfolding by_both
  reward index = by_both (gained state entries index 0 attesters) (own_reward state entries attesters index)

  none_at : (index : ℕ) → index < length state.validators → get_or none index 0 ≡ 0
  unfolding none
  none_at index less = get_or-replicate (length state.validators) index 0 0 less

  none_len : length none ≡ length state.validators
  unfolding none
  none_len = length-replicate (length state.validators) 0

  reward_only : (index : ℕ) → index < length state.validators → OnlyOverflows (reward index)
  unfolding reward by_both gained
  reward_only index less =
      bound_only (gained state entries index 0 attesters) (λ p. bind (own_reward state entries attesters index) (λ a. checked_add p a)) (total_only state 0 (filter (λ a. proposes index (entry_at entries a)) attesters) (filtered_below (length state.validators) (λ a. proposes index (entry_at entries a)) attesters below))
      (λ p. bound_only (own_reward state entries attesters index) (λ a. checked_add p a) (own_only state entries attesters index less) (λ a. add_only p a))

  joined_is : (gains : List ℕ) (index : ℕ) → joined_reward state entries attesters gains index ≡ by_both (done (get_or gains index 0)) (own_reward state entries attesters index)
  unfolding joined_reward by_both
  joined_is gains index = refl

  by_cases : (o : Outcome (List ℕ)) → all_included state entries none attesters ≡ o → OnlyOverflows o → by_gains o state entries attesters ≡ checked_map reward (validator_indices state)
  unfolding by_gains validator_indices reward by_both
  by_cases (done gains) e only =
      let all = all_done state entries attesters none gains e in
      same_map (joined_reward state entries attesters gains) reward 0 (length state.validators)
      (λ k more less.
      let within : k < length none = omega (arith, less, none_len) in
      joined_is gains k
      ∙ ap (λ o. by_both o (own_reward state entries attesters k)) (sym (all.each k within) ∙ ap (λ n. gained state entries k n attesters) (none_at k (omega arith))))
  by_cases (refused why) e only =
      let one = all_refused state entries attesters none why (λ a x at. omega (arith, known a x at, none_len)) e in
      let within : one.index < length state.validators = omega (arith, one.less, none_len) in
      let here : gained state entries one.index 0 attesters ≡ refused Overflow = ap (λ n. gained state entries one.index n attesters) (sym (none_at one.index within)) ∙ one.is ∙ ap refused only in
      ap refused only
      ∙ sym (refused_map reward 0 (length state.validators) one.index (λ k more less. reward_only k (omega arith)) (omega arith) (omega arith)
      (ap (λ o. by_both o (own_reward state entries attesters one.index)) here))
  by_cases (limited bound) e only = absurd only

joined_opens : (state : PlainState) (entries : List (Option Inclusion)) (attesters : List ℕ) → joined_deltas state entries attesters
    ≡ bind (by_gains (all_included state entries (replicate (length state.validators) 0) attesters) state entries attesters) (λ rewards. done (record { rewards = rewards; penalties = replicate (length state.validators) 0 }))
unfolding joined_deltas all_joined by_gains
joined_opens state entries attesters = refl

published_opens : (state : PlainState) → get_inclusion_delay_deltas state
    ≡ bind (checked_map (inclusion_delay_reward state (get_matching_source_attestations state (get_previous_epoch state))) (validator_indices state)) (λ rewards. done (record { rewards = rewards; penalties = map {B = ℕ} (λ index. 0) (validator_indices state) }))
unfolding get_inclusion_delay_deltas
published_opens state = refl

rewards_are : (state : PlainState) (epoch : ℕ) (attestations : List PendingAttestation) → AllByRecursion (IsSoundPending state epoch) attestations
    → by_gains (all_included state (inclusion_entries state attestations) (replicate (length state.validators) 0) (get_unslashed_attesting_indices state attestations)) state (inclusion_entries state attestations) (get_unslashed_attesting_indices state attestations)
    ≡ checked_map (inclusion_delay_reward state attestations) (validator_indices state)
unfolding none reward validator_indices
rewards_are state epoch attestations sound =
    let entries = inclusion_entries state attestations in
    let attesters = get_unslashed_attesting_indices state attestations in
    let below = attesters_below state attestations in
    let known = entries_known state epoch attestations sound in
    by_cases state entries attesters below known (all_included state entries (replicate (length state.validators) 0) attesters) refl (all_only state entries attesters (replicate (length state.validators) 0) below)
    ∙ same_map (reward state entries attesters below known) (inclusion_delay_reward state attestations) 0 (length state.validators) (λ k more less. sym (reward_is state attestations k (omega arith)))

pub joined_are : (state : PlainState) (statuses : List Status) → IsSoundWithinEpoch state → statuses ≡ statuses_of state (get_previous_epoch state) → joined_deltas state (entries_of statuses) (flagged state (flags_of Source statuses)) ≡ get_inclusion_delay_deltas state
unfolding matching
joined_are state statuses sound are =
    let attestations = get_matching_source_attestations state (get_previous_epoch state) in
    let entries = inclusion_entries state attestations in
    let attesters = get_unslashed_attesting_indices state attestations in
    ap (λ es. joined_deltas state es (flagged state (flags_of Source statuses))) (entries_are state (get_previous_epoch state) statuses are)
    ∙ ap (joined_deltas state entries) (voters_are state (get_previous_epoch state) statuses are Source)
    ∙ joined_opens state entries attesters
    ∙ ap (λ o. bind o (λ rewards. done (let d : Deltas = record { rewards = rewards; penalties = replicate (length state.validators) 0 } in d))) (rewards_are state (get_previous_epoch state) attestations (sound_previous (get_current_epoch state) state sound))
    ∙ ap (λ zeros. bind (checked_map (inclusion_delay_reward state attestations) (validator_indices state)) (λ rewards. done (let d : Deltas = record { rewards = rewards; penalties = zeros } in d))) (sym (nothing_is state))
    ∙ sym (published_opens state)
