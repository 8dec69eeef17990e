-- What can stop a reward: nothing but a number that does not fit.
use Rattle.std.proofs.Common.{◌≡◌, ℕ, ◌+◌, ◌-◌, ◌*◌, ◌^◌, ◌<◌, Bool, true, false, cond, ltb, List, [], ◌∷◌, length, Option, Some, None, refl, sym, subst, arith}
use Rattle.std.proofs.lemmas.Option.{slice_get-get_or}
use Rattle.bc_words.specs.Outcome.{Outcome, done, refused, limited, bind, checked_add, checked_sub, checked_mul, checked_sum_by, checked_sum_from}
use Rattle.bc_words.specs.declared.refusal.Refusal.TheVariants.{Overflow}
use Rattle.beacon_types.specs.declared.validator.Validator.{Validator}
use Rattle.spec_state.specs.declared.plain.PlainState.{PlainState}
use Rattle.spec_state.specs.Accessors.{get_total_balance, get_total_active_balance, get_active_validator_indices, get_current_epoch}
use Rattle.spec_state.specs.Misc.{effective_balance}
use Rattle.spec_blocks.specs.Checks.{item_at, found}
use Rattle.spec_epochs.specs.Each.{is_among}
use Rattle.spec_epochs.specs.GetBaseReward.{get_base_reward}
use Rattle.spec_epochs.specs.RewardHelpers.{get_proposer_reward}
use Rattle.epoch_rewards.specs.declared.inclusions.Inclusion.{Inclusion}
use Rattle.epoch_rewards.specs.inside.InclusionRewards.{entry_at, included, delayed_by, own_reward}

abbrev pub OnlyOverflows : {A : Type 0} → Outcome A → Type 0
OnlyOverflows (done x) = Unit {0}
OnlyOverflows (refused why) = why ≡ Overflow
OnlyOverflows (limited bound) = ⊥

pub bound_only : {A B : Type 0} (o : Outcome A) (next : A → Outcome B) → OnlyOverflows o → ((x : A) → OnlyOverflows (next x)) → OnlyOverflows (bind o next)
bound_only (done x) next only then_only = then_only x
bound_only (refused why) next only then_only = only
bound_only (limited bound) next only then_only = absurd only

either_only : {A : Type 0} (b : Bool) (x : A) → OnlyOverflows (cond b (done x) (refused Overflow))
either_only true x = tt
either_only false x = refl

or_only : {A : Type 0} (b : Bool) (x : A) → OnlyOverflows (cond b (refused Overflow) (done x))
or_only true x = refl
or_only false x = tt

pub add_only : (a b : ℕ) → OnlyOverflows (checked_add a b)
unfolding checked_add
add_only a b = either_only (ltb (a + b) (2 ^ 64)) (a + b)

pub mul_only : (a b : ℕ) → OnlyOverflows (checked_mul a b)
unfolding checked_mul
mul_only a b = either_only (ltb (a * b) (2 ^ 64)) (a * b)

pub sub_only : (a b : ℕ) → OnlyOverflows (checked_sub a b)
unfolding checked_sub
sub_only a b = or_only (ltb a b) (a - b)

sum_only : {A : Type 0} (count : A → ℕ) (sum : ℕ) (xs : List A) → OnlyOverflows (checked_sum_from count sum xs)
unfolding checked_sum_from
sum_only count sum [] = tt
sum_only count sum (x ∷ xs) = bound_only (checked_add sum (count x)) (λ more. checked_sum_from count more xs) (add_only sum (count x)) (λ more. sum_only count more xs)

pub total_only : (state : PlainState) (indices : List ℕ) → OnlyOverflows (get_total_balance state indices)
unfolding get_total_balance checked_sum_by
total_only state indices = bound_only (checked_sum_from (effective_balance state.validators) 0 indices) _ (sum_only (effective_balance state.validators) 0 indices) (λ sum. tt)

pub item_only : {A : Type 0} (xs : List A) (i : ℕ) (d : A) → i < length xs → OnlyOverflows (item_at xs i)
item_only xs i d less = subst (λ o. OnlyOverflows (found o)) (sym (slice_get-get_or xs i d less)) tt

some_validator : (vs : List Validator) (i : ℕ) → i < length vs → Validator
some_validator [] i less = absurd (omega arith)
some_validator (v ∷ vs) i less = v

pub validator_only : (state : PlainState) (index : ℕ) → index < length state.validators → OnlyOverflows (item_at state.validators index)
validator_only state index less = item_only state.validators index (some_validator state.validators index less) less

pub base_only : (state : PlainState) (index : ℕ) → index < length state.validators → OnlyOverflows (get_base_reward state index)
unfolding get_base_reward
base_only state index less =
    bound_only (get_total_active_balance state) _ (total_only state (get_active_validator_indices state (get_current_epoch state)))
    (λ total. bound_only (item_at state.validators index) _ (item_only state.validators index (some_validator state.validators index less) less)
    (λ v. bound_only (checked_mul v.effective_balance state.preset.base_reward_factor) _ (mul_only v.effective_balance state.preset.base_reward_factor) (λ weighed. tt)))

pub proposer_only : (state : PlainState) (index : ℕ) → index < length state.validators → OnlyOverflows (get_proposer_reward state index)
unfolding get_proposer_reward
proposer_only state index less = bound_only (get_base_reward state index) _ (base_only state index less) (λ base. tt)

delayed_only : (state : PlainState) (index : ℕ) (entry : Option Inclusion) → index < length state.validators → OnlyOverflows (delayed_by state index entry)
unfolding delayed_by
delayed_only state index None less = tt
delayed_only state index (Some e) less =
    bound_only (get_base_reward state index) _ (base_only state index less)
    (λ base. bound_only (get_proposer_reward state index) _ (proposer_only state index less)
    (λ proposer. bound_only (checked_sub base proposer) _ (sub_only base proposer) (λ most. tt)))

either_own : (b : Bool) (o : Outcome ℕ) → OnlyOverflows o → OnlyOverflows (cond b o (done 0))
either_own true o only = only
either_own false o only = tt

pub own_only : (state : PlainState) (entries : List (Option Inclusion)) (attesters : List ℕ) (index : ℕ) → index < length state.validators → OnlyOverflows (own_reward state entries attesters index)
unfolding own_reward
own_only state entries attesters index less = either_own (is_among index attesters) (delayed_by state index (entry_at entries index)) (delayed_only state index (entry_at entries index) less)

pub included_only : (state : PlainState) (attester : ℕ) (entry : Option Inclusion) (gains : List ℕ) → attester < length state.validators → OnlyOverflows (included state attester entry gains)
unfolding included
included_only state attester None gains less = tt
included_only state attester (Some e) gains less =
    bound_only (get_proposer_reward state attester) _ (proposer_only state attester less)
    (λ reward. bound_only (checked_add _ reward) _ (add_only _ reward) (λ sum. tt))
