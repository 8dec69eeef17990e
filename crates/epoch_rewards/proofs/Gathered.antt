-- What is made of a validator, by what was gathered of it.
use Rattle.std.proofs.Common.{◌≡◌, ℕ, Bool, true, false, not, ◌&&◌, List, get_or, Option, Some, None, slice_get, refl, sym, ap, ◌∙◌}
use Rattle.std.specs.Option.{option_map}
use Rattle.bc_words.specs.Outcome.{Outcome, bind}
use Rattle.beacon_types.specs.declared.validator.Validator.{Validator}
use Rattle.spec_state.specs.declared.plain.PlainState.{PlainState}
use Rattle.spec_state.specs.Accessors.{get_previous_epoch, indices_from}
use Rattle.spec_blocks.specs.Checks.{item_at, found}
use Rattle.spec_epochs.specs.Each.{is_among}
use Rattle.spec_epochs.specs.RewardHelpers.{get_eligible_validator_indices}
use Rattle.spec_epochs.specs.GetInactivityPenaltyDeltas.{absence_penalty}
use Rattle.balance_totals.specs.declared.stake.Stake.{Stake}
use Rattle.balance_totals.specs.inside.Stakes.{is_reached, stake_of, stakes_of}
use Rattle.balance_totals.proofs.Gathered.{read_at}
use Rattle.epoch_rewards.specs.inside.Marks.{flagged, flagged_from}
use Rattle.epoch_rewards.specs.inside.Rates.{absence_by_balance}
use Rattle.epoch_rewards.proofs.Among.{found_passes, among_indices, among_filter}

-- ---- what is reckoned of it

found_mapped : {A B C : Type 0} (f : A → B) (o : Option A) (next : B → Outcome C) → bind (found (option_map f o)) next ≡ bind (found o) (λ x. next (f x))
found_mapped f None next = refl
found_mapped f (Some x) next = refl

pub by_stake : {C : Type 0} (state : PlainState) (index : ℕ) (next : Stake → Outcome C) → bind (item_at (stakes_of state) index) next ≡ bind (item_at state.validators index) (λ v. next (stake_of (get_previous_epoch state) v))
by_stake state index next =
    ap (λ o. bind (found o) next) (read_at state index)
    ∙ found_mapped (stake_of (get_previous_epoch state)) (slice_get state.validators index) next

pub absence_here : (state : PlainState) (index : ℕ) (s : Stake) → slice_get (stakes_of state) index ≡ Some s → absence_penalty state index ≡ absence_by_balance state s.effective_balance
unfolding absence_penalty absence_by_balance stake_of
absence_here state index s at =
    let rest = λ (s : Stake). absence_by_balance state s.effective_balance in
    sym (by_stake state index rest) ∙ ap (λ o. bind (found o) rest) at

-- ---- whether it is eligible, and whether it attested

eligible_by : (previous : ℕ) (o : Option Validator) (s : Stake) → Some s ≡ option_map (stake_of previous) o → found_passes (is_reached previous) o ≡ s.eligible
unfolding stake_of found_passes
eligible_by previous None s e = absurd cc
eligible_by previous (Some v) s e = let same : stake_of previous v ≡ s = cc in ap (λ x. x.eligible) same

unslashed_by : (previous : ℕ) (o : Option Validator) (s : Stake) → Some s ≡ option_map (stake_of previous) o → found_passes (λ v. not v.slashed) o ≡ not s.slashed
unfolding stake_of found_passes
unslashed_by previous None s e = absurd cc
unslashed_by previous (Some v) s e = let same : stake_of previous v ≡ s = cc in ap (λ x. not x.slashed) same

pub eligible_here : (state : PlainState) (index : ℕ) (s : Stake) → slice_get (stakes_of state) index ≡ Some s → is_among index (get_eligible_validator_indices state) ≡ s.eligible
unfolding get_eligible_validator_indices is_reached
eligible_here state index s at =
    among_indices (is_reached (get_previous_epoch state)) index state.validators
    ∙ eligible_by (get_previous_epoch state) (slice_get state.validators index) s (sym at ∙ read_at state index)

attester_here : (state : PlainState) (flags : List Bool) (index : ℕ) (s : Stake) → slice_get (stakes_of state) index ≡ Some s → is_among index (flagged state flags) ≡ (not s.slashed && get_or flags index false)
unfolding flagged flagged_from
attester_here state flags index s at =
    among_filter (λ i. get_or flags i false) (indices_from (λ v. not v.slashed) 0 state.validators) index
    ∙ ap (λ b. b && get_or flags index false) (among_indices (λ v. not v.slashed) index state.validators
    ∙ unslashed_by (get_previous_epoch state) (slice_get state.validators index) s (sym at ∙ read_at state index))

pub attester_slashed : (state : PlainState) (flags : List Bool) (index : ℕ) (s : Stake) → slice_get (stakes_of state) index ≡ Some s → s.slashed ≡ true → is_among index (flagged state flags) ≡ false
attester_slashed state flags index s at slashed = attester_here state flags index s at ∙ ap (λ (b : Bool). not b && get_or flags index false) slashed

pub attester_unslashed : (state : PlainState) (flags : List Bool) (index : ℕ) (s : Stake) → slice_get (stakes_of state) index ≡ Some s → s.slashed ≡ false → is_among index (flagged state flags) ≡ get_or flags index false
attester_unslashed state flags index s at unslashed = attester_here state flags index s at ∙ ap (λ (b : Bool). not b && get_or flags index false) unslashed

pub ruleset attestation = (attester_slashed, attester_unslashed)
