-- The other parts of an epoch's processing on a made chain.
use Rattle.std.proofs.Common.{◌≡◌, ◌∙◌, ◌⊎◌, ℕ, zero, suc, ◌+◌, ◌-◌, ◌*◌, ◌/◌, ◌%◌, ◌^◌, ◌<◌, ◌≤◌, min, Bool, true, false, ◌&&◌, ◌==◌, not, leb, nat_lt, List, [], ◌∷◌, ◌++◌, length, map, Some, slice_get, slice_set, if◌then◌else◌, refl, sym, ap, subst, inl, inr, arith, length-append}
use Rattle.spec_blocks.specs.Gives.{Gives}
use Rattle.spec_drill.specs.inside.Calm.{IsFull, IsFullRegistry, IsNear, AreNear}
use Rattle.std.specs.List.{range_with_len, AllByRecursion, enumerate_from, fold}
use Rattle.std.specs.Prelude.{count_by, sum_by}
use Rattle.std.proofs.lemmas.Bool.{le-ltb, lt-leb, ltb-true, cases_lt, false≢true}
use Rattle.bc_words.specs.Outcome.{done, bind, checked_add, checked_mul, checked_sum, checked_push}
use Rattle.bc_preset.specs.laws.Bounds.{HasPresetBounds}
use Rattle.bc_preset.specs.declared.configuration.ConfigValues.{ConfigValues}
use Rattle.beacon_types.specs.declared.validator.Validator.{Validator}
use Rattle.spec_state.specs.declared.plain.PlainState.{PlainState}
use Rattle.spec_state.specs.Constants.{far_future_epoch}
use Rattle.spec_state.specs.Misc.{compute_activation_exit_epoch}
use Rattle.spec_state.specs.Predicates.{is_active_validator, is_eligible_for_activation_queue, is_eligible_for_activation}
use Rattle.spec_state.specs.Accessors.{get_current_epoch, get_previous_epoch, get_block_root, get_total_balance, get_total_active_balance, get_validator_churn_limit}
use Rattle.spec_blocks.specs.Checks.{found, item_at, each_of}
use Rattle.bc_words.proofs.Sums.{checked_sum_fits}
use Rattle.spec_epochs.specs.declared.justification.Justification.{Justification}
use Rattle.spec_epochs.specs.Each.{validator_indices, checked_map}
use Rattle.spec_epochs.specs.Helpers.{get_attesting_balance, get_unslashed_attesting_indices, get_matching_target_attestations}
use Rattle.spec_epochs.specs.Weigh.{weigh, reaches_two_thirds}
use Rattle.spec_epochs.specs.WeighJustificationAndFinalization.{weigh_justification_and_finalization, justification_of, with_justification}
use Rattle.spec_epochs.specs.ProcessJustificationAndFinalization.{process_justification_and_finalization}
use Rattle.spec_epochs.specs.ProcessRegistryUpdates.{process_registry_updates, eligibility_and_ejection, with_eligibility, with_activations, is_dequeued, activation_queue, comes_before}
use Rattle.spec_epochs.specs.ProcessSlashings.{process_slashings, penalized_balance}
use Rattle.spec_epochs.specs.ProcessEffectiveBalanceUpdates.{process_effective_balance_updates, updated_validator, is_out_of_bounds}
use Rattle.spec_epochs.specs.ProcessHistoricalRootsUpdate.{process_historical_roots_update, historical_batch_codec, historical_batch}
use Rattle.spec_blocks.proofs.Gives.{gives_done, gives_then, gives_if, gives_more, gives_as, gives_is, is_gives, add_gives, mul_gives, push_gives, item_gives, each_same}
use Rattle.spec_epochs.proofs.GivesEach.{map_all}
use Rattle.spec_drill.proofs.Lists.{range_all}
use Rattle.spec_drill.proofs.Totals.{total_gives, total_active_is}
use Rattle.spec_drill.proofs.Rewards.{few_attesters_of}

-- ---- justification

two_thirds_give : (part total : ℕ) → part ≤ 2_048_000_000_000 → total ≤ 2_048_000_000_000 → Gives (λ b. Unit {0}) (reaches_two_thirds part total)
unfolding reaches_two_thirds
two_thirds_give part total low fits =
    gives_then (λ n. Unit {0}) (λ b. Unit {0}) (checked_mul part 3) _ (gives_more (λ c. c ≡ part * 3) (λ n. Unit {0}) _ (λ c h. tt) (mul_gives part 3 (omega arith))) (λ thrice any.
    gives_then (λ n. Unit {0}) (λ b. Unit {0}) (checked_mul total 2) _ (gives_more (λ c. c ≡ total * 2) (λ n. Unit {0}) _ (λ c h. tt) (mul_gives total 2 (omega arith))) (λ twice any.
    gives_done (λ b. Unit {0}) _ tt))

weigh_gives : (j : Justification) (epoch : ℕ) (previous_root current_root : List ℕ) (total previous current : ℕ) → total ≤ 2_048_000_000_000 → previous ≤ 2_048_000_000_000 → current ≤ 2_048_000_000_000
    → Gives (λ k. Unit {0}) (weigh j epoch previous_root current_root total previous current)
unfolding weigh
weigh_gives j epoch previous_root current_root total previous current t p c =
    gives_then (λ b. Unit {0}) (λ k. Unit {0}) (reaches_two_thirds previous total) _ (two_thirds_give previous total p t) (λ enough any.
    gives_then (λ b. Unit {0}) (λ k. Unit {0}) (reaches_two_thirds current total) _ (two_thirds_give current total c t) (λ enough any.
    gives_done (λ k. Unit {0}) _ tt))

-- the state behind process_justification_and_finalization: other checkpoints
pub record IsWeighed (s t : PlainState) : Type 0 where
  pub checkpoints : Justification
  pub state : t ≡ with_justification s checkpoints

justification_same : (s : PlainState) → s ≡ with_justification s (justification_of s)
unfolding with_justification justification_of
justification_same s = refl

pub justification_gives : (s : PlainState) → HasPresetBounds s.preset → IsFullRegistry s → get_current_epoch s ≤ 32 → Gives (IsWeighed s) (process_justification_and_finalization s)
unfolding process_justification_and_finalization get_attesting_balance weigh_justification_and_finalization
justification_gives s bounds full early =
    let some : (attestations : _) → Gives (λ t. t ≤ 2_048_000_000_000) (get_total_balance s (get_unslashed_attesting_indices s attestations)) = λ attestations. total_gives s _ bounds full (few_attesters_of s full attestations) in
    gives_if (IsWeighed s) (leb (get_current_epoch s) 1) (done s) _ (λ h. gives_done (IsWeighed s) s (record { checkpoints = justification_of s; state = justification_same s })) (λ h.
    gives_then (λ t. t ≡ 2_048_000_000_000) (IsWeighed s) (get_total_active_balance s) _ (record { value = 2_048_000_000_000; is = total_active_is s bounds full (omega arith); holds = refl }) (λ total total_as.
    gives_then (λ t. t ≤ 2_048_000_000_000) (IsWeighed s) (get_total_balance s (get_unslashed_attesting_indices s (get_matching_target_attestations s (get_previous_epoch s)))) _ (some _) (λ previous p_low.
    gives_then (λ t. t ≤ 2_048_000_000_000) (IsWeighed s) (get_total_balance s (get_unslashed_attesting_indices s (get_matching_target_attestations s (get_current_epoch s)))) _ (some _) (λ current c_low.
    gives_then (λ k. Unit {0}) (IsWeighed s) (weigh (justification_of s) (get_current_epoch s) (get_block_root s (get_previous_epoch s)) (get_block_root s (get_current_epoch s)) total previous current) _
    (weigh_gives _ _ _ _ total previous current (omega arith) p_low c_low) (λ weighed any.
    gives_done (IsWeighed s) (with_justification s weighed) (record { checkpoints = weighed; state = refl }))))))

-- ---- the registry: nobody waits, leaves or is let in

not_waiting : (s : PlainState) (i : ℕ) (v : Validator) → IsFull v → with_eligibility s i v ≡ s
unfolding with_eligibility is_eligible_for_activation_queue
not_waiting s i v full = ap (λ n. if (n == far_future_epoch) && (v.effective_balance == s.preset.max_effective_balance) then record s { validators = slice_set s.validators i (record v { activation_eligibility_epoch = get_current_epoch s + 1 }) } else s) full.eligibility

and_false : (b : Bool) → (b && false) ≡ false
and_false true = refl
and_false false = refl

nobody_leaves : (config : ConfigValues) (s : PlainState) (i : ℕ) → config.ejection_balance < 32_000_000_000 → IsFullRegistry s → i < 64 → eligibility_and_ejection config s i ≡ done s
unfolding eligibility_and_ejection
nobody_leaves config s i low full less =
    gives_is s _ (gives_then IsFull (λ t. t ≡ s) (item_at s.validators i) _ (item_gives IsFull s.validators i full.all (let m = full.many in omega arith)) (λ v v_full.
    let leaves : Bool = is_active_validator v (get_current_epoch s) && leb v.effective_balance config.ejection_balance in
    let stays : leaves ≡ false = ap (λ b. is_active_validator v (get_current_epoch s) && b) (lt-leb v.effective_balance config.ejection_balance (let e = v_full.effective in omega arith)) ∙ and_false _ in
    gives_if (λ t. t ≡ s) leaves _ (done (with_eligibility s i v)) (λ h. absurd (false≢true (sym stays ∙ h))) (λ h. gives_done (λ t. t ≡ s) (with_eligibility s i v) (not_waiting s i v v_full))))

-- nobody waits to be let in
not_let_in : (s : PlainState) (config : ConfigValues) (i : ℕ) (v : Validator) → IsFull v → is_dequeued s config (i, v) ≡ false
unfolding is_dequeued is_eligible_for_activation
not_let_in s config i v full = ap (λ b. (leb v.activation_eligibility_epoch s.finalized_checkpoint.epoch && b) && nat_lt (count_by (λ other. comes_before other (i, v)) (activation_queue s)) (get_validator_churn_limit s config)) (ap (λ n. n == far_future_epoch) full.activation)
    ∙ ap (λ b. b && nat_lt (count_by (λ other. comes_before other (i, v)) (activation_queue s)) (get_validator_churn_limit s config)) (and_false _)

all_stay : (s : PlainState) (config : ConfigValues) (epoch start : ℕ) (vs : List Validator) → AllByRecursion IsFull vs
    → map (λ entry. if is_dequeued s config entry then record entry.1 { activation_epoch = epoch } else entry.1) (enumerate_from start vs) ≡ vs
all_stay s config epoch start [] all = refl
all_stay s config epoch start (v ∷ vs) all =
    ap (λ b. (if b then record v { activation_epoch = epoch } else v) ∷ map (λ entry. if is_dequeued s config entry then record entry.1 { activation_epoch = epoch } else entry.1) (enumerate_from (start + 1) vs)) (not_let_in s config start v all.0)
    ∙ ap (λ rest. v ∷ rest) (all_stay s config epoch (start + 1) vs all.1)

activations_stay : (s : PlainState) (config : ConfigValues) (epoch : ℕ) → IsFullRegistry s → record s { validators = with_activations s config epoch } ≡ s
unfolding with_activations
activations_stay s config epoch full = ap (λ vs. record s { validators = vs }) (all_stay s config epoch 0 s.validators full.all)

pub registry_stays : (config : ConfigValues) (s : PlainState) → HasPresetBounds s.preset → config.ejection_balance < 32_000_000_000 → IsFullRegistry s → get_current_epoch s ≤ 32 → process_registry_updates s config ≡ done s
unfolding process_registry_updates validator_indices compute_activation_exit_epoch
registry_stays config s bounds low full early =
    let four = bounds.max_seed_lookahead in
    let same : each_of (eligibility_and_ejection config) s (range_with_len 0 (length s.validators)) ≡ done s =
    each_same (eligibility_and_ejection config) s (range_with_len 0 (length s.validators)) (λ i. i < 64) (range_all (λ i. i < 64) 0 (length s.validators) (λ i less. let m = full.many in omega arith)) (λ i less. nobody_leaves config s i low full less) in
    gives_is s _ (gives_then (λ t. t ≡ s) (λ t. t ≡ s) (each_of (eligibility_and_ejection config) s (range_with_len 0 (length s.validators))) _ (is_gives s _ same) (λ x x_is.
    let epoch_is : get_current_epoch x ≡ get_current_epoch s = ap get_current_epoch x_is in
    let four_is : x.preset.max_seed_lookahead ≡ 4 = ap (λ (y : PlainState). y.preset.max_seed_lookahead) x_is ∙ four in
    gives_then (λ n. Unit {0}) (λ t. t ≡ s) (bind (checked_add (get_current_epoch x) 1) (λ next. checked_add next x.preset.max_seed_lookahead)) _
    (gives_then (λ n. n ≡ get_current_epoch x + 1) (λ n. Unit {0}) (checked_add (get_current_epoch x) 1) _ (add_gives (get_current_epoch x) 1 (omega arith)) (λ n n_is.
    gives_more (λ c. c ≡ n + x.preset.max_seed_lookahead) (λ n. Unit {0}) _ (λ c h. tt) (add_gives n x.preset.max_seed_lookahead (omega arith)))) (λ epoch any.
    gives_done (λ t. t ≡ s) (record x { validators = with_activations x config epoch }) (ap (λ (y : PlainState). record y { validators = with_activations y config epoch }) x_is ∙ activations_stay s config epoch full))))

-- ---- slashings: nobody pays

item_as : {A : Type 0} (xs : List A) (i : ℕ) (x : A) → slice_get xs i ≡ Some x → item_at xs i ≡ done x
item_as xs i x e = ap found e

index_low : {A : Type 0} (xs : List A) (i : ℕ) (x : A) → slice_get xs i ≡ Some x → i < length xs
index_low [] i x e = absurd cc
index_low (y ∷ xs) zero x e = omega arith
index_low (y ∷ xs) (suc i) x e = let h = index_low xs i x e in omega arith

nobody_pays : (s : PlainState) (adjusted total i : ℕ) (balance : ℕ) → IsFullRegistry s → length s.balances ≡ 64 → slice_get s.balances i ≡ Some balance → penalized_balance s adjusted total i ≡ done balance
unfolding penalized_balance
nobody_pays s adjusted total i balance full many at =
    let less : i < 64 = let h = index_low s.balances i balance at in omega arith in
    gives_is balance _ (gives_then IsFull (λ b. b ≡ balance) (item_at s.validators i) _ (item_gives IsFull s.validators i full.all (let m = full.many in omega arith)) (λ v v_full.
    gives_then (λ b. b ≡ balance) (λ b. b ≡ balance) (item_at s.balances i) _ (is_gives balance _ (item_as s.balances i balance at)) (λ b b_is.
    let pays : Bool = v.slashed && (get_current_epoch s + s.preset.epochs_per_slashings_vector / 2 == v.withdrawable_epoch) in
    let none : not pays ≡ true = ap (λ x. not (x && (get_current_epoch s + s.preset.epochs_per_slashings_vector / 2 == v.withdrawable_epoch))) v_full.slashed in
    gives_if (λ b. b ≡ balance) (not pays) (done b) _ (λ h. gives_done (λ b. b ≡ balance) b b_is) (λ h. absurd (false≢true (sym h ∙ none))))))

zero_sum : (xs : List ℕ) (sum : ℕ) → AllByRecursion (λ n. n ≡ 0) xs → fold (λ a x. a + x) sum xs ≡ sum
zero_sum [] sum all = refl
zero_sum (x ∷ xs) sum all = zero_sum xs (sum + x) all.1 ∙ (let e = all.0 in omega arith)

pub slashings_stay : (s : PlainState) → HasPresetBounds s.preset → IsFullRegistry s → get_current_epoch s ≤ 32 → length s.balances ≡ 64 → AllByRecursion (λ n. n ≡ 0) s.slashings → process_slashings s ≡ done s
unfolding process_slashings validator_indices
slashings_stay s bounds full early many none =
    let zeros : sum_by (λ x. x) s.slashings ≡ 0 = zero_sum s.slashings 0 none in
    let sum_is : checked_sum s.slashings ≡ done 0 = checked_sum_fits (λ x. x) s.slashings (omega arith) ∙ ap done zeros in
    gives_is s _ (gives_then (λ t. Unit {0}) (λ t. t ≡ s) (get_total_active_balance s) _ (record { value = 2_048_000_000_000; is = total_active_is s bounds full (omega arith); holds = tt }) (λ total any.
    gives_then (λ n. n ≡ 0) (λ t. t ≡ s) (checked_sum s.slashings) _ (is_gives 0 _ sum_is) (λ slashed slashed_is.
    let product : slashed * s.preset.proportional_slashing_multiplier ≡ 0 = ap (λ n. n * s.preset.proportional_slashing_multiplier) slashed_is ∙ (let z : 0 * s.preset.proportional_slashing_multiplier ≡ 0 = omega arith in z) in
    gives_then (λ n. Unit {0}) (λ t. t ≡ s) (checked_mul slashed s.preset.proportional_slashing_multiplier) _ (gives_more (λ c. c ≡ slashed * s.preset.proportional_slashing_multiplier) (λ n. Unit {0}) _ (λ c h. tt) (mul_gives slashed s.preset.proportional_slashing_multiplier (omega arith))) (λ multiplied any.
    let same : checked_map (penalized_balance s (min multiplied total) total) (range_with_len 0 (length s.balances)) ≡ done s.balances = map_all (penalized_balance s (min multiplied total) total) s.balances (λ i b at. nobody_pays s (min multiplied total) total i b full many at) in
    gives_then (λ bs. bs ≡ s.balances) (λ t. t ≡ s) (checked_map (penalized_balance s (min multiplied total) total) (range_with_len 0 (length s.validators))) _
    (is_gives s.balances _ (ap (λ n. checked_map (penalized_balance s (min multiplied total) total) (range_with_len 0 n)) (full.many ∙ sym many) ∙ same)) (λ bs bs_is.
    gives_done (λ t. t ≡ s) (record s { balances = bs }) (ap (λ bs. record s { balances = bs }) bs_is))))))

-- ---- effective balances: none changes

stays_full : (p : _) (balance : ℕ) → HasPresetBounds p → 31_750_000_000 ≤ balance → balance < 2 ^ 63 → Gives (λ b. (b ≡ false) ⊎ (32_000_000_000 ≤ balance)) (is_out_of_bounds p balance 32_000_000_000)
unfolding is_out_of_bounds
stays_full p balance bounds least most =
    let inc = bounds.effective_balance_increment in
    let quotient = bounds.hysteresis_quotient in
    let step : p.effective_balance_increment / p.hysteresis_quotient ≡ 250_000_000 = ap (λ n. n / p.hysteresis_quotient) inc ∙ ap (λ n. 1_000_000_000 / n) quotient in
    let down : p.effective_balance_increment / p.hysteresis_quotient * p.hysteresis_downward_multiplier ≡ 250_000_000 = ap (λ n. n * p.hysteresis_downward_multiplier) step ∙ ap (λ n. 250_000_000 * n) bounds.hysteresis_downward_multiplier in
    let up : p.effective_balance_increment / p.hysteresis_quotient * p.hysteresis_upward_multiplier ≡ 1_250_000_000 = ap (λ n. n * p.hysteresis_upward_multiplier) step ∙ ap (λ n. 250_000_000 * n) bounds.hysteresis_upward_multiplier in
    let Goal : Bool → Type 0 = λ b. (b ≡ false) ⊎ (32_000_000_000 ≤ balance) in
    gives_then (λ c. c ≡ balance + p.effective_balance_increment / p.hysteresis_quotient * p.hysteresis_downward_multiplier) Goal (checked_add balance (p.effective_balance_increment / p.hysteresis_quotient * p.hysteresis_downward_multiplier)) _ (add_gives _ _ (omega arith)) (λ with_downward down_is.
    gives_if Goal (nat_lt with_downward 32_000_000_000) (done true) _ (λ h. absurd (let l = ltb-true with_downward 32_000_000_000 h in omega arith)) (λ h.
    gives_then (λ c. c ≡ 32_000_000_000 + p.effective_balance_increment / p.hysteresis_quotient * p.hysteresis_upward_multiplier) Goal (checked_add 32_000_000_000 (p.effective_balance_increment / p.hysteresis_quotient * p.hysteresis_upward_multiplier)) _ (add_gives _ _ (omega arith)) (λ with_upward up_is.
    gives_done Goal (nat_lt with_upward balance) (elim (cases_lt with_upward balance) [
      | inl less ↦ inr (omega arith)
      | inr more ↦ inl (le-ltb with_upward balance more)
    ]))))

either_same : (b : Bool) (x : Validator) (n : ℕ) → n ≡ x.effective_balance → (if b then record x { effective_balance = n } else x) ≡ x
either_same true x n e = ap (λ (n : ℕ). record x { effective_balance = n }) e
either_same false x n e = refl

item_holds : {A : Type 0} (P : A → Type 0) (xs : List A) (i : ℕ) (x : A) → AllByRecursion P xs → slice_get xs i ≡ Some x → P x
item_holds P [] i x all e = absurd cc
item_holds P (y ∷ xs) zero x all e = subst P (let h : y ≡ x = cc in h) all.0
item_holds P (y ∷ xs) (suc i) x all e = item_holds P xs i x all.1 e

validator_stays : (s : PlainState) (epochs i : ℕ) (v : Validator) → HasPresetBounds s.preset → IsFull v → AreNear epochs s → epochs ≤ 33 → i < 64 → slice_get s.validators i ≡ Some v → updated_validator s i ≡ done v
unfolding updated_validator
validator_stays s epochs i v bounds full near early less at =
    let many = near.many in
    let inc = bounds.effective_balance_increment in
    let top = bounds.max_effective_balance in
    gives_is v _ (gives_then (λ x. x ≡ v) (λ x. x ≡ v) (item_at s.validators i) _ (is_gives v _ (item_as s.validators i v at)) (λ x x_is.
    gives_then (IsNear epochs) (λ x. x ≡ v) (item_at s.balances i) _ (item_gives (IsNear epochs) s.balances i near.all (omega arith)) (λ balance is_near.
    let least = is_near.least in let most = is_near.most in
    let x_full : x.effective_balance ≡ 32_000_000_000 = ap (λ (y : Validator). y.effective_balance) x_is ∙ full.effective in
    let step = stays_full s.preset balance bounds (omega arith) (omega arith) in
    gives_then (λ b. (b ≡ false) ⊎ (32_000_000_000 ≤ balance)) (λ x. x ≡ v) (is_out_of_bounds s.preset balance x.effective_balance) _
    (gives_as (λ b. (b ≡ false) ⊎ (32_000_000_000 ≤ balance)) _ _ (ap (is_out_of_bounds s.preset balance) x_full) step) (λ changes either.
    let whole : ℕ = balance - balance % s.preset.effective_balance_increment in
    gives_done (λ x. x ≡ v) (if changes then record x { effective_balance = min whole s.preset.max_effective_balance } else x) (elim either [
      | inl stands ↦ ap (λ (b : Bool). if b then record x { effective_balance = min whole s.preset.max_effective_balance } else x) stands ∙ x_is
      | inr enough ↦
          let whole_is : whole ≡ balance - balance % 1_000_000_000 = ap (λ n. balance - balance % n) inc in
          let same : min whole s.preset.max_effective_balance ≡ x.effective_balance = ap (λ n. min n s.preset.max_effective_balance) whole_is ∙ (ap (λ n. min (balance - balance % 1_000_000_000) n) top ∙ (let e : min (balance - balance % 1_000_000_000) 32_000_000_000 ≡ 32_000_000_000 = omega arith in e ∙ sym x_full)) in
          either_same changes x (min whole s.preset.max_effective_balance) same ∙ x_is
    ])))))

pub effective_balances_stay : (s : PlainState) (epochs : ℕ) → HasPresetBounds s.preset → IsFullRegistry s → AreNear epochs s → epochs ≤ 33 → process_effective_balance_updates s ≡ done s
unfolding process_effective_balance_updates validator_indices
effective_balances_stay s epochs bounds full near early =
    let same : checked_map (updated_validator s) (range_with_len 0 (length s.validators)) ≡ done s.validators = map_all (updated_validator s) s.validators (λ i v at.
    let less = index_low s.validators i v at in let m = full.many in
    validator_stays s epochs i v bounds (item_holds IsFull s.validators i v full.all at) near early (omega arith) at) in
    gives_is s _ (gives_then (λ vs. vs ≡ s.validators) (λ t. t ≡ s) (checked_map (updated_validator s) (range_with_len 0 (length s.validators))) _ (is_gives s.validators _ same) (λ vs vs_is.
    gives_done (λ t. t ≡ s) (record s { validators = vs }) (ap (λ vs. record s { validators = vs }) vs_is)))

-- ---- historical roots

pub record IsRooted (s t : PlainState) : Type 0 where
  pub roots : List (List ℕ)
  pub state : t ≡ record s { historical_roots = roots }
  pub few : length roots ≤ length s.historical_roots + 1

pub roots_give : (s : PlainState) → HasPresetBounds s.preset → length s.historical_roots ≤ 64 → Gives (IsRooted s) (process_historical_roots_update s)
unfolding process_historical_roots_update
roots_give s bounds few =
    let limit = bounds.historical_roots_limit in
    let root : List ℕ = (historical_batch_codec s.preset).hash_tree_root (historical_batch s) in
    gives_if (IsRooted s) _ (done s) _ (λ h. gives_done (IsRooted s) s (record { roots = s.historical_roots; state = refl; few = omega arith })) (λ h.
    gives_then (λ rs. rs ≡ s.historical_roots ++ root ∷ []) (IsRooted s) (checked_push s.preset.historical_roots_limit s.historical_roots root) _ (is_gives _ _ (push_gives s.preset.historical_roots_limit s.historical_roots root (omega arith))) (λ rs rs_is.
    gives_done (IsRooted s) (record s { historical_roots = rs }) (record { roots = rs; state = refl; few = let e = ap length rs_is ∙ length-append s.historical_roots (root ∷ []) in omega arith })))
