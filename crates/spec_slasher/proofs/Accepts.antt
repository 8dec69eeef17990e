-- Each operation passes the checks of its indices, and a block's step with it slashes somebody where a common validator is slashable.
use Rattle.std.proofs.Common.{◌≡◌, ◌∙◌, ℕ, zero, suc, ◌+◌, ◌-◌, ◌/◌, ◌%◌, ◌^◌, ◌<◌, ◌⊎◌, inl, inr, max, Bool, true, false, if◌then◌else◌, ◌&&◌, ◌==◌, not, nat_lt, List, [], ◌∷◌, ◌++◌, length, slice_set, refl, sym, ap, subst, arith}
use Rattle.std.specs.List.{filter, list_any, list_all}
use Rattle.std.proofs.lemmas.Bool.{lt-ltb, eq-eqb, ne_eqb, false≢true}
use Rattle.std.proofs.lemmas.List.{length-set}
use Rattle.bc_words.specs.Outcome.{Outcome, done, refused, limited, bind, checked_add, checked_sub}
use Rattle.bc_words.specs.declared.refusal.Refusal.{Refusal}
use Rattle.bc_words.specs.declared.refusal.Refusal.TheVariants.{AsData, AsIndices, AsNone, IndexRange, Overflow}
use Rattle.bc_preset.specs.declared.configuration.ConfigValues.{ConfigValues}
use Rattle.bc_preset.specs.declared.presets.Preset.{Preset}
use Rattle.bc_preset.proofs.Bounds.{preset_bounds}
use Rattle.beacon_types.specs.Slashable.{is_slashable_attestation_data}
use Rattle.beacon_types.specs.declared.indexed_attestation.IndexedAttestation.{IndexedAttestation}
use Rattle.beacon_types.specs.declared.validator.Validator.{Validator}
use Rattle.beacon_types.specs.declared.attester_slashing.AttesterSlashing.{AttesterSlashing}
use Rattle.spec_state.specs.declared.plain.PlainState.{PlainState}
use Rattle.spec_state.specs.Constants.{far_future_epoch}
use Rattle.spec_state.specs.Limits.{IsState}
use Rattle.spec_state.specs.Misc.{compute_activation_exit_epoch}
use Rattle.spec_state.specs.Predicates.{is_slashable_validator}
use Rattle.spec_state.specs.Accessors.{get_current_epoch, get_validator_churn_limit}
use Rattle.spec_state.specs.Soundness.{IsSound}
use Rattle.spec_blocks.specs.Checks.{check, item_at, each_of}
use Rattle.spec_blocks.specs.IncreaseBalance.{increase_balance}
use Rattle.spec_blocks.specs.DecreaseBalance.{decrease_balance}
use Rattle.spec_blocks.specs.InitiateValidatorExit.{initiate_validator_exit, exit_queue_epoch, exit_queue_churn, greatest, exit_epochs}
use Rattle.spec_blocks.specs.SlashValidator.{mark_slashed, slash_validator}
use Rattle.spec_blocks.specs.IsValidIndexedAttestation.{is_valid_indexed_attestation, is_strictly_ascending}
use Rattle.spec_blocks.specs.ProcessAttesterSlashing.{process_attester_slashing, Slashed, slash_one, slash_slashable, in_both}
use Rattle.spec_blocks.proofs.Done.{same_value}
use Rattle.ffg_law.specs.Links.{IsOneOf}
use Rattle.spec_forensics.specs.Histories.{AcceptedBlock}
use Rattle.spec_slasher.specs.GetIndexedAttestation.{get_indexed_attestation}
use Rattle.spec_slasher.specs.AttestationOf.{indexed}
use Rattle.spec_slasher.specs.Operations.{operations, IsCommon}
use Rattle.spec_slasher.specs.Accepts.{IsDoneOrOverflow, IsHeld, HasSlashable}
use Rattle.spec_slasher.proofs.Lists.{one_of, contained, each_is, in_filter, of_filter, to_any, in_order_ascends, into_order, and_true}
use Rattle.spec_slasher.proofs.Named.{attesters_of}
use Rattle.spec_slasher.proofs.Operations.{operation_is}

-- ---- outcomes

-- a value with a property, or a number that doesn't fit
abbrev Within : {A : Type 0} → (A → Type 0) → Outcome A → Type 0
Within P (done x) = P x
Within P (refused why) = why ≡ Overflow
Within P (limited bound) = ⊥

abbrev Any : {A : Type 0} → A → Type 0
Any x = Unit {0}

within_bind : {A B : Type 0} (P : A → Type 0) (Q : B → Type 0) (o : Outcome A) (next : A → Outcome B) → Within P o → ((x : A) → o ≡ done x → P x → Within Q (next x)) → Within Q (bind o next)
within_bind P Q (done x) next h goes = goes x refl h
within_bind P Q (refused why) next h goes = h
within_bind P Q (limited bound) next h goes = absurd h

within_if : {A : Type 0} (P : A → Type 0) (b : Bool) (x y : Outcome A) → ((b ≡ true) → Within P x) → ((b ≡ false) → Within P y) → Within P (if b then x else y)
within_if P true x y one other = one refl
within_if P false x y one other = other refl

within_done : {A : Type 0} (P : A → Type 0) (o : Outcome A) (x : A) → o ≡ done x → P x → Within P o
within_done P o x is h = subst (λ (p : Outcome _). Within P p) (sym is) h

within_add : (a b : ℕ) → Within Any (checked_add a b)
unfolding checked_add
within_add a b = within_if Any (nat_lt (a + b) (2 ^ 64)) _ _ (λ h. tt) (λ h. refl)

within_sub : (a b : ℕ) → Within Any (checked_sub a b)
unfolding checked_sub
within_sub a b = within_if Any (nat_lt a b) _ _ (λ h. refl) (λ h. tt)

within_item : {A : Type 0} (xs : List A) (i : ℕ) → i < length xs → Within Any (item_at xs i)
within_item [] i low = absurd (omega (arith, low))
within_item (x ∷ xs) zero low = tt
within_item (x ∷ xs) (suc i) low = within_item xs i (omega (arith, low))

pub check_done : (b : Bool) (why : Refusal) → b ≡ true → check b why ≡ done tt
check_done b why is = ap (λ (t : Bool). check t why) is

-- ---- slashing

-- a state with so many validators and balances, and slashings as its preset says
record Sized (n m : ℕ) (s : PlainState) : Type 0 where
  validators : length s.validators ≡ n
  balances : length s.balances ≡ n
  slashings : length s.slashings ≡ m
  vector : s.preset.epochs_per_slashings_vector ≡ m

module _ (n m : ℕ) (some : 0 < m) (config : ConfigValues) where
  with_validator : (s : PlainState) (index : ℕ) (v : Validator) → Sized n m s → Sized n m (record s { validators = slice_set s.validators index v })
  with_validator s index v sized = record { validators = length-set s.validators index v ∙ sized.validators; balances = sized.balances; slashings = sized.slashings; vector = sized.vector }

  with_slashed : (s : PlainState) (index : ℕ) (v : Validator) (at more : ℕ) → Sized n m s → Sized n m (record s { validators = slice_set s.validators index v; slashings = slice_set s.slashings at more })
  with_slashed s index v at more sized = record { validators = length-set s.validators index v ∙ sized.validators; balances = sized.balances; slashings = length-set s.slashings at more ∙ sized.slashings; vector = sized.vector }

  with_balance : (s : PlainState) (index balance : ℕ) → Sized n m s → Sized n m (record s { balances = slice_set s.balances index balance })
  with_balance s index balance sized = record { validators = sized.validators; balances = length-set s.balances index balance ∙ sized.balances; slashings = sized.slashings; vector = sized.vector }

  earliest_within : (preset : Preset) (epoch : ℕ) → Within Any (compute_activation_exit_epoch preset epoch)
  unfolding compute_activation_exit_epoch
  earliest_within preset epoch = within_bind Any Any (checked_add epoch 1) (λ next. checked_add next preset.max_seed_lookahead) (within_add epoch 1) (λ next is h. within_add next preset.max_seed_lookahead)

  queue_within : (s : PlainState) → Within Any (exit_queue_epoch s config)
  unfolding exit_queue_epoch
  queue_within s = within_bind Any Any (compute_activation_exit_epoch s.preset (get_current_epoch s)) _ (earliest_within s.preset (get_current_epoch s))
      (λ earliest is h.
      let epoch : ℕ = greatest (exit_epochs s.validators ++ earliest ∷ []) in
      within_if Any (nat_lt (exit_queue_churn s.validators epoch) (get_validator_churn_limit s config)) (done epoch) (checked_add epoch 1) (λ less. tt) (λ full. within_add epoch 1))

  exit_within : (s : PlainState) (index : ℕ) → index < n → Sized n m s → Within (Sized n m) (initiate_validator_exit s index config)
  unfolding initiate_validator_exit
  exit_within s index low sized =
      let count = sized.validators in
      within_bind Any (Sized n m) (item_at s.validators index) _ (within_item s.validators index (omega (arith, low, count)))
      (λ validator is h. within_if (Sized n m) (not (validator.exit_epoch == far_future_epoch)) (done s) _ (λ leaving. sized)
      (λ stays. within_bind Any (Sized n m) (exit_queue_epoch s config) _ (queue_within s)
      (λ exit is h. within_bind Any (Sized n m) (checked_add exit config.min_validator_withdrawability_delay) _ (within_add exit config.min_validator_withdrawability_delay)
      (λ withdrawable is h. with_validator s index (record validator { exit_epoch = exit; withdrawable_epoch = withdrawable }) sized))))

  place_within : (epoch k : ℕ) → k ≡ m → epoch % k < m
  place_within epoch k is = omega (arith, is, some)

  mark_within : (s : PlainState) (index : ℕ) → index < n → Sized n m s → Within (Sized n m) (mark_slashed s index config)
  unfolding mark_slashed
  mark_within s index low sized =
      let epoch : ℕ = get_current_epoch s in
      within_bind (Sized n m) (Sized n m) (initiate_validator_exit s index config) _ (exit_within s index low sized)
      (λ leaving is good. let count = good.validators in within_bind Any (Sized n m) (item_at leaving.validators index) _ (within_item leaving.validators index (omega (arith, low, count)))
      (λ validator is h. within_bind Any (Sized n m) (checked_add epoch leaving.preset.epochs_per_slashings_vector) _ (within_add epoch leaving.preset.epochs_per_slashings_vector)
      (λ withdrawable is h.
      let place : epoch % leaving.preset.epochs_per_slashings_vector < m = place_within epoch leaving.preset.epochs_per_slashings_vector good.vector in
      let long = good.slashings in
      within_bind Any (Sized n m) (item_at leaving.slashings (epoch % leaving.preset.epochs_per_slashings_vector)) _ (within_item leaving.slashings (epoch % leaving.preset.epochs_per_slashings_vector) (subst (λ (k : ℕ). epoch % leaving.preset.epochs_per_slashings_vector < k) (sym long) place))
      (λ before is h. within_bind Any (Sized n m) (checked_add before validator.effective_balance) _ (within_add before validator.effective_balance)
      (λ more is h. with_slashed leaving index (record validator { slashed = true; withdrawable_epoch = max validator.withdrawable_epoch withdrawable }) (epoch % leaving.preset.epochs_per_slashings_vector) more good)))))

  increase_within : (s : PlainState) (index delta : ℕ) → index < n → Sized n m s → Within (Sized n m) (increase_balance s index delta)
  unfolding increase_balance
  increase_within s index delta low sized =
      let count = sized.balances in
      within_bind Any (Sized n m) (item_at s.balances index) _ (within_item s.balances index (omega (arith, low, count)))
      (λ balance is h. within_bind Any (Sized n m) (checked_add balance delta) _ (within_add balance delta) (λ more is h. with_balance s index more sized))

  decrease_within : (s : PlainState) (index delta : ℕ) → index < n → Sized n m s → Within (Sized n m) (decrease_balance s index delta)
  unfolding decrease_balance
  decrease_within s index delta low sized =
      let count = sized.balances in
      within_bind Any (Sized n m) (item_at s.balances index) _ (within_item s.balances index (omega (arith, low, count))) (λ balance is h. with_balance s index (balance - delta) sized)

  module _ (proposer : ℕ) (proposes : proposer < n) where
    slash_within : (s : PlainState) (index : ℕ) → index < n → Sized n m s → Within (Sized n m) (slash_validator s index proposer config)
    unfolding slash_validator
    slash_within s index low sized =
        within_bind (Sized n m) (Sized n m) (mark_slashed s index config) _ (mark_within s index low sized)
        (λ marked is good. let count = good.validators in within_bind Any (Sized n m) (item_at marked.validators index) _ (within_item marked.validators index (omega (arith, low, count)))
        (λ validator is h. within_bind (Sized n m) (Sized n m) (decrease_balance marked index (validator.effective_balance / marked.preset.min_slashing_penalty_quotient)) _ (decrease_within marked index _ low good)
        (λ lowered is good. within_bind (Sized n m) (Sized n m) (increase_balance lowered proposer (validator.effective_balance / marked.preset.whistleblower_reward_quotient / marked.preset.proposer_reward_quotient)) _ (increase_within lowered proposer _ proposes good)
        (λ rewarded is good. within_bind Any (Sized n m) (checked_sub (validator.effective_balance / marked.preset.whistleblower_reward_quotient) (validator.effective_balance / marked.preset.whistleblower_reward_quotient / marked.preset.proposer_reward_quotient)) _ (within_sub _ _)
        (λ rest is h. increase_within rewarded proposer rest proposes good)))))

    -- a validator of a state that isn't slashable
    IsNot : PlainState → ℕ → Type 0
    IsNot s index = (v : Validator) → item_at s.validators index ≡ done v → is_slashable_validator v (get_current_epoch s) ≡ false

    -- behind the step of one validator somebody was slashed, or else nothing changed and it isn't slashable
    record Steps (before : Slashed) (index : ℕ) (after : Slashed) : Type 0 where
      sized : Sized n m after.state
      either : (after.slashed_any ≡ true) ⊎ ((after ≡ before) × IsNot before.state index)

    one_within : (s : Slashed) (index : ℕ) → index < n → Sized n m s.state → Within (Steps s index) (slash_one proposer config s.state index)
    unfolding slash_one
    one_within s index low sized =
        within_bind (Sized n m) (Steps s index) (slash_validator s.state index proposer config) _ (slash_within s.state index low sized) (λ next is good. record { sized = good; either = inl refl })

    step_within : (s : Slashed) (index : ℕ) → index < n → Sized n m s.state → Within (Steps s index) (slash_slashable proposer config s index)
    unfolding slash_slashable IsNot
    step_within s index low sized =
        let count = sized.validators in
        within_bind Any (Steps s index) (item_at s.state.validators index) _ (within_item s.state.validators index (omega (arith, low, count)))
        (λ validator is h. within_if (Steps s index) (is_slashable_validator validator (get_current_epoch s.state)) (slash_one proposer config s.state index) (done s) (λ slashable. one_within s index low sized)
        (λ stays. record { sized = sized; either = inr (refl, λ v found. ap (λ (x : Validator). is_slashable_validator x (get_current_epoch s.state)) (same_value v validator (sym found ∙ is)) ∙ stays) }))

    -- one of a list that is slashable
    record HasOne (s : PlainState) (indices : List ℕ) : Type 0 where
      index : ℕ
      listed : IsOneOf index indices
      validator : Validator
      found : item_at s.validators index ≡ done validator
      slashable : is_slashable_validator validator (get_current_epoch s) ≡ true

    abbrev WasAny : Slashed → Type 0
    WasAny t = t.slashed_any ≡ true

    goes_on : (s t : Slashed) (i : ℕ) (indices : List ℕ) → (s.slashed_any ≡ true) ⊎ HasOne s.state (i ∷ indices) → (t.slashed_any ≡ true) ⊎ ((t ≡ s) × IsNot s.state i) → (t.slashed_any ≡ true) ⊎ HasOne t.state indices
    unfolding IsNot
    goes_on s t i indices h (inl slashed) = inl slashed
    goes_on s t i indices (inl before) (inr stays) = inl (ap (λ (x : Slashed). x.slashed_any) stays.0 ∙ before)
    goes_on s t i indices (inr one) (inr stays) = elim one.listed [
      | inl here ↦ absurd (false≢true (sym (stays.1 one.validator (ap (λ (k : ℕ). item_at s.state.validators k) here ∙ one.found)) ∙ one.slashable))
      | inr more ↦ inr (subst (λ (x : Slashed). HasOne x.state indices) (sym stays.0) (record { index = one.index; listed = more; validator = one.validator; found = one.found; slashable = one.slashable }))
    ]

    each_within : (indices : List ℕ) (s : Slashed) → ((i : ℕ) → IsOneOf i indices → i < n) → Sized n m s.state → (s.slashed_any ≡ true) ⊎ HasOne s.state indices → Within WasAny (each_of (slash_slashable proposer config) s indices)
    unfolding each_of
    each_within [] s low sized (inl any) = any
    each_within [] s low sized (inr one) = absurd one.listed
    each_within (i ∷ indices) s low sized h =
        within_bind (Steps s i) WasAny (slash_slashable proposer config s i) _ (step_within s i (low i (inl refl)) sized)
        (λ t is step. each_within indices t (λ k listed. low k (inr listed)) step.sized (goes_on s t i indices h step.either))

-- ---- the checks

all_below : (n : ℕ) (indices : List ℕ) → ((i : ℕ) → IsOneOf i indices → i < n) → list_all (λ index. nat_lt index n) indices ≡ true
all_below n [] low = refl
all_below n (i ∷ indices) low = and_true _ _ (lt-ltb i n (low i (inl refl))) (all_below n indices (λ k h. low k (inr h)))

some_listed : (i : ℕ) (indices : List ℕ) → IsOneOf i indices → not (length indices == 0) ≡ true
some_listed i [] h = absurd h
some_listed i (k ∷ indices) h = ap not (ne_eqb (length (k ∷ indices)) 0 (λ e. omega (arith, e)))

valid_done : (s : PlainState) (a : IndexedAttestation) (i : ℕ) → is_strictly_ascending a.attesting_indices ≡ true → IsOneOf i a.attesting_indices → ((k : ℕ) → IsOneOf k a.attesting_indices → k < length s.validators)
    → is_valid_indexed_attestation s a ≡ done tt
unfolding is_valid_indexed_attestation
valid_done s a i up one low =
    ap (λ (o : Outcome (Unit {0})). bind o (λ _. check (list_all (λ index. nat_lt index (length s.validators)) a.attesting_indices) IndexRange))
    (check_done (not (length a.attesting_indices == 0) && is_strictly_ascending a.attesting_indices) AsIndices (and_true _ _ (some_listed i a.attesting_indices one) up))
    ∙ check_done (list_all (λ index. nat_lt index (length s.validators)) a.attesting_indices) IndexRange (all_below (length s.validators) a.attesting_indices low)

-- what the checks but those of the registry ask of an operation
pub record IsRight (operation : AttesterSlashing) : Type 0 where
  pub slashable : is_slashable_attestation_data operation.attestation_1.content operation.attestation_2.content ≡ true
  pub first_ascends : is_strictly_ascending operation.attestation_1.attesting_indices ≡ true
  pub second_ascends : is_strictly_ascending operation.attestation_2.attesting_indices ≡ true
  pub index : ℕ
  pub common : IsCommon operation index

pub operation_right : (genesis : PlainState) (first second : List AcceptedBlock) (operation : AttesterSlashing) → IsOneOf operation (operations genesis first second) → IsRight operation
unfolding indexed get_indexed_attestation attesters_of
operation_right genesis first second operation h =
    let l = operation_is genesis first second operation h in
    let w = l.what in
    subst IsRight (sym w.is) (record {
      slashable = w.slashable;
      first_ascends = in_order_ascends (attesters_of w.one);
      second_ascends = in_order_ascends (attesters_of w.other);
      index = l.index;
      common = record { first = contained _ l.index (into_order l.index (attesters_of w.one) w.in_one); second = contained _ l.index (into_order l.index (attesters_of w.other) w.in_other) };
    })

pub first_below : (s : PlainState) (o : AttesterSlashing) → IsHeld s o → (i : ℕ) → IsOneOf i o.attestation_1.attesting_indices → i < length s.validators
first_below s o held i h = each_is (λ (i : ℕ). i < length s.validators) o.attestation_1.attesting_indices held.first i h

second_below : (s : PlainState) (o : AttesterSlashing) → IsHeld s o → (i : ℕ) → IsOneOf i o.attestation_2.attesting_indices → i < length s.validators
second_below s o held i h = each_is (λ (i : ℕ). i < length s.validators) o.attestation_2.attesting_indices held.second i h

pub first_valid : (s : PlainState) (o : AttesterSlashing) → IsRight o → IsHeld s o → is_valid_indexed_attestation s o.attestation_1 ≡ done tt
first_valid s o right held = valid_done s o.attestation_1 right.index right.first_ascends (one_of _ right.index right.common.first) (first_below s o held)

pub second_valid : (s : PlainState) (o : AttesterSlashing) → IsRight o → IsHeld s o → is_valid_indexed_attestation s o.attestation_2 ≡ done tt
second_valid s o right held = valid_done s o.attestation_2 right.index right.second_ascends (one_of _ right.index right.common.second) (second_below s o held)

-- the step of a block
pub right_processed : (s : PlainState) (o : AttesterSlashing) (proposer : ℕ) (config : ConfigValues) → IsState s → IsSound s → proposer < length s.validators → IsRight o → IsHeld s o → HasSlashable s o
    → IsDoneOrOverflow (process_attester_slashing s o proposer config)
unfolding process_attester_slashing in_both
right_processed s o proposer config state sound proposes right held some =
    let n : ℕ = length s.validators in
    let m : ℕ = s.preset.epochs_per_slashings_vector in
    let least = (preset_bounds s.preset state.preset_is).least_epochs_per_slashings_vector in
    let one : List ℕ = o.attestation_1.attesting_indices in
    let other : List ℕ = o.attestation_2.attesting_indices in
    let test : ℕ → Bool = λ (index : ℕ). list_any (λ other. other == index) o.attestation_2.attesting_indices in
    let start : Slashed = record { state = s; slashed_any = false } in
    let sized : Sized n m s = record { validators = refl; balances = sound.balances; slashings = state.slashings_len; vector = refl } in
    let first_one = in_filter test some.index one (to_any (λ (k : ℕ). k == some.index) some.index other (one_of other some.index some.common.second) (eq-eqb some.index _ refl)) (one_of one some.index some.common.first) in
    within_bind Any Any (check (is_slashable_attestation_data o.attestation_1.content o.attestation_2.content) AsData) _ (within_done Any _ tt (check_done _ AsData right.slashable) tt)
    (λ x is h. within_bind Any Any (is_valid_indexed_attestation s o.attestation_1) _ (within_done Any _ tt (first_valid s o right held) tt)
    (λ x is h. within_bind Any Any (is_valid_indexed_attestation s o.attestation_2) _ (within_done Any _ tt (second_valid s o right held) tt)
    (λ x is h. within_bind (λ (t : Slashed). t.slashed_any ≡ true) Any (each_of (slash_slashable proposer config) start (filter test one)) _
    (each_within n m (omega (arith, least)) config proposer proposes (filter test one) start (λ i h. first_below s o held i (of_filter test i one h).0) sized
    (inr (record { index = some.index; listed = first_one; validator = some.slashable.validator; found = some.slashable.found; slashable = some.slashable.slashable })))
    (λ t is any. within_bind Any Any (check t.slashed_any AsNone) _ (within_done Any _ tt (check_done t.slashed_any AsNone any) tt) (λ x is h. tt)))))
