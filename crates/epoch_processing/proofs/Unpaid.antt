-- Where nothing was slashed lately nobody pays.
use Rattle.std.proofs.Common.{◌≡◌, ℕ, zero, suc, ◌+◌, ◌-◌, ◌/◌, ◌^◌, Bool, true, false, cond, List, [], ◌∷◌, length, Some, slice_get, nat_lt, refl, ap, ◌∙◌, arith}
use Rattle.std.specs.Prelude.{◌&&◌, ◌==◌, not}
use Rattle.std.specs.List.{range_with_len}
use Rattle.std.proofs.Math.Nat.{mul-zero, zero-mul, zero-div}
use Rattle.bc_words.specs.Outcome.{Outcome, done, refused, bind, checked_mul}
use Rattle.bc_words.specs.declared.refusal.Refusal.TheVariants.{Overflow}
use Rattle.beacon_types.specs.declared.validator.Validator.{Validator}
use Rattle.spec_state.specs.declared.plain.PlainState.{PlainState}
use Rattle.spec_state.specs.Accessors.{get_current_epoch}
use Rattle.spec_epochs.specs.Each.{checked_map, validator_indices}
use Rattle.spec_epochs.specs.ProcessSlashings.{penalized_balance}
use Rattle.epoch_processing.specs.inside.Penalties.{penalized}

times_nothing : (a : ℕ) → checked_mul a 0 ≡ done 0
unfolding checked_mul
times_nothing a = ap (λ (n : ℕ). cond (nat_lt n (2 ^ 64)) (done n) (refused Overflow)) (mul-zero a)

nothing_times : (a : ℕ) → checked_mul 0 a ≡ done 0
unfolding checked_mul
nothing_times a = ap (λ (n : ℕ). cond (nat_lt n (2 ^ 64)) (done n) (refused Overflow)) (zero-mul a)

nothing_off : (balance a total increment : ℕ) → bind (checked_mul a 0) (λ numerator. bind (checked_mul (numerator / total) increment) (λ penalty. done (balance - penalty))) ≡ done balance
nothing_off balance a total increment =
    let same : balance - 0 ≡ balance = omega arith in
    ap (λ (o : Outcome ℕ). bind o (λ numerator. bind (checked_mul (numerator / total) increment) (λ penalty. done (balance - penalty)))) (times_nothing a)
    ∙ (ap (λ (n : ℕ). bind (checked_mul n increment) (λ penalty. done (balance - penalty))) (zero-div total)
    ∙ (ap (λ (o : Outcome ℕ). bind o (λ penalty. done (balance - penalty))) (nothing_times increment)
    ∙ ap done same))

either : (pays : Bool) (balance : ℕ) (rest : Outcome ℕ) → rest ≡ done balance → cond (not pays) (done balance) rest ≡ done balance
either true balance rest is = is
either false balance rest is = refl

keeps : (state : PlainState) (total index : ℕ) (v : Validator) (balance : ℕ) → slice_get state.validators index ≡ Some v → slice_get state.balances index ≡ Some balance → penalized_balance state 0 total index ≡ done balance
unfolding penalized_balance
keeps state total index v balance is has =
    rw (is, has) (either (v.slashed && (get_current_epoch state + state.preset.epochs_per_slashings_vector / 2 == v.withdrawable_epoch)) balance _ (nothing_off balance (v.effective_balance / state.preset.effective_balance_increment) total state.preset.effective_balance_increment))

-- a value for each index that is a list's own
all_kept : (make : ℕ → Outcome ℕ) (balances : List ℕ) (k : ℕ) → ((j balance : ℕ) → slice_get balances j ≡ Some balance → make (k + j) ≡ done balance) → checked_map make (range_with_len k (length balances)) ≡ done balances
unfolding checked_map
all_kept make [] k each = refl
all_kept make (balance ∷ balances) k each =
    let here : make k ≡ done balance = (let e : k ≡ k + 0 = omega arith in ap make e) ∙ each 0 balance refl in
    let more : checked_map make (range_with_len (k + 1) (length balances)) ≡ done balances =
    all_kept make balances (k + 1) (λ j other is. (let e : k + 1 + j ≡ k + suc j = omega arith in ap make e) ∙ each (suc j) other is) in
    ap (λ (o : Outcome ℕ). bind o (λ first. bind (checked_map make (range_with_len (k + 1) (length balances))) (λ others. done (first ∷ others)))) here
    ∙ ap (λ (o : Outcome (List ℕ)). bind o (λ others. done (balance ∷ others))) more

-- where there is a balance there is a validator
beside : {R : Type 0} (validators : List Validator) (balances : List ℕ) (j balance : ℕ) → length validators ≡ length balances → slice_get balances j ≡ Some balance → ((v : Validator) → slice_get validators j ≡ Some v → R) → R
beside validators [] j balance even is next = absurd cc
beside [] (b ∷ balances) j balance even is next = absurd (omega (arith, even))
beside (v ∷ validators) (b ∷ balances) zero balance even is next = next v refl
beside (v ∷ validators) (b ∷ balances) (suc j) balance even is next = beside validators balances j balance (omega (arith, even)) is next

pub nothing_taken : (state : PlainState) (adjusted total : ℕ) → adjusted ≡ 0 → length state.validators ≡ length state.balances → penalized state adjusted total ≡ done state
unfolding penalized validator_indices
nothing_taken state adjusted total none even =
    let all : checked_map (penalized_balance state 0 total) (range_with_len 0 (length state.balances)) ≡ done state.balances =
    all_kept (penalized_balance state 0 total) state.balances 0 (λ j balance is. beside state.validators state.balances j balance even is (λ v at. let e : 0 + j ≡ j = omega arith in ap (penalized_balance state 0 total) e ∙ keeps state total j v balance at is)) in
    rw (none, even) (ap (λ (o : Outcome (List ℕ)). bind o (λ balances. done (record state { balances = balances }))) all)
