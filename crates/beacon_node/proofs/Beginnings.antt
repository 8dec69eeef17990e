-- A genesis begins a book: its total active balance fits in 64 bits, since its writing has offsets of 32 bits.
use Rattle.std.proofs.Common.{◌≡◌, ◌∙◌, ℕ, zero, suc, ◌+◌, ◌*◌, ◌≤◌, ◌^◌, max, Bool, true, false, not, ◌&&◌, ◌==◌, cond, List, [], ◌∷◌, length, Option, Some, None, if◌then◌else◌, refl, sym, ap, inl, inr, arith}
use Rattle.std.specs.Prelude.{sum_by, nat_lt}
use Rattle.std.specs.List.{flat_map, list_all}
use Rattle.std.proofs.lemmas.Bool.{cases_lt, lt-ltb}
use Rattle.std.proofs.lemmas.List.Sums.{sum_by-le}
use Rattle.bc_words.specs.Outcome.{Outcome, bind, done}
use Rattle.bc_words.proofs.Sums.{checked_sum_fits}
use Rattle.bc_preset.specs.declared.configuration.ConfigValues.{ConfigValues}
use Rattle.bc_preset.specs.laws.Bounds.{HasPresetBounds}
use Rattle.bc_preset.proofs.Bounds.{preset_bounds}
use Rattle.beacon_types.specs.declared.block.BeaconBlock.{BeaconBlock}
use Rattle.beacon_types.specs.declared.validator.Validator.{Validator}
use Rattle.beacon_types.specs.Containers.{validator_codec}
use Rattle.beacon_types.specs.Equality.{same_root}
use Rattle.beacon_types.specs.laws.Containers.{validator_lawful}
use Rattle.ssz_codec.specs.Layout.{OffsetsFit}
use Rattle.spec_state.specs.declared.plain.PlainState.{PlainState}
use Rattle.spec_state.specs.declared.fault.GenesisFault.{GenesisFault}
use Rattle.spec_state.specs.declared.fault.ValidatorFault.{ValidatorFault}
use Rattle.spec_state.specs.Predicates.{is_active_validator}
use Rattle.spec_state.specs.Constants.{far_future_epoch}
use Rattle.spec_state.specs.Accessors.{get_active_validator_indices, get_current_epoch, get_total_active_balance, get_total_balance, indices_from}
use Rattle.spec_state.specs.Genesis.{genesis_fault, is_genesis_header, is_zero_checkpoint, or_later, validator_fault, validators_fault, zero_root}
use Rattle.spec_state.specs.Limits.{IsState, IsInRange}
use Rattle.spec_state.specs.Misc.{effective_balance}
use Rattle.spec_state.specs.States.{state_codec, state_fields}
use Rattle.spec_state.specs.Writing.{HasWriting}
use Rattle.spec_genesis.proofs.Written.{sized}
use Rattle.spec_fork_choice.specs.Clash.{clash_of, clash_with}
use Rattle.spec_fork_choice.specs.GetForkchoiceStore.{genesis_block}
use Rattle.spec_fork_choice.specs.OnEvent as events
use Rattle.spec_fork_choice.specs.OnEvent.{genesis_clash}
use Rattle.safety_law.specs.Histories.{Begins}
use Rattle.safety_law.proofs.Beginning.{genesis_begins}
use Rattle.forensics.specs.Books.{IsBeginning}
use Rattle.beacon_node.specs.inside.Histories.{IsGenesis}

-- ---- how many validators there are

pub few_validators : (s : PlainState) → IsInRange s → HasWriting s → length s.validators ≤ 2 ^ 29
unfolding state_fields OffsetsFit
few_validators s range written =
    let long : length (flat_map validator_codec.serialize s.validators) ≡ length s.validators * 121 = sized 121 validator_codec s.validators (λ v w. validator_lawful.size v w) range.validators in
    omega (arith, long, written.whole.1.1.1.0)

-- ---- what a validator has

passed : {A : Type 0} (b : Bool) (fault : A) (rest : Option A) → cond b (Some fault) rest ≡ None → (b ≡ false) × (rest ≡ None)
passed true fault rest h = absurd cc
passed false fault rest h = (refl, h)

low_balance : (most : ℕ) (v : Validator) → validator_fault most v ≡ None → v.effective_balance ≤ most
unfolding validator_fault
low_balance most v none =
    let slashed = passed v.slashed _ _ none in
    let exit = passed (not (v.exit_epoch == far_future_epoch)) _ _ slashed.1 in
    let withdrawable = passed (not (v.withdrawable_epoch == far_future_epoch)) _ _ exit.1 in
    let activation = passed (not (v.activation_epoch == 0) && not (v.activation_epoch == far_future_epoch)) _ _ withdrawable.1 in
    let effective = passed (nat_lt most v.effective_balance) _ _ activation.1 in
    not_more most v.effective_balance effective.0
  where
    not_more : (m n : ℕ) → nat_lt m n ≡ false → n ≤ m
    not_more m n is = elim (cases_lt m n) [
      | inl less ↦ absurd (let no : true ≡ false = sym (lt-ltb m n less) ∙ is in cc)
      | inr other ↦ omega (arith, other)
    ]

none_of_both : (i : ℕ) (here : Option ValidatorFault) (later : Option GenesisFault) → or_later i here later ≡ None → (here ≡ None) × (later ≡ None)
none_of_both i (Some wrong) later none = absurd cc
none_of_both i None later none = (refl, none)

low_balances : (most i : ℕ) (vs : List Validator) (n : ℕ) → validators_fault most i vs ≡ None → effective_balance vs n ≤ most
unfolding validators_fault effective_balance
low_balances most i [] n none = omega arith
low_balances most i (v ∷ vs) zero none = low_balance most v (none_of_both i (validator_fault most v) (validators_fault most (i + 1) vs) none).0
low_balances most i (v ∷ vs) (suc n) none = low_balances most (i + 1) vs n (none_of_both i (validator_fault most v) (validators_fault most (i + 1) vs) none).1

no_fault_of_validators : (s : PlainState) → genesis_fault s ≡ None → validators_fault s.preset.max_effective_balance 0 s.validators ≡ None
unfolding genesis_fault
no_fault_of_validators s none =
    let slot = passed (not (s.slot == 0)) _ _ none in
    let header = passed (not (is_genesis_header s.latest_block_header)) _ _ slot.1 in
    let checkpoints = passed (not (is_zero_checkpoint s.previous_justified_checkpoint && (is_zero_checkpoint s.current_justified_checkpoint && is_zero_checkpoint s.finalized_checkpoint))) _ _ header.1 in
    let bits = passed (not (list_all not s.justification_bits)) _ _ checkpoints.1 in
    let slashings = passed (not (list_all (λ n. n == 0) s.slashings)) _ _ bits.1 in
    let lists =
    passed (not ((length s.previous_epoch_attestations == 0) && ((length s.current_epoch_attestations == 0) && ((length s.eth1_data_votes == 0) && (length s.historical_roots == 0))))) _ _ slashings.1 in
    (passed (not (length s.balances == length s.validators)) _ _ lists.1).1

-- ---- what all have

not_longer : (test : Validator → Bool) (i : ℕ) (vs : List Validator) → length (indices_from test i vs) ≤ length vs
unfolding indices_from
not_longer test i [] = omega arith
not_longer test i (v ∷ vs) = shorter (test v) i (indices_from test (suc i) vs) (length vs) (not_longer test (suc i) vs)
  where
    shorter : (b : Bool) (i : ℕ) (rest : List ℕ) (n : ℕ) → length rest ≤ n → length (if b then i ∷ rest else rest) ≤ suc n
    shorter true i rest n h = omega (arith, h)
    shorter false i rest n h = omega (arith, h)

total_of : (s : PlainState) (indices : List ℕ) → HasPresetBounds s.preset → genesis_fault s ≡ None → length indices ≤ 2 ^ 29 → (total : ℕ) × (get_total_balance s indices ≡ done total)
unfolding get_total_balance
total_of s indices bounds good few =
    let each : (n : ℕ) → effective_balance s.validators n ≤ 32_000_000_000 = λ n. rw (← bounds.max_effective_balance) (low_balances s.preset.max_effective_balance 0 s.validators n (no_fault_of_validators s good)) in
    let most : sum_by (effective_balance s.validators) indices ≤ length indices * 32_000_000_000 = sum_by-le (effective_balance s.validators) 32_000_000_000 indices (λ i d less. each _) in (
      max s.preset.effective_balance_increment (sum_by (effective_balance s.validators) indices),
      ap (λ (sum : Outcome ℕ). bind sum (λ sum. done (max s.preset.effective_balance_increment sum))) (checked_sum_fits (effective_balance s.validators) indices (omega (arith, most, few))),
    )

total_active_of : (s : PlainState) → HasPresetBounds s.preset → genesis_fault s ≡ None → length s.validators ≤ 2 ^ 29 → (total : ℕ) × (get_total_active_balance s ≡ done total)
unfolding get_active_validator_indices
total_active_of s bounds good few = total_of s (get_active_validator_indices s (get_current_epoch s)) bounds good (omega (arith, few, not_longer (λ v. is_active_validator v (get_current_epoch s)) 0 s.validators))

-- ---- the roots

pub root_set : (root state_root : List ℕ) (a b : Bool) (block : BeaconBlock) → same_root root zero_root ≡ a → same_root state_root zero_root ≡ b → clash_of [] root state_root block ≡ None → (a ≡ false) × (b ≡ false)
unfolding clash_of clash_with
root_set root state_root true b block x y none = absurd (cc (rw x at none))
root_set root state_root false true block x y none = absurd (cc (rw (x, y) at none))
root_set root state_root false false block x y none = (refl, refl)

-- a checked genesis whose roots are names begins histories
pub clear_begins : (s : PlainState) → genesis_fault s ≡ None → IsState s → IsInRange s → genesis_clash s ≡ None → Begins s
unfolding genesis_clash clash_of events.first_clash state_codec genesis_block
clear_begins s good is range none = genesis_begins s good is range (root_set _ _ _ _ (genesis_block s) refl refl none).1

pub begins : (config : ConfigValues) (s : PlainState) → IsGenesis config s → genesis_clash s ≡ None → Begins s
begins config s is none = clear_begins s is.checked is.state is.range none

pub begins_book : (config : ConfigValues) (s : PlainState) → IsGenesis config s → genesis_clash s ≡ None → IsBeginning s
unfolding genesis_clash clash_of events.first_clash state_codec genesis_block
begins_book config s is none =
    let set = root_set _ _ _ _ (genesis_block s) refl refl none in
    let total = total_active_of s (preset_bounds s.preset is.state.preset_is) is.checked is.few in
    record {
      checked = is.checked;
      total = total.0;
      total_is = total.1;
      root_is_set = ap (λ (root : List ℕ). same_root root zero_root) (begins config s is none).latest ∙ set.0;
      state_root_is_set = set.1;
    }
