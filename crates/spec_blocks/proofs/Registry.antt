-- The operations of a block but attestations change the registry, the balances, the slashed sums and the count of deposits alone,
-- and leave who is active in the current epoch and before, and each effective balance: what such a change keeps, each of them
-- keeps, and so do all operations of a block where attestations keep it too.
use Rattle.std.proofs.Common.{◌≡◌, ◌∙◌, ℕ, zero, suc, ◌+◌, ◌-◌, ◌<◌, ◌≤◌, ◌%◌, ◌/◌, Bool, true, false, max, not, ◌&&◌, ◌==◌, leb, nat_lt, List, [], ◌∷◌, ◌++◌, length, Option, Some, None, slice_get, slice_set, refl, sym, ap, ap₂, subst, length-append, arith, inl, inr}
use Rattle.std.proofs.lemmas.Bool.{eqb-true, not-false, lt-ltb, lt-leb}
use Rattle.std.proofs.lemmas.List.{length-set}
use Rattle.bc_words.specs.Outcome.{done, checked_add, checked_sub, checked_push}
use Rattle.bc_words.specs.declared.refusal.Refusal.TheVariants.{ExInactive, ExLeaving, ExEarly, ExYoung, PsSlots, PsProposers, PsSame, NotSlashable, AsData, AsNone, DpBranch}
use Rattle.bc_preset.specs.declared.configuration.ConfigValues.{ConfigValues}
use Rattle.beacon_types.specs.Slashable.{is_slashable_attestation_data}
use Rattle.beacon_types.specs.declared.validator.Validator.{Validator}
use Rattle.beacon_types.specs.declared.signed_exit.SignedVoluntaryExit.{SignedVoluntaryExit}
use Rattle.beacon_types.specs.declared.deposit.Deposit.{Deposit}
use Rattle.beacon_types.specs.Containers.{deposit_contract_tree_depth, deposit_data_codec}
use Rattle.beacon_types.specs.declared.proposer_slashing.ProposerSlashing.{ProposerSlashing}
use Rattle.beacon_types.specs.declared.attester_slashing.AttesterSlashing.{AttesterSlashing}
use Rattle.beacon_types.specs.declared.attestation.Attestation.{Attestation}
use Rattle.beacon_types.specs.declared.body.BeaconBlockBody.{BeaconBlockBody}
use Rattle.spec_state.specs.declared.plain.PlainState.{PlainState}
use Rattle.spec_state.specs.Constants.{far_future_epoch}
use Rattle.spec_state.specs.Misc.{effective_balance}
use Rattle.spec_state.specs.Predicates.{is_active_validator, is_slashable_validator}
use Rattle.spec_state.specs.Accessors.{get_current_epoch, indices_from}
use Rattle.spec_blocks.specs.Checks.{check, item_at, each_of}
use Rattle.spec_blocks.specs.IncreaseBalance.{increase_balance}
use Rattle.spec_blocks.specs.DecreaseBalance.{decrease_balance}
use Rattle.spec_blocks.specs.InitiateValidatorExit.{initiate_validator_exit, exit_queue_epoch}
use Rattle.spec_blocks.specs.SlashValidator.{mark_slashed, slash_validator}
use Rattle.spec_blocks.specs.IsValidIndexedAttestation.{is_valid_indexed_attestation}
use Rattle.spec_blocks.specs.IsValidMerkleBranch.{is_valid_merkle_branch}
use Rattle.spec_blocks.specs.GetValidatorFromDeposit.{get_validator_from_deposit}
use Rattle.spec_blocks.specs.ProcessProposerSlashing.{process_proposer_slashing, same_header}
use Rattle.spec_blocks.specs.ProcessAttesterSlashing.{process_attester_slashing, Slashed, slash_one, slash_slashable, in_both}
use Rattle.spec_blocks.specs.ProcessAttestation.{process_attestation}
use Rattle.spec_blocks.specs.ProcessDeposit.{process_deposit, add_validator, credit_deposit, index_of_pubkey}
use Rattle.spec_blocks.specs.ProcessVoluntaryExit.{process_voluntary_exit}
use Rattle.spec_blocks.specs.ProcessOperations.{process_operations, check_deposit_count}
use Rattle.spec_blocks.proofs.Done.{on_the_way, chosen, same_value, item_is, push_is}
use Rattle.spec_blocks.proofs.Each.{each_keeps}
use Rattle.spec_blocks.proofs.Exits.{queue_later}
use Rattle.spec_blocks.proofs.Sound.{indices_of_changed, indices_of_added}

-- who is active in an epoch, of a list of validators
abbrev pub active_of : List Validator → ℕ → List ℕ
active_of validators epoch = indices_from (λ v. is_active_validator v epoch) 0 validators

-- What an operation makes of the registry and the balances of a state: nobody is taken out, each validator has a balance if each
-- had one, effective balances stay, and the same are active in the current epoch and in those before it
pub record RegistryChange (s : PlainState) (validators : List Validator) (balances : List ℕ) : Type 0 where
  pub grown : length s.validators ≤ length validators
  pub paired : length s.balances ≡ length s.validators → length balances ≡ length validators
  pub effective : (index : ℕ) → index < length s.validators → effective_balance validators index ≡ effective_balance s.validators index
  pub active : get_current_epoch s < far_future_epoch → (epoch : ℕ) → epoch ≤ get_current_epoch s → active_of validators epoch ≡ active_of s.validators epoch

-- ---- who is active

-- one who leaves later is active as before
pub still_active : (v : Validator) (exit withdrawable now epoch : ℕ) → v.exit_epoch ≡ far_future_epoch → now < exit → now < far_future_epoch → epoch ≤ now
    → is_active_validator (record v { exit_epoch = exit; withdrawable_epoch = withdrawable }) epoch ≡ is_active_validator v epoch
unfolding is_active_validator
still_active v exit withdrawable now epoch stays later before low =
    ap (λ (b : Bool). leb v.activation_epoch epoch && b) (lt-ltb epoch exit (omega arith) ∙ sym (lt-ltb epoch v.exit_epoch (omega arith)))

-- one whose activation comes later isn't active
pub not_yet : (v : Validator) (epoch : ℕ) → epoch < v.activation_epoch → is_active_validator v epoch ≡ false
unfolding is_active_validator
not_yet v epoch later = ap (λ (b : Bool). b && nat_lt epoch v.exit_epoch) (lt-leb v.activation_epoch epoch later)

-- one who is slashed is active as before
slashed_active : (v : Validator) (withdrawable epoch : ℕ) → is_active_validator (record v { slashed = true; withdrawable_epoch = withdrawable }) epoch ≡ is_active_validator v epoch
unfolding is_active_validator
slashed_active v withdrawable epoch = refl

-- one who joins isn't active yet
joins_later : (s : PlainState) (deposit : Deposit) → (get_validator_from_deposit s deposit).activation_epoch ≡ far_future_epoch
unfolding get_validator_from_deposit
joins_later s deposit = refl

-- ---- effective balances

abbrev balance_of : Option Validator → ℕ
balance_of None = 0
balance_of (Some v) = v.effective_balance

-- where one changes, and has the same
effective_of_changed : (vs : List Validator) (index i : ℕ) (old new : Validator) → slice_get vs index ≡ Some old → new.effective_balance ≡ old.effective_balance
    → effective_balance (slice_set vs index new) i ≡ effective_balance vs i
unfolding effective_balance
effective_of_changed [] index i old new is same = refl
effective_of_changed (v ∷ vs) zero zero old new is same = same ∙ sym (ap balance_of is)
effective_of_changed (v ∷ vs) zero (suc i) old new is same = refl
effective_of_changed (v ∷ vs) (suc index) zero old new is same = refl
effective_of_changed (v ∷ vs) (suc index) (suc i) old new is same = effective_of_changed vs index i old new is same

-- and where one is added
effective_of_added : (vs : List Validator) (new : Validator) (i : ℕ) → i < length vs → effective_balance (vs ++ new ∷ []) i ≡ effective_balance vs i
unfolding effective_balance
effective_of_added [] new i inside = absurd (omega arith)
effective_of_added (v ∷ vs) new zero inside = refl
effective_of_added (v ∷ vs) new (suc i) inside = effective_of_added vs new i (omega arith)

-- ---- the changes

balances_change : (s : PlainState) (balances : List ℕ) → length balances ≡ length s.balances → RegistryChange s s.validators balances
balances_change s balances many = record {
  grown = omega arith;
  paired = λ paired. many ∙ paired;
  effective = λ index inside. refl;
  active = λ before epoch low. refl;
}

-- one validator that changes, and is active as before
validator_changes : (s : PlainState) (index : ℕ) (old new : Validator) → slice_get s.validators index ≡ Some old → new.effective_balance ≡ old.effective_balance
    → (get_current_epoch s < far_future_epoch → (epoch : ℕ) → epoch ≤ get_current_epoch s → is_active_validator new epoch ≡ is_active_validator old epoch)
    → RegistryChange s (slice_set s.validators index new) s.balances
validator_changes s index old new is balance same =
    let many = length-set s.validators index new in
    record {
      grown = omega (arith, many);
      paired = λ paired. paired ∙ sym many;
      effective = λ i inside. effective_of_changed s.validators index i old new is balance;
      active = λ before epoch low. indices_of_changed (λ v. is_active_validator v epoch) 0 index s.validators old new is (same before epoch low);
    }

-- one validator more, who isn't active yet
validator_joins : (s : PlainState) (new : Validator) (balance : ℕ) → new.activation_epoch ≡ far_future_epoch → RegistryChange s (s.validators ++ new ∷ []) (s.balances ++ balance ∷ [])
validator_joins s new balance later = record {
  grown = omega (arith, length-append s.validators (new ∷ []));
  paired = λ paired. length-append s.balances (balance ∷ []) ∙ (ap (λ (n : ℕ). n + 1) paired ∙ sym (length-append s.validators (new ∷ [])));
  effective = λ index inside. effective_of_added s.validators new index inside;
  active = λ before epoch low. indices_of_added (λ v. is_active_validator v epoch) 0 s.validators new (not_yet new epoch (omega arith));
}

-- ---- what the operations keep

module _ (P : PlainState → Type 0)
    (of_registry : (s : PlainState) (validators : List Validator) (balances slashings : List ℕ) (deposits : ℕ) → RegistryChange s validators balances
    → P s → P (record s { validators = validators; balances = balances; slashings = slashings; eth1_deposit_index = deposits })) where
  -- the exit of a validator
  pub exit_keeps : (s t : PlainState) (index : ℕ) (config : ConfigValues) → initiate_validator_exit s index config ≡ done t → P s → P t
  unfolding initiate_validator_exit
  exit_keeps s t index config is holds =
      let validator = on_the_way (item_at s.validators index) _ t is in
      let v = validator.value in
      elim (chosen (not (v.exit_epoch == far_future_epoch)) _ _ _ validator.then_done) [
        | inl leaving ↦ subst P (same_value s t leaving.1) holds
        | inr stays ↦
            let exit = on_the_way (exit_queue_epoch s config) _ t stays.1 in
            let withdrawable = on_the_way (checked_add exit.value config.min_validator_withdrawability_delay) _ t exit.then_done in
            let later = queue_later s config exit.value exit.first in
            let far = eqb-true v.exit_epoch far_future_epoch (not-false _ stays.0) in
            let leaves : Validator = record v { exit_epoch = exit.value; withdrawable_epoch = withdrawable.value } in
            subst P (same_value _ t withdrawable.then_done)
            (of_registry s (slice_set s.validators index leaves) s.balances s.slashings s.eth1_deposit_index
            (validator_changes s index v leaves (item_is s.validators index v validator.first) refl
            (λ before epoch low. still_active v exit.value withdrawable.value (get_current_epoch s) epoch far later before low))
            holds)
      ]

  -- a voluntary exit
  pub voluntary_exit_keeps : (config : ConfigValues) (s t : PlainState) (exit : SignedVoluntaryExit) → process_voluntary_exit s exit config ≡ done t → P s → P t
  unfolding process_voluntary_exit
  voluntary_exit_keeps config s t exit is holds =
      let validator = on_the_way (item_at s.validators exit.message.validator_index) _ t is in
      let active = on_the_way (check (is_active_validator validator.value (get_current_epoch s)) ExInactive) _ t validator.then_done in
      let stays = on_the_way (check (validator.value.exit_epoch == far_future_epoch) ExLeaving) _ t active.then_done in
      let due = on_the_way (check (leb exit.message.epoch (get_current_epoch s)) ExEarly) _ t stays.then_done in
      let from = on_the_way (checked_add validator.value.activation_epoch config.shard_committee_period) _ t due.then_done in
      let old = on_the_way (check (leb from.value (get_current_epoch s)) ExYoung) _ t from.then_done in
      exit_keeps s t exit.message.validator_index config old.then_done holds

  -- a balance that grows, and one that falls
  pub increase_keeps : (s t : PlainState) (index delta : ℕ) → increase_balance s index delta ≡ done t → P s → P t
  unfolding increase_balance
  increase_keeps s t index delta is holds =
      let balance = on_the_way (item_at s.balances index) _ t is in
      let more = on_the_way (checked_add balance.value delta) _ t balance.then_done in
      subst P (same_value _ t more.then_done) (of_registry s s.validators (slice_set s.balances index more.value) s.slashings s.eth1_deposit_index
      (balances_change s _ (length-set s.balances index more.value)) holds)

  pub decrease_keeps : (s t : PlainState) (index delta : ℕ) → decrease_balance s index delta ≡ done t → P s → P t
  unfolding decrease_balance
  decrease_keeps s t index delta is holds =
      let balance = on_the_way (item_at s.balances index) _ t is in
      subst P (same_value _ t balance.then_done) (of_registry s s.validators (slice_set s.balances index (balance.value - delta)) s.slashings s.eth1_deposit_index
      (balances_change s _ (length-set s.balances index (balance.value - delta))) holds)

  -- a slashing
  mark_keeps : (s t : PlainState) (index : ℕ) (config : ConfigValues) → mark_slashed s index config ≡ done t → P s → P t
  unfolding mark_slashed
  mark_keeps s t index config is holds =
      let epoch : ℕ = get_current_epoch s in
      let leaving = on_the_way (initiate_validator_exit s index config) _ t is in
      let x = leaving.value in
      let validator = on_the_way (item_at x.validators index) _ t leaving.then_done in
      let v = validator.value in
      let withdrawable = on_the_way (checked_add epoch x.preset.epochs_per_slashings_vector) _ t validator.then_done in
      let old = on_the_way (item_at x.slashings (epoch % x.preset.epochs_per_slashings_vector)) _ t withdrawable.then_done in
      let more = on_the_way (checked_add old.value v.effective_balance) _ t old.then_done in
      let last : ℕ = max v.withdrawable_epoch withdrawable.value in
      let slashed : Validator = record v { slashed = true; withdrawable_epoch = last } in
      subst P (same_value _ t more.then_done)
      (of_registry x (slice_set x.validators index slashed) x.balances (slice_set x.slashings (epoch % x.preset.epochs_per_slashings_vector) more.value) x.eth1_deposit_index
      (validator_changes x index v slashed (item_is x.validators index v validator.first) refl (λ before at low. slashed_active v last at))
      (exit_keeps s x index config leaving.first holds))

  pub slash_keeps : (s t : PlainState) (index proposer : ℕ) (config : ConfigValues) → slash_validator s index proposer config ≡ done t → P s → P t
  unfolding slash_validator
  slash_keeps s t index proposer config is holds =
      let marked = on_the_way (mark_slashed s index config) _ t is in
      let validator = on_the_way (item_at marked.value.validators index) _ t marked.then_done in
      let lowered = on_the_way (decrease_balance marked.value index (validator.value.effective_balance / marked.value.preset.min_slashing_penalty_quotient)) _ t validator.then_done in
      let whistleblower : ℕ = validator.value.effective_balance / marked.value.preset.whistleblower_reward_quotient in
      let cut : ℕ = whistleblower / marked.value.preset.proposer_reward_quotient in
      let rewarded = on_the_way (increase_balance lowered.value proposer cut) _ t lowered.then_done in
      let rest = on_the_way (checked_sub whistleblower cut) _ t rewarded.then_done in
      increase_keeps rewarded.value t proposer rest.value rest.then_done
      (increase_keeps lowered.value rewarded.value proposer cut rewarded.first
      (decrease_keeps marked.value lowered.value index _ lowered.first (mark_keeps s marked.value index config marked.first holds)))

  -- a proposer slashing
  pub proposer_slashing_keeps : (proposer : ℕ) (config : ConfigValues) (s t : PlainState) (slashing : ProposerSlashing) → process_proposer_slashing s slashing proposer config ≡ done t → P s → P t
  unfolding process_proposer_slashing
  proposer_slashing_keeps proposer config s t slashing is holds =
      let one = slashing.signed_header_1.message in
      let other = slashing.signed_header_2.message in
      let slots = on_the_way (check (one.slot == other.slot) PsSlots) _ t is in
      let proposers = on_the_way (check (one.proposer_index == other.proposer_index) PsProposers) _ t slots.then_done in
      let differ = on_the_way (check (not (same_header one other)) PsSame) _ t proposers.then_done in
      let validator = on_the_way (item_at s.validators one.proposer_index) _ t differ.then_done in
      let slashable = on_the_way (check (is_slashable_validator validator.value (get_current_epoch s)) NotSlashable) _ t validator.then_done in
      slash_keeps s t one.proposer_index proposer config slashable.then_done holds

  -- an attester slashing
  slash_slashable_keeps : (proposer : ℕ) (config : ConfigValues) (s t : Slashed) (index : ℕ) → slash_slashable proposer config s index ≡ done t → P s.state → P t.state
  unfolding slash_slashable slash_one
  slash_slashable_keeps proposer config s t index is holds =
      let validator = on_the_way (item_at s.state.validators index) _ t is in
      elim (chosen (is_slashable_validator validator.value (get_current_epoch s.state)) _ _ _ validator.then_done) [
        | inl slashed ↦
            let next = on_the_way (slash_validator s.state index proposer config) _ t slashed.1 in
            subst (λ (x : Slashed). P x.state) (same_value _ t next.then_done) (slash_keeps s.state next.value index proposer config next.first holds)
        | inr left ↦ subst (λ (x : Slashed). P x.state) (same_value s t left.1) holds
      ]

  pub attester_slashing_keeps : (proposer : ℕ) (config : ConfigValues) (s t : PlainState) (slashing : AttesterSlashing) → process_attester_slashing s slashing proposer config ≡ done t → P s → P t
  unfolding process_attester_slashing
  attester_slashing_keeps proposer config s t slashing is holds =
      let one = slashing.attestation_1 in
      let other = slashing.attestation_2 in
      let slashable = on_the_way (check (is_slashable_attestation_data one.content other.content) AsData) _ t is in
      let first = on_the_way (is_valid_indexed_attestation s one) _ t slashable.then_done in
      let second = on_the_way (is_valid_indexed_attestation s other) _ t first.then_done in
      let start : Slashed = record { state = s; slashed_any = false } in
      let slashed = on_the_way (each_of (slash_slashable proposer config) start (in_both one.attesting_indices other.attesting_indices)) _ t second.then_done in
      let some = on_the_way (check slashed.value.slashed_any AsNone) _ t slashed.then_done in
      subst P (same_value slashed.value.state t some.then_done)
      (each_keeps (λ (x : Slashed). P x.state) (slash_slashable proposer config) (slash_slashable_keeps proposer config)
      (in_both one.attesting_indices other.attesting_indices) start slashed.value slashed.first holds)

  -- a deposit
  add_keeps : (s t : PlainState) (deposit : Deposit) → add_validator s deposit ≡ done t → P s → P t
  unfolding add_validator
  add_keeps s t deposit is holds =
      let validators = on_the_way (checked_push s.preset.validator_registry_limit s.validators (get_validator_from_deposit s deposit)) _ t is in
      let balances = on_the_way (checked_push s.preset.validator_registry_limit s.balances deposit.content.amount) _ t validators.then_done in
      let new : Validator = get_validator_from_deposit s deposit in
      let vs = push_is s.preset.validator_registry_limit s.validators new validators.value validators.first in
      let bs = push_is s.preset.validator_registry_limit s.balances deposit.content.amount balances.value balances.first in
      subst P (ap₂ (λ (vs : List Validator) (bs : List ℕ). record s { validators = vs; balances = bs }) (sym vs) (sym bs) ∙ same_value _ t balances.then_done)
      (of_registry s (s.validators ++ new ∷ []) (s.balances ++ deposit.content.amount ∷ []) s.slashings s.eth1_deposit_index
      (validator_joins s new deposit.content.amount (joins_later s deposit)) holds)

  pub credit_keeps : (s t : PlainState) (deposit : Deposit) (index : Option ℕ) → credit_deposit s deposit index ≡ done t → P s → P t
  unfolding credit_deposit
  credit_keeps s t deposit None is holds = add_keeps s t deposit is holds
  credit_keeps s t deposit (Some index) is holds = increase_keeps s t index deposit.content.amount is holds

  pub deposit_keeps : (s t : PlainState) (deposit : Deposit) → process_deposit s deposit ≡ done t → P s → P t
  unfolding process_deposit
  deposit_keeps s t deposit is holds =
      let branch = on_the_way (check (is_valid_merkle_branch (deposit_data_codec.hash_tree_root deposit.content) deposit.proof (deposit_contract_tree_depth + 1) s.eth1_deposit_index s.eth1_data.deposit_root) DpBranch) _ t is in
      let next = on_the_way (checked_add s.eth1_deposit_index 1) _ t branch.then_done in
      let counted : PlainState = record s { eth1_deposit_index = next.value } in
      credit_keeps counted t deposit (index_of_pubkey counted.validators deposit.content.pubkey) next.then_done
      (of_registry s s.validators s.balances s.slashings next.value (balances_change s s.balances refl) holds)

  -- all operations of a block, where its attestations keep it
  pub operations_keep : (proposer : ℕ) (config : ConfigValues) → ((s t : PlainState) (attestation : Attestation) → process_attestation s attestation proposer ≡ done t → P s → P t)
      → (s t : PlainState) (body : BeaconBlockBody) → process_operations s body proposer config ≡ done t → P s → P t
  unfolding process_operations
  operations_keep proposer config of_attestation s t body is holds =
      let count = on_the_way (check_deposit_count s body) _ t is in
      let one = on_the_way (each_of (λ s operation. process_proposer_slashing s operation proposer config) s body.proposer_slashings) _ t count.then_done in
      let two = on_the_way (each_of (λ s operation. process_attester_slashing s operation proposer config) one.value body.attester_slashings) _ t one.then_done in
      let three = on_the_way (each_of (λ s operation. process_attestation s operation proposer) two.value body.attestations) _ t two.then_done in
      let four = on_the_way (each_of process_deposit three.value body.deposits) _ t three.then_done in
      each_keeps P (λ s operation. process_voluntary_exit s operation config) (voluntary_exit_keeps config) body.voluntary_exits four.value t four.then_done
      (each_keeps P process_deposit deposit_keeps body.deposits three.value four.value four.first
      (each_keeps P (λ s operation. process_attestation s operation proposer) of_attestation body.attestations two.value three.value three.first
      (each_keeps P (λ s operation. process_attester_slashing s operation proposer config) (attester_slashing_keeps proposer config) body.attester_slashings one.value two.value two.first
      (each_keeps P (λ s operation. process_proposer_slashing s operation proposer config) (proposer_slashing_keeps proposer config) body.proposer_slashings s one.value one.first holds))))
