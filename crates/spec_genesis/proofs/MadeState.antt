-- The state that the deposits make is a genesis: it is within its limits, and none of its parts is wrong.
use Rattle.std.proofs.Common.{◌≡◌, ◌∙◌, ◌⊎◌, inl, inr, ℕ, zero, suc, ◌+◌, ◌-◌, ◌%◌, ◌^◌, ◌<◌, ◌≤◌, min, Bool, true, false, not, ◌&&◌, cond, ltb, eqb, List, [], ◌∷◌, length, replicate, Option, Some, None, refl, sym, ap, subst, arith}
use Rattle.std.specs.List.{AllByRecursion, list_all}
use Rattle.std.proofs.lemmas.Bool.{le-ltb, eq-eqb}
use Rattle.std.proofs.lemmas.List.{length-replicate}
use Rattle.hash_tree.specs.Merkle.{merkle_root, merkleize, mix_in_length, depth_of, depth_from}
use Rattle.ssz_codec.specs.Basic.{uint64, bytes4, bytes32}
use Rattle.ssz_codec.specs.Layout.{OffsetsFit}
use Rattle.bc_preset.specs.declared.presets.Preset.{Preset}
use Rattle.bc_preset.specs.Presets.{IsPreset}
use Rattle.bc_preset.proofs.Bounds.{preset_bounds}
use Rattle.beacon_types.specs.declared.eth1_data.Eth1Data.{Eth1Data}
use Rattle.beacon_types.specs.declared.validator.Validator.{Validator}
use Rattle.beacon_types.specs.Containers.{validator_codec, eth1_data_codec, block_header_codec}
use Rattle.beacon_types.specs.Blocks.{empty_body_root}
use Rattle.spec_state.specs.declared.plain.PlainState.{PlainState}
use Rattle.spec_state.specs.declared.fault.ValidatorFault.{ValidatorFault}
use Rattle.spec_state.specs.declared.fault.ValidatorFault.TheVariants as validators
use Rattle.spec_state.specs.Constants.{far_future_epoch}
use Rattle.spec_state.specs.Limits.{IsState, IsInRange}
use Rattle.spec_state.specs.Genesis.{zero_root, is_genesis_header, validator_fault, validators_fault, or_later, genesis_fault}
use Rattle.spec_genesis.specs.InitializeBeaconStateFromEth1.{empty_header, state_before_deposits, genesis_validator, genesis_validators, with_activations}
use Rattle.spec_state.proofs.Digests.{hash_within, zero_root_within}
use Rattle.spec_genesis.proofs.Subtrees.{same_roots}
use Rattle.spec_genesis.proofs.Deposits.{IsFresh, IsBehind, grown}

-- ---- one validator

-- what holds of it whether it is active or waits
genesis_validator_is : (P : Validator → Type 0) (p : Preset) (v : Validator) (balance : ℕ)
    → ((effective : ℕ) → effective ≤ p.max_effective_balance → P (record v { effective_balance = effective; activation_eligibility_epoch = 0; activation_epoch = 0 }) × P (record v { effective_balance = effective }))
    → P (genesis_validator p v balance)
unfolding genesis_validator
genesis_validator_is P p v balance both =
    let effective : ℕ = min (balance - balance % p.effective_balance_increment) p.max_effective_balance in
    let ways = both effective (omega arith) in
    by_test (eqb effective p.max_effective_balance) _ _ ways.0 ways.1
  where
    by_test : (b : Bool) (x y : Validator) → P x → P y → P (cond b x y)
    by_test true x y h k = h
    by_test false x y h k = k

skip : {A : Type 0} (b : Bool) (fault : A) (rest : Option A) → b ≡ false → cond b (Some fault) rest ≡ rest
skip b fault rest is = ap (λ (c : Bool). cond c (Some fault) rest) is

neither : (a b : Bool) → (a ≡ true) ⊎ (b ≡ true) → (not a && not b) ≡ false
neither true b h = refl
neither false true h = refl
neither false false (inl h) = absurd cc
neither false false (inr h) = absurd cc

nothing_wrong : (most : ℕ) (v : Validator) → v.slashed ≡ false → v.exit_epoch ≡ far_future_epoch → v.withdrawable_epoch ≡ far_future_epoch → (v.activation_epoch ≡ 0) ⊎ (v.activation_epoch ≡ far_future_epoch) → v.effective_balance ≤ most
    → validator_fault most v ≡ None
unfolding validator_fault
nothing_wrong most v slashed exit withdrawable activation low =
    skip v.slashed validators.Slashed _ slashed
    ∙ (skip (not (eqb v.exit_epoch far_future_epoch)) validators.ExitEpoch _ (ap not (eq-eqb v.exit_epoch far_future_epoch exit))
    ∙ (skip (not (eqb v.withdrawable_epoch far_future_epoch)) validators.WithdrawableEpoch _ (ap not (eq-eqb v.withdrawable_epoch far_future_epoch withdrawable))
    ∙ (skip (not (eqb v.activation_epoch 0) && not (eqb v.activation_epoch far_future_epoch)) validators.ActivationEpoch _ (neither (eqb v.activation_epoch 0) (eqb v.activation_epoch far_future_epoch) (one_of activation))
    ∙ skip (ltb most v.effective_balance) validators.EffectiveBalance None (le-ltb most v.effective_balance low))))
  where
    one_of : (v.activation_epoch ≡ 0) ⊎ (v.activation_epoch ≡ far_future_epoch) → (eqb v.activation_epoch 0 ≡ true) ⊎ (eqb v.activation_epoch far_future_epoch ≡ true)
    one_of (inl h) = inl (eq-eqb v.activation_epoch 0 h)
    one_of (inr h) = inr (eq-eqb v.activation_epoch far_future_epoch h)

-- the validator of a deposit is one of a genesis
pub validator_right : (p : Preset) (v : Validator) (balance : ℕ) → IsFresh v → validator_fault p.max_effective_balance (genesis_validator p v balance) ≡ None
validator_right p v balance fresh =
    genesis_validator_is (λ w. validator_fault p.max_effective_balance w ≡ None) p v balance (λ effective low. (
      nothing_wrong p.max_effective_balance (record v { effective_balance = effective; activation_eligibility_epoch = 0; activation_epoch = 0 }) fresh.slashed fresh.exit fresh.withdrawable (inl refl) low,
      nothing_wrong p.max_effective_balance (record v { effective_balance = effective }) fresh.slashed fresh.exit fresh.withdrawable (inr fresh.activation) low,
    ))

long_far : (n : ℕ) → n ≡ far_future_epoch → n < 2 ^ 64
long_far n is = omega arith

-- and within its limits
pub validator_within : (p : Preset) (v : Validator) (balance : ℕ) → p.max_effective_balance < 2 ^ 64 → IsFresh v → validator_codec.Within (genesis_validator p v balance)
unfolding OffsetsFit
validator_within p v balance most fresh =
    genesis_validator_is validator_codec.Within p v balance (λ effective low. (
      (((((((((tt, fresh.pubkey), fresh.credentials), omega arith), tt), omega arith), omega arith), long_far v.exit_epoch fresh.exit), long_far v.withdrawable_epoch fresh.withdrawable), tt),
      (((((((((tt, fresh.pubkey), fresh.credentials), omega arith), tt), long_far v.activation_eligibility_epoch fresh.eligibility), long_far v.activation_epoch fresh.activation), long_far v.exit_epoch fresh.exit), long_far v.withdrawable_epoch fresh.withdrawable), tt),
    ))

-- ---- all validators

pub validators_count : (p : Preset) (vs : List Validator) (bs : List ℕ) → length (genesis_validators p vs bs) ≡ length vs
unfolding genesis_validators
validators_count p [] bs = refl
validators_count p (v ∷ vs) [] = refl
validators_count p (v ∷ vs) (b ∷ bs) = ap suc (validators_count p vs bs)

validators_all : (P : Validator → Type 0) (p : Preset) → ((v : Validator) (b : ℕ) → IsFresh v → P (genesis_validator p v b)) → (vs : List Validator) (bs : List ℕ) → length bs ≡ length vs → AllByRecursion IsFresh vs → AllByRecursion P (genesis_validators p vs bs)
unfolding genesis_validators
validators_all P p each [] bs paired fresh = tt
validators_all P p each (v ∷ vs) [] paired fresh = absurd (omega arith)
validators_all P p each (v ∷ vs) (b ∷ bs) paired fresh = (each v b fresh.0, validators_all P p each vs bs (omega arith) fresh.1)

none_wrong : (most i : ℕ) (vs : List Validator) → AllByRecursion (λ v. validator_fault most v ≡ None) vs → validators_fault most i vs ≡ None
unfolding validators_fault
none_wrong most i [] right = refl
none_wrong most i (v ∷ vs) right = ap (λ (o : Option ValidatorFault). or_later i o (validators_fault most (i + 1) vs)) right.0 ∙ none_wrong most (i + 1) vs right.1

-- ---- the state

all_zero : (n : ℕ) → list_all (λ k. eqb k 0) (replicate n 0) ≡ true
all_zero zero = refl
all_zero (suc n) = all_zero n

passes : {A : Type 0} (b : Bool) (fault : A) (rest : Option A) → b ≡ true → cond (not b) (Some fault) rest ≡ rest
passes b fault rest is = ap (λ (c : Bool). cond (not c) (Some fault) rest) is

header_right : is_genesis_header empty_header ≡ true
header_right = same_roots empty_body_root empty_body_root refl

-- a state of such deposits
abbrev pub behind_of : Preset → List ℕ → List ℕ → ℕ → ℕ → Eth1Data → ℕ → List Validator → List ℕ → PlainState
behind_of p version eth1_hash time count eth1_data index vs bs = grown (state_before_deposits p version eth1_hash time count) eth1_data index vs bs

fault_of_behind : (p : Preset) (version eth1_hash : List ℕ) (time : ℕ) (count : ℕ) (eth1_data : Eth1Data) (index : ℕ) (vs : List Validator) (bs : List ℕ) → length bs ≡ length vs → AllByRecursion IsFresh vs
    → genesis_fault (with_activations (behind_of p version eth1_hash time count eth1_data index vs bs)) ≡ None
unfolding genesis_fault with_activations state_before_deposits
fault_of_behind p version eth1_hash time count eth1_data index vs bs paired fresh =
    let ws : List Validator = genesis_validators p vs bs in
    let balances : eqb (length bs) (length ws) ≡ true = eq-eqb (length bs) (length ws) (paired ∙ sym (validators_count p vs bs)) in
    passes (is_genesis_header empty_header) _ _ header_right
    ∙ (passes (list_all (λ n. eqb n 0) (replicate p.epochs_per_slashings_vector 0)) _ _ (all_zero p.epochs_per_slashings_vector)
    ∙ (passes (eqb (length bs) (length ws)) _ _ balances
    ∙ none_wrong p.max_effective_balance 0 ws (validators_all (λ v. validator_fault p.max_effective_balance v ≡ None) p (validator_right p) vs bs paired fresh)))

pub made_has_no_fault : (p : Preset) (version eth1_hash : List ℕ) (time : ℕ) (count : ℕ) (n : ℕ) (t : PlainState) → IsBehind (state_before_deposits p version eth1_hash time count) n t → genesis_fault (with_activations t) ≡ None
made_has_no_fault p version eth1_hash time count n t behind =
    subst (λ (x : PlainState). genesis_fault (with_activations x) ≡ None) (sym behind.same)
    (fault_of_behind p version eth1_hash time count t.eth1_data n t.validators t.balances behind.paired behind.validators)

-- ---- its limits

body_root_within : bytes32.Within empty_body_root
unfolding empty_body_root merkleize merkle_root depth_of depth_from
body_root_within = hash_within _

all_same : {A : Type 0} (P : A → Type 0) (n : ℕ) (x : A) → P x → AllByRecursion P (replicate n x)
all_same P zero x h = tt
all_same P (suc n) x h = (h, all_same P n x h)

-- what a genesis is made of
pub record IsGiven (version eth1_hash : List ℕ) (time : ℕ) (count : ℕ) : Type 0 where
  pub version_within : bytes4.Within version
  pub time_fits : time < 2 ^ 64
  pub hash_within : bytes32.Within eth1_hash
  pub few : count ≤ 2 ^ 32

header_within : block_header_codec.Within empty_header
unfolding OffsetsFit
header_within = ((((((tt, omega arith), omega arith), zero_root_within), zero_root_within), body_root_within), tt)

data_within : (version : List ℕ) (eth1_hash root : List ℕ) (time : ℕ) (count : ℕ) → IsGiven version eth1_hash time count → bytes32.Within root → eth1_data_codec.Within (record { deposit_root = root; deposit_count = count; block_hash = eth1_hash })
unfolding OffsetsFit
data_within version eth1_hash root time count given root_within = ((((tt, root_within), omega (arith, given.few)), given.hash_within), tt)

state_of : (p : Preset) (version eth1_hash : List ℕ) (time : ℕ) (count n : ℕ) (eth1_data : Eth1Data) (root : List ℕ) (vs : List Validator) (bs : List ℕ) → IsPreset p → length bs ≡ length vs → length vs ≤ 2 ^ 32
    → IsState (record (behind_of p version eth1_hash time count eth1_data n vs bs) { genesis_validators_root = root })
unfolding state_before_deposits
state_of p version eth1_hash time count n eth1_data root vs bs preset paired few =
    let limit = (preset_bounds p preset).validator_registry_limit in
    record {
      preset_is = preset;
      block_roots_len = length-replicate p.slots_per_historical_root zero_root;
      state_roots_len = length-replicate p.slots_per_historical_root zero_root;
      historical_roots_len = omega arith;
      eth1_data_votes_len = omega arith;
      validators_len = omega arith;
      balances_len = omega arith;
      randao_mixes_len = length-replicate p.epochs_per_historical_vector eth1_hash;
      slashings_len = length-replicate p.epochs_per_slashings_vector 0;
      previous_epoch_attestations_len = omega arith;
      current_epoch_attestations_len = omega arith;
    }

pub made_is_state : (p : Preset) (version eth1_hash : List ℕ) (time : ℕ) (count : ℕ) (n : ℕ) (t : PlainState) → IsPreset p → n ≤ 2 ^ 32 → IsBehind (state_before_deposits p version eth1_hash time count) n t → IsState (with_activations t)
unfolding with_activations state_before_deposits
made_is_state p version eth1_hash time count n t preset low behind =
    subst (λ (x : PlainState). IsState (with_activations x)) (sym behind.same)
    (let long = validators_count p t.validators t.balances in
    let few = behind.few in
    let u : PlainState = with_activations (behind_of p version eth1_hash time count t.eth1_data n t.validators t.balances) in
    state_of p version eth1_hash time count n t.eth1_data u.genesis_validators_root (genesis_validators p t.validators t.balances) t.balances preset (behind.paired ∙ sym long) (omega arith))

range_of : (p : Preset) (version eth1_hash : List ℕ) (time : ℕ) (count n : ℕ) (eth1_data : Eth1Data) (root : List ℕ) (vs : List Validator) (bs : List ℕ) → IsGiven version eth1_hash time count → eth1_data_codec.Within eth1_data → bytes32.Within root → n ≤ 2 ^ 32
    → AllByRecursion validator_codec.Within vs → AllByRecursion uint64.Within bs → IsInRange (record (behind_of p version eth1_hash time count eth1_data n vs bs) { genesis_validators_root = root })
unfolding state_before_deposits OffsetsFit
range_of p version eth1_hash time count n eth1_data root vs bs given eth1 root_within low validators balances =
    record {
      genesis_time = given.time_fits;
      genesis_validators_root = root_within;
      slot = omega arith;
      fork = ((((tt, given.version_within), given.version_within), omega arith), tt);
      latest_block_header = header_within;
      block_roots = all_same bytes32.Within p.slots_per_historical_root zero_root zero_root_within;
      state_roots = all_same bytes32.Within p.slots_per_historical_root zero_root zero_root_within;
      historical_roots = tt;
      eth1_data = eth1;
      eth1_data_votes = tt;
      eth1_deposit_index = omega arith;
      validators = validators;
      balances = balances;
      randao_mixes = all_same bytes32.Within p.epochs_per_historical_vector eth1_hash given.hash_within;
      slashings = all_same uint64.Within p.epochs_per_slashings_vector 0 (omega arith);
      previous_epoch_attestations = tt;
      current_epoch_attestations = tt;
      justification_bits = refl;
      previous_justified_checkpoint = (((tt, omega arith), zero_root_within), tt);
      current_justified_checkpoint = (((tt, omega arith), zero_root_within), tt);
      finalized_checkpoint = (((tt, omega arith), zero_root_within), tt);
    }

data_of : (p : Preset) (version eth1_hash : List ℕ) (time : ℕ) (count n : ℕ) (t : PlainState) → IsGiven version eth1_hash time count → IsBehind (state_before_deposits p version eth1_hash time count) n t → eth1_data_codec.Within t.eth1_data
unfolding state_before_deposits
data_of p version eth1_hash time count n t given behind = subst eth1_data_codec.Within (sym behind.eth1_data) (data_within version eth1_hash t.eth1_data.deposit_root time count given behind.root)

pub made_is_in_range : (p : Preset) (version eth1_hash : List ℕ) (time : ℕ) (count : ℕ) (n : ℕ) (t : PlainState) → IsPreset p → IsGiven version eth1_hash time count → n ≤ 2 ^ 32 → IsBehind (state_before_deposits p version eth1_hash time count) n t → IsInRange (with_activations t)
unfolding with_activations state_before_deposits mix_in_length
made_is_in_range p version eth1_hash time count n t preset given low behind =
    subst (λ (x : PlainState). IsInRange (with_activations x)) (sym behind.same)
    (let most : p.max_effective_balance < 2 ^ 64 = (let e = (preset_bounds p preset).max_effective_balance in omega arith) in
    let u : PlainState = with_activations (behind_of p version eth1_hash time count t.eth1_data n t.validators t.balances) in
    range_of p version eth1_hash time count n t.eth1_data u.genesis_validators_root (genesis_validators p t.validators t.balances) t.balances given (data_of p version eth1_hash time count n t given behind) (hash_within _) low
    (validators_all validator_codec.Within p (λ v b is. validator_within p v b most is) t.validators t.balances behind.paired behind.validators) behind.balances)

-- the state before the deposits is behind none
pub none_behind : (p : Preset) (version eth1_hash : List ℕ) (time : ℕ) (count : ℕ) → IsBehind (state_before_deposits p version eth1_hash time count) 0 (state_before_deposits p version eth1_hash time count)
unfolding state_before_deposits
none_behind p version eth1_hash time count = record { same = refl; eth1_data = refl; root = zero_root_within; paired = refl; few = omega arith; validators = tt; balances = tt }

pub limit_of : (p : Preset) (version eth1_hash : List ℕ) (time : ℕ) (count : ℕ) → IsPreset p → 2 ^ 32 ≤ (state_before_deposits p version eth1_hash time count).preset.validator_registry_limit
unfolding state_before_deposits
limit_of p version eth1_hash time count preset = let e = (preset_bounds p preset).validator_registry_limit in omega arith

-- and within the limits
pub start_is_state : (p : Preset) (version eth1_hash : List ℕ) (time : ℕ) (count : ℕ) → IsPreset p → IsState (state_before_deposits p version eth1_hash time count)
unfolding state_before_deposits
start_is_state p version eth1_hash time count preset = state_of p version eth1_hash time count 0 (record { deposit_root = zero_root; deposit_count = count; block_hash = eth1_hash }) zero_root [] [] preset refl (omega arith)

pub start_is_in_range : (p : Preset) (version eth1_hash : List ℕ) (time : ℕ) (count : ℕ) → IsGiven version eth1_hash time count → IsInRange (state_before_deposits p version eth1_hash time count)
unfolding state_before_deposits
start_is_in_range p version eth1_hash time count given =
    range_of p version eth1_hash time count 0 (record { deposit_root = zero_root; deposit_count = count; block_hash = eth1_hash }) zero_root [] [] given (data_within version eth1_hash zero_root time count given zero_root_within) zero_root_within (omega arith) tt tt
