-- The genesis of deposits: it is made exactly where no amount overflows the balance of its key, and where the deposits stand in
-- one file it has a writing, which is read as this state.
use Rattle.std.proofs.Common.{◌≡◌, ◌∙◌, inl, inr, ℕ, ◌*◌, ◌^◌, ◌≤◌, List, [], length, Option, Some, None, Ok, sym, ap, subst, arith}
use Rattle.std.specs.List.{AllByRecursion}
use Rattle.bc_words.specs.declared.refusal.Refusal.TheVariants.{Overflow}
use Rattle.bc_preset.specs.declared.presets.Preset.{Preset}
use Rattle.bc_preset.specs.Presets.{IsPreset}
use Rattle.beacon_types.specs.declared.deposit_data.DepositData.{DepositData}
use Rattle.beacon_types.specs.Containers.{deposit_data_codec}
use Rattle.spec_state.specs.declared.plain.PlainState.{PlainState}
use Rattle.spec_state.specs.Writing.{HasWriting}
use Rattle.spec_state.specs.Genesis.{genesis_of}
use Rattle.spec_state.specs.States.{state_codec}
use Rattle.spec_state.proofs.Genesis.{genesis_sound}
use Rattle.spec_genesis.specs.InitializeBeaconStateFromEth1.{Initialized, made, refused_at, limited_at, activated, process_genesis_deposits, state_before_deposits, with_activations, initialize_beacon_state_from_eth1}
use Rattle.spec_genesis.specs.Overflows.{first_overflow}
use Rattle.spec_genesis.specs.MadeGenesis.{IsGenesis, EndsBy}
use Rattle.spec_genesis.proofs.Deposits.{IsBehind, deposits_end}
use Rattle.spec_genesis.proofs.MadeState.{IsGiven, limit_of, none_behind, made_has_no_fault, made_is_state, made_is_in_range}
use Rattle.spec_genesis.proofs.Paid.{Agrees, agrees_before}
use Rattle.spec_genesis.proofs.Written.{made_is_read}

-- what is made behind all deposits is a genesis
made_genesis : (p : Preset) (version eth1_hash : List ℕ) (time : ℕ) (count : ℕ) (t : PlainState) → IsPreset p → IsGiven version eth1_hash time count → IsBehind (state_before_deposits p version eth1_hash time count) count t → IsGenesis (with_activations t)
made_genesis p version eth1_hash time count t preset given behind =
    let none = made_has_no_fault p version eth1_hash time count count t behind in
    record {
      no_fault = none;
      is_state = made_is_state p version eth1_hash time count count t preset given.few behind;
      in_range = made_is_in_range p version eth1_hash time count count t preset given given.few behind;
      sound = genesis_sound (with_activations t) none;
    }

ends_by : (end : Initialized) (o : Option ℕ) → Agrees end o → ((t : PlainState) → end ≡ made t → IsGenesis (with_activations t)) → EndsBy (activated end) o
ends_by (made t) None agrees genesis = genesis t cc
ends_by (made t) (Some i) agrees genesis = agrees
ends_by (refused_at i why) None agrees genesis = agrees
ends_by (refused_at i why) (Some j) agrees genesis = agrees
ends_by (limited_at i bound) o agrees genesis = absurd agrees

-- the only state that the deposits lead to
made_of_end : Initialized → PlainState → PlainState
made_of_end (made t) u = t
made_of_end (refused_at i why) u = u
made_of_end (limited_at i bound) u = u

is_behind : (p : Preset) (version eth1_hash : List ℕ) (time : ℕ) (deposits : List DepositData) (t : PlainState) → IsPreset p → length deposits ≤ 2 ^ 32 → AllByRecursion deposit_data_codec.Within deposits
    → process_genesis_deposits (state_before_deposits p version eth1_hash time (length deposits)) [] deposits ≡ made t → IsBehind (state_before_deposits p version eth1_hash time (length deposits)) (length deposits) t
unfolding made_of_end
is_behind p version eth1_hash time deposits t preset few within is =
    let count : ℕ = length deposits in
    let start : PlainState = state_before_deposits p version eth1_hash time count in
    elim (deposits_end start (limit_of p version eth1_hash time count preset) deposits start [] count (omega arith) few within (none_behind p version eth1_hash time count)) [
      | inl ends ↦ subst (λ (x : PlainState). IsBehind start count x) (ap (λ (e : Initialized). made_of_end e t) (sym ends.1 ∙ is)) ends.2
      | inr stops ↦ absurd (let e : refused_at stops.0 Overflow ≡ made t = sym stops.1 ∙ is in cc)
    ]

-- the making ends as the amounts say
pub genesis_of_deposits : (p : Preset) (version eth1_hash : List ℕ) (time : ℕ) (deposits : List DepositData) → IsPreset p → IsGiven version eth1_hash time (length deposits) → AllByRecursion deposit_data_codec.Within deposits
    → EndsBy (initialize_beacon_state_from_eth1 p version eth1_hash time deposits) (first_overflow [] deposits)
unfolding initialize_beacon_state_from_eth1
genesis_of_deposits p version eth1_hash time deposits preset given within =
    ends_by (process_genesis_deposits (state_before_deposits p version eth1_hash time (length deposits)) [] deposits) (first_overflow [] deposits)
    (agrees_before p version eth1_hash time deposits preset given.few within)
    (λ t is. made_genesis p version eth1_hash time (length deposits) t preset given (is_behind p version eth1_hash time deposits t preset given.few within is))

-- A state that has a writing, which is read as a genesis of the preset
abbrev pub IsWritten : Preset → PlainState → Type 0
IsWritten p u = (u.preset ≡ p) × HasWriting u × (genesis_of p ((state_codec u.preset).serialize u) ≡ Ok u)

preset_of : (p : Preset) (version eth1_hash : List ℕ) (time : ℕ) (count n : ℕ) (t : PlainState) → IsBehind (state_before_deposits p version eth1_hash time count) n t → (with_activations t).preset ≡ p
unfolding with_activations state_before_deposits
preset_of p version eth1_hash time count n t behind = ap (λ (x : PlainState). x.preset) behind.same

made_if : (P : PlainState → Type 0) (end : Initialized) (u : PlainState) → ((t : PlainState) → end ≡ made t → P (with_activations t)) → activated end ≡ made u → P u
unfolding made_of_end
made_if P (made t) u each is = subst P (ap (λ (e : Initialized). made_of_end e u) is) (each t cc)
made_if P (refused_at i why) u each is = absurd cc
made_if P (limited_at i bound) u each is = absurd cc

-- where the deposits stand in one file, the made state has a writing
pub made_is_written : (p : Preset) (version eth1_hash : List ℕ) (time : ℕ) (deposits : List DepositData) (u : PlainState) → IsPreset p → IsGiven version eth1_hash time (length deposits) → length deposits * 184 ≤ 2 ^ 30 → AllByRecursion deposit_data_codec.Within deposits
    → initialize_beacon_state_from_eth1 p version eth1_hash time deposits ≡ made u → IsWritten p u
unfolding initialize_beacon_state_from_eth1
made_is_written p version eth1_hash time deposits u preset given short within is =
    let count : ℕ = length deposits in
    made_if (IsWritten p) (process_genesis_deposits (state_before_deposits p version eth1_hash time count) [] deposits) u
    (λ t ends.
    let behind = is_behind p version eth1_hash time deposits t preset given.few within ends in
    let genesis = made_genesis p version eth1_hash time count t preset given behind in
    let preset_is = preset_of p version eth1_hash time count count t behind in
    let read = made_is_read p version eth1_hash time count count t preset short behind genesis.is_state genesis.in_range genesis.no_fault in
    (preset_is, read.0, ap (λ (q : Preset). genesis_of p ((state_codec q).serialize (with_activations t))) preset_is ∙ read.1)) is

-- the made state has the preset
pub made_has_preset : (p : Preset) (version eth1_hash : List ℕ) (time : ℕ) (deposits : List DepositData) (u : PlainState) → IsPreset p → IsGiven version eth1_hash time (length deposits) → AllByRecursion deposit_data_codec.Within deposits
    → initialize_beacon_state_from_eth1 p version eth1_hash time deposits ≡ made u → u.preset ≡ p
unfolding initialize_beacon_state_from_eth1
made_has_preset p version eth1_hash time deposits u preset given within is =
    let count : ℕ = length deposits in
    made_if (λ s. s.preset ≡ p) (process_genesis_deposits (state_before_deposits p version eth1_hash time count) [] deposits) u
    (λ t ends. preset_of p version eth1_hash time count count t (is_behind p version eth1_hash time deposits t preset given.few within ends)) is
