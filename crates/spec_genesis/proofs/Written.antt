-- The writing of a made state reads as this state: it is a genesis file.
use Rattle.std.proofs.Common.{◌≡◌, ◌∙◌, ℕ, ◌+◌, ◌*◌, ◌^◌, ◌≤◌, cond, List, [], ◌∷◌, ◌++◌, length, None, Ok, Err, refl, sym, ap, subst, arith}
use Rattle.std.specs.List.{AllByRecursion, flat_map}
use Rattle.std.proofs.lemmas.Bool.{le-ltb}
use Rattle.std.proofs.lemmas.List.{length-append}
use Rattle.ssz_codec.specs.Codec.{Codec}
use Rattle.ssz_codec.specs.Basic.{uint64}
use Rattle.ssz_codec.specs.Layout.{fixed_length, fixed_parts, variable_parts, joined, OffsetsFit}
use Rattle.ssz_codec.specs.Containers.{layout_of, parts_of}
use Rattle.ssz_codec.specs.Lawful.{FitFields}
use Rattle.ssz_codec.specs.laws.Basic.{uint64_lawful}
use Rattle.ssz_codec.specs.laws.Layout.{fixed_parts_is_long}
use Rattle.bc_preset.specs.declared.presets.Preset.{Preset}
use Rattle.bc_preset.specs.Presets.{IsPreset}
use Rattle.bc_preset.specs.laws.Bounds.{HasPresetBounds}
use Rattle.bc_preset.proofs.Bounds.{preset_bounds}
use Rattle.beacon_types.specs.declared.eth1_data.Eth1Data.{Eth1Data}
use Rattle.beacon_types.specs.declared.validator.Validator.{Validator}
use Rattle.beacon_types.specs.Containers.{validator_codec}
use Rattle.beacon_types.specs.laws.Containers.{validator_lawful}
use Rattle.spec_state.specs.declared.plain.PlainState.{PlainState}
use Rattle.spec_state.specs.declared.fault.GenesisFault.TheVariants as parts
use Rattle.spec_state.specs.States.{state_fields, state_codec}
use Rattle.spec_state.specs.Limits.{IsState, IsInRange}
use Rattle.spec_state.specs.Genesis.{genesis_fault, genesis_of, checked_genesis, sound_genesis}
use Rattle.spec_state.proofs.StateLaws.{state_fields_lawful, state_lawful}
use Rattle.spec_state.specs.Writing.{ListFits, HasWriting}
use Rattle.spec_state.proofs.Writings.{codec_within}
use Rattle.spec_genesis.specs.InitializeBeaconStateFromEth1.{state_before_deposits, genesis_validators, with_activations}
use Rattle.spec_genesis.proofs.Deposits.{IsBehind}
use Rattle.spec_genesis.proofs.MadeState.{behind_of, validators_count}

pub sized : (n : ℕ) {A : Type 0} (c : Codec A) (xs : List A) → ((x : A) → c.Within x → length (c.serialize x) ≡ n) → AllByRecursion c.Within xs → length (flat_map c.serialize xs) ≡ length xs * n
sized n c [] each within = omega arith
sized n c (x ∷ xs) each within = omega (arith, length-append (c.serialize x) (flat_map c.serialize xs), each x within.0, sized n c xs each within.1)

-- a state made of deposits that stand in one file
pub record IsShort (p : Preset) (vs : List Validator) (bs : List ℕ) : Type 0 where
  pub bounds : HasPresetBounds p
  pub few : length vs * 184 ≤ 2 ^ 30
  pub paired : length bs ≡ length vs
  pub validators_long : length (flat_map validator_codec.serialize (genesis_validators p vs bs)) ≡ length vs * 121
  pub balances_long : length (flat_map uint64.serialize bs) ≡ length vs * 8

-- the offsets of its parts fit
whole_fits : (p : Preset) (version eth1_hash : List ℕ) (time : ℕ) (count n : ℕ) (eth1_data : Eth1Data) (vs : List Validator) (bs : List ℕ) → IsShort p vs bs
    → let u = with_activations (behind_of p version eth1_hash time count eth1_data n vs bs) in OffsetsFit (layout_of (state_fields p)) (parts_of (state_fields p) u) (fixed_length (layout_of (state_fields p)))
unfolding with_activations state_before_deposits state_fields OffsetsFit joined fixed_parts variable_parts
whole_fits p version eth1_hash time count n eth1_data vs bs short =
    omega (arith, short.bounds.slots_per_historical_root, short.bounds.epochs_per_historical_vector, short.bounds.epochs_per_slashings_vector, short.few, short.validators_long, short.balances_long)

-- and so it is one that has a writing
written_by : (p : Preset) (version eth1_hash : List ℕ) (time : ℕ) (count n : ℕ) (eth1_data : Eth1Data) (vs : List Validator) (bs : List ℕ) → IsShort p vs bs
    → HasWriting (with_activations (behind_of p version eth1_hash time count eth1_data n vs bs))
unfolding with_activations state_before_deposits ListFits OffsetsFit
written_by p version eth1_hash time count n eth1_data vs bs short = record {
  previous = tt;
  current = tt;
  whole = whole_fits p version eth1_hash time count n eth1_data vs bs short;
}

within_by : (p : Preset) (version eth1_hash : List ℕ) (time : ℕ) (count n : ℕ) (eth1_data : Eth1Data) (vs : List Validator) (bs : List ℕ) → IsShort p vs bs
    → let u = with_activations (behind_of p version eth1_hash time count eth1_data n vs bs) in IsState u → IsInRange u → (state_codec p).Within u
unfolding with_activations state_before_deposits
within_by p version eth1_hash time count n eth1_data vs bs short is r =
    codec_within (with_activations (behind_of p version eth1_hash time count eth1_data n vs bs)) is r (written_by p version eth1_hash time count n eth1_data vs bs short)

-- ---- how long the writing is

state_fit : (p : Preset) (s : PlainState) → (state_codec p).Within s → FitFields (layout_of (state_fields p)) (parts_of (state_fields p) s)
unfolding state_codec
state_fit p s within = (state_fields_lawful p).sizes ((state_fields p).values s) [] [] within.0 tt

written_long : (p : Preset) (s : PlainState) → (state_codec p).Within s → length ((state_codec p).serialize s) ≡ fixed_length (layout_of (state_fields p)) + length (variable_parts (layout_of (state_fields p)) (parts_of (state_fields p) s))
unfolding state_codec joined
written_long p s within =
    let fs = layout_of (state_fields p) in
    let ps = parts_of (state_fields p) s in
    length-append (fixed_parts fs ps (fixed_length fs)) (variable_parts fs ps) ∙ ap (λ (k : ℕ). k + length (variable_parts fs ps)) (fixed_parts_is_long fs ps (fixed_length fs) (state_fit p s within))

-- it has 121 bytes for each validator and 8 for its balance, behind the fixed part
rest_long : (p : Preset) (version eth1_hash : List ℕ) (time : ℕ) (count n : ℕ) (eth1_data : Eth1Data) (vs : List Validator) (bs : List ℕ) → IsShort p vs bs
    → let u = with_activations (behind_of p version eth1_hash time count eth1_data n vs bs) in length (variable_parts (layout_of (state_fields p)) (parts_of (state_fields p) u)) ≡ length vs * 129
unfolding with_activations state_before_deposits state_fields joined fixed_parts variable_parts
rest_long p version eth1_hash time count n eth1_data vs bs short =
    let v = flat_map validator_codec.serialize (genesis_validators p vs bs) in
    let b = flat_map uint64.serialize bs in
    length-append v (b ++ []) ∙ ap (λ (k : ℕ). length v + k) (length-append b []) ∙ omega (arith, short.validators_long, short.balances_long)

fixed_low : (p : Preset) → HasPresetBounds p → fixed_length (layout_of (state_fields p)) ≤ 2687377
unfolding state_fields
fixed_low p bounds = omega (arith, bounds.slots_per_historical_root, bounds.epochs_per_historical_vector, bounds.epochs_per_slashings_vector)

-- ---- what a genesis file of it is

read_again : (p : Preset) (s : PlainState) (bytes : List ℕ) → (state_codec p).Within s → genesis_fault s ≡ None → bytes ≡ (state_codec p).serialize s → length bytes ≤ 2 ^ 30 → genesis_of p bytes ≡ Ok s
unfolding genesis_of
read_again p s bytes within none is low =
    ap (λ b. cond b (Err parts.TooLong) (checked_genesis ((state_codec p).deserialize bytes))) (le-ltb 1073741824 (length bytes) low)
    ∙ ap checked_genesis (ap (state_codec p).deserialize is ∙ (state_lawful p).complete s within)
    ∙ ap (sound_genesis s) none

short_of : (p : Preset) (vs : List Validator) (bs : List ℕ) → HasPresetBounds p → length vs * 184 ≤ 2 ^ 30 → length bs ≡ length vs → AllByRecursion validator_codec.Within (genesis_validators p vs bs) → AllByRecursion uint64.Within bs → IsShort p vs bs
short_of p vs bs bounds few paired validators balances = record {
  bounds = bounds;
  few = few;
  paired = paired;
  validators_long = sized 121 validator_codec (genesis_validators p vs bs) (λ v w. validator_lawful.size v w) validators ∙ ap (λ (k : ℕ). k * 121) (validators_count p vs bs);
  balances_long = sized 8 uint64 bs (λ v w. uint64_lawful.size v w) balances ∙ ap (λ (k : ℕ). k * 8) paired;
}

made_by : (p : Preset) (version eth1_hash : List ℕ) (time : ℕ) (count n : ℕ) (eth1_data : Eth1Data) (vs : List Validator) (bs : List ℕ) → IsShort p vs bs
    → let u = with_activations (behind_of p version eth1_hash time count eth1_data n vs bs) in IsState u → IsInRange u → genesis_fault u ≡ None
    → HasWriting u × (genesis_of p ((state_codec p).serialize u) ≡ Ok u)
made_by p version eth1_hash time count n eth1_data vs bs short is r none =
    let u : PlainState = with_activations (behind_of p version eth1_hash time count eth1_data n vs bs) in
    let within = within_by p version eth1_hash time count n eth1_data vs bs short is r in
    let long : length ((state_codec p).serialize u) ≡ fixed_length (layout_of (state_fields p)) + length vs * 129 =
    written_long p u within ∙ ap (λ (k : ℕ). fixed_length (layout_of (state_fields p)) + k) (rest_long p version eth1_hash time count n eth1_data vs bs short) in
    (written_by p version eth1_hash time count n eth1_data vs bs short, read_again p u ((state_codec p).serialize u) within none refl (omega (arith, long, fixed_low p short.bounds, short.few)))

pub made_is_read : (p : Preset) (version eth1_hash : List ℕ) (time : ℕ) (count n : ℕ) (t : PlainState) → IsPreset p → n * 184 ≤ 2 ^ 30 → IsBehind (state_before_deposits p version eth1_hash time count) n t
    → IsState (with_activations t) → IsInRange (with_activations t) → genesis_fault (with_activations t) ≡ None
    → HasWriting (with_activations t) × (genesis_of p ((state_codec p).serialize (with_activations t)) ≡ Ok (with_activations t))
unfolding with_activations state_before_deposits
made_is_read p version eth1_hash time count n t preset short behind =
    subst (λ (x : PlainState). IsState (with_activations x) → IsInRange (with_activations x) → genesis_fault (with_activations x) ≡ None
    → HasWriting (with_activations x) × (genesis_of p ((state_codec p).serialize (with_activations x)) ≡ Ok (with_activations x))) (sym behind.same)
    (λ is r none. made_by p version eth1_hash time count n t.eth1_data t.validators t.balances
    (short_of p t.validators t.balances (preset_bounds p preset) (let few = behind.few in omega arith) behind.paired (validators_of is r) behind.balances) is r none)
  where
    validators_of : IsState (with_activations (behind_of p version eth1_hash time count t.eth1_data n t.validators t.balances)) → IsInRange (with_activations (behind_of p version eth1_hash time count t.eth1_data n t.validators t.balances)) → AllByRecursion validator_codec.Within (genesis_validators p t.validators t.balances)
    validators_of is r = r.validators
