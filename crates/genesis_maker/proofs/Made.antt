-- What is made by the deposits is what the published function makes, and its stops are those of amounts that don't fit.
use Rattle.std.proofs.Common.{◌≡◌, ◌∙◌, ℕ, ◌*◌, ◌≤◌, ◌^◌, List, [], length, Option, Some, None, Result, Ok, Err, refl, sym, ap, ap₂, subst}
use Rattle.std.specs.Prelude.{IfOk}
use Rattle.std.specs.List.{AllByRecursion}
use Rattle.bc_words.specs.declared.refusal.Refusal.{Refusal}
use Rattle.bc_preset.specs.declared.presets.Preset.{Preset}
use Rattle.bc_preset.specs.Presets.{IsPreset}
use Rattle.beacon_types.specs.declared.deposit_data.DepositData.{DepositData}
use Rattle.beacon_types.specs.Containers.{deposit_data_codec}
use Rattle.spec_state.specs.declared.plain.PlainState.{PlainState}
use Rattle.spec_state.specs.Writing.{HasWriting}
use Rattle.spec_genesis.specs.InitializeBeaconStateFromEth1.{Initialized, made, refused_at, limited_at, activated, process_genesis_deposits, state_before_deposits, initialize_beacon_state_from_eth1}
use Rattle.spec_genesis.specs.MadeGenesis.{IsGenesis, EndsBy}
use Rattle.spec_genesis.specs.Overflows.{first_overflow}
use Rattle.spec_genesis.proofs.MadeState.{IsGiven}
use Rattle.spec_genesis.proofs.Genesis.{genesis_of_deposits, made_has_preset, made_is_written}
use Rattle.genesis_maker.specs.declared.stops.MakeStop.{MakeStop}
use Rattle.genesis_maker.specs.declared.stops.MakeStop.TheVariants as makes
use Rattle.genesis_maker.specs.inside.Making.{GivesGenesis, MakesBy, OverflowsBy}

-- from the state before the deposits
started : (r : Result PlainState MakeStop) (s : PlainState) (p : Preset) (version eth1_hash : List ℕ) (time count : ℕ) (deposits : List DepositData) → s ≡ state_before_deposits p version eth1_hash time count → count ≡ length deposits
    → MakesBy r (activated (process_genesis_deposits s [] deposits)) → MakesBy r (initialize_beacon_state_from_eth1 p version eth1_hash time deposits)
unfolding initialize_beacon_state_from_eth1
started r s p version eth1_hash time count deposits is few makes =
    subst (λ (x : PlainState). MakesBy r (activated (process_genesis_deposits x [] deposits))) (is ∙ ap (state_before_deposits p version eth1_hash time) few) makes

gives_by : (r : Result PlainState MakeStop) (end : Initialized) (o : Option ℕ) → EndsBy end o → MakesBy r end → GivesGenesis r end
gives_by (Ok s) end o ends is = is
gives_by (Err makes.NoMemory) end o ends is = tt
gives_by (Err (makes.Overflow i)) (made s) o ends is = absurd is
gives_by (Err (makes.Overflow i)) (refused_at at why) None ends is = absurd ends
gives_by (Err (makes.Overflow i)) (refused_at at why) (Some first) ends is = ap₂ (λ (n : ℕ) (w : Refusal). refused_at n w) is ends.1
gives_by (Err (makes.Overflow i)) (limited_at at bound) o ends is = absurd ends

none_of : (s : PlainState) (o : Option ℕ) → EndsBy (made s) o → (o ≡ None) × IsGenesis s
none_of s None genesis = (refl, genesis)
none_of s (Some i) ends = absurd ends

overflows_by : (r : Result PlainState MakeStop) (end : Initialized) (o : Option ℕ) → EndsBy end o → MakesBy r end → OverflowsBy r o
overflows_by (Ok s) end o ends is = (none_of s o (subst (λ (e : Initialized). EndsBy e o) is ends)).0
overflows_by (Err makes.NoMemory) end o ends is = tt
overflows_by (Err (makes.Overflow i)) (made s) o ends is = absurd is
overflows_by (Err (makes.Overflow i)) (refused_at at why) None ends is = absurd ends
overflows_by (Err (makes.Overflow i)) (refused_at at why) (Some first) ends is = ap (λ (n : ℕ). Some n) (sym ends.0 ∙ is)
overflows_by (Err (makes.Overflow i)) (limited_at at bound) o ends is = absurd ends

genesis_by : (r : Result PlainState MakeStop) (end : Initialized) (o : Option ℕ) → EndsBy end o → MakesBy r end → IfOk r IsGenesis
genesis_by (Ok s) end o ends is = (none_of s o (subst (λ (e : Initialized). EndsBy e o) is ends)).1
genesis_by (Err stop) end o ends is = tt

if_made : (P : PlainState → Type 0) (r : Result PlainState MakeStop) (end : Initialized) → ((s : PlainState) → end ≡ made s → P s) → MakesBy r end → IfOk r P
if_made P (Ok s) end each is = each s is
if_made P (Err stop) end each is = tt

-- what an answer of the making is
pub record IsMade (r : Result PlainState MakeStop) (p : Preset) (version eth1_hash : List ℕ) (time : ℕ) (deposits : List DepositData) : Type 0 where
  pub gives : GivesGenesis r (initialize_beacon_state_from_eth1 p version eth1_hash time deposits)
  pub overflows : OverflowsBy r (first_overflow [] deposits)
  pub genesis : IfOk r IsGenesis
  pub preset : IfOk r (λ s. s.preset ≡ p)
  pub writing : length deposits * 184 ≤ 2 ^ 30 → IfOk r HasWriting

pub is_made : (r : Result PlainState MakeStop) (s : PlainState) (p : Preset) (version eth1_hash : List ℕ) (time count : ℕ) (deposits : List DepositData) → IsPreset p → IsGiven version eth1_hash time (length deposits) → AllByRecursion deposit_data_codec.Within deposits
    → s ≡ state_before_deposits p version eth1_hash time count → count ≡ length deposits → MakesBy r (activated (process_genesis_deposits s [] deposits)) → IsMade r p version eth1_hash time deposits
is_made r s p version eth1_hash time count deposits preset given within is few makes =
    let end : Initialized = initialize_beacon_state_from_eth1 p version eth1_hash time deposits in
    let by : MakesBy r end = started r s p version eth1_hash time count deposits is few makes in
    let ends : EndsBy end (first_overflow [] deposits) = genesis_of_deposits p version eth1_hash time deposits preset given within in
    record {
      gives = gives_by r end (first_overflow [] deposits) ends by;
      overflows = overflows_by r end (first_overflow [] deposits) ends by;
      genesis = genesis_by r end (first_overflow [] deposits) ends by;
      preset = if_made (λ s. s.preset ≡ p) r end (λ u made_is. made_has_preset p version eth1_hash time deposits u preset given within made_is) by;
      writing = λ short. if_made HasWriting r end (λ u made_is. (made_is_written p version eth1_hash time deposits u preset given short within made_is).1) by;
    }
