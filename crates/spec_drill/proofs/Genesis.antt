-- The maker's genesis: it passes the genesis check, is calm, and a store opens on it.
use Rattle.std.proofs.Common.{◌≡◌, ◌∙◌, ℕ, zero, suc, ◌+◌, ◌*◌, ◌/◌, ◌≤◌, Bool, true, false, ◌==◌, not, List, [], ◌∷◌, map, replicate, Option, Some, None, if◌then◌else◌, refl, sym, ap, subst, inl, inr, arith}
use Rattle.spec_drill.specs.Plan.{Plan, IsPlan, last_slot, epochs_of}
use Rattle.spec_drill.specs.MakeGenesis.{made_validator, made_genesis, genesis_of_plan}
use Rattle.spec_drill.specs.Make.{EndsWell, made, time_of}
use Rattle.spec_drill.specs.Taken.{AreTakenAsWritten}
use Rattle.spec_drill.specs.inside.Calm.{IsFull, IsNear, IsCalm}
use Rattle.spec_drill.specs.inside.OnChain.{IsLinked, stands_on}
use Rattle.spec_drill.specs.inside.Handled.{AreTaken}
use Rattle.std.specs.List.{AllByRecursion, range_with_len, list_all}
use Rattle.std.proofs.lemmas.Bool.{le-ltb}
use Rattle.std.proofs.Math.Nat.{div-le_self, mul-le-mul_right}
use Rattle.bc_words.specs.declared.store_stop.ClashKind.TheVariants.{ZeroBlock, ZeroState}
use Rattle.bc_preset.specs.Presets.{IsPreset}
use Rattle.bc_preset.specs.declared.presets.Preset.{Preset}
use Rattle.bc_preset.proofs.Bounds.{preset_bounds}
use Rattle.beacon_types.specs.Equality.{same_root}
use Rattle.beacon_types.specs.declared.validator.Validator.{Validator}
use Rattle.beacon_types.specs.Blocks.{block_codec, empty_body_root}
use Rattle.spec_state.specs.declared.plain.PlainState.{PlainState}
use Rattle.spec_state.specs.declared.fault.GenesisFault.{GenesisFault}
use Rattle.spec_state.specs.declared.fault.ValidatorFault.TheVariants as faults
use Rattle.spec_state.specs.declared.fault.GenesisFault.TheVariants as parts
use Rattle.spec_state.specs.States.{state_codec}
use Rattle.spec_state.specs.Soundness.{IsSound}
use Rattle.spec_state.specs.Accessors.{get_current_epoch, get_previous_epoch}
use Rattle.spec_state.specs.Genesis.{genesis_fault, validators_fault, validator_fault, or_later, zero_root, block_header_of, header_root_of}
use Rattle.spec_blocks.proofs.Done.{chosen}
use Rattle.spec_epochs.specs.WeighJustificationAndFinalization.{justification_of}
use Rattle.spec_transition.proofs.HeaderChecks.{Filled, header_fills}
use Rattle.spec_fork_choice.specs.Store.{KeptBlock, block_of}
use Rattle.spec_fork_choice.specs.GetForkchoiceStore.{genesis_block, genesis_store}
use Rattle.spec_fork_choice.specs.Clash.{clash_with, clash_of}
use Rattle.spec_fork_choice.proofs.Genesis.{genesis_store_is}
use Rattle.spec_fork_choice.specs.OnEvent.{first_clash, genesis_clash}
use Rattle.spec_drill.proofs.AsWritten.{taken_as_written}
use Rattle.spec_drill.proofs.Committees.{length_replicate}
use Rattle.spec_drill.proofs.Block.{root_is_same}
use Rattle.spec_state.proofs.Digests.{zero_root_within}
use Rattle.spec_drill.proofs.Bytes.{block_root_within}
use Rattle.spec_drill.proofs.Walks.{root_here}
use Rattle.spec_drill.proofs.Making.{GoesOn, IsDrilling, made_ends, made_taken}

pub all_replicated : {A : Type 0} (P : A → Type 0) (k : ℕ) (x : A) → P x → AllByRecursion P (replicate k x)
all_replicated P zero x h = tt
all_replicated P (suc k) x h = (h, all_replicated P k x h)

zeros_pass : (k : ℕ) → list_all (λ n. n == 0) (replicate k 0) ≡ true
zeros_pass zero = refl
zeros_pass (suc k) = zeros_pass k

pub all_made : (P : Validator → Type 0) (number start k : ℕ) → ((i : ℕ) → P (made_validator number i)) → AllByRecursion P (map (made_validator number) (range_with_len start k))
all_made P number start zero each = tt
all_made P number start (suc k) each = (each start, all_made P number (start + 1) k each)

made_full : (number i : ℕ) → IsFull (made_validator number i)
unfolding made_validator
made_full number i = record { effective = refl; slashed = refl; eligibility = refl; activation = refl; exit = refl }

-- ---- the genesis check

no_fault : (most number i : ℕ) → most ≡ 32_000_000_000 → validator_fault most (made_validator number i) ≡ None
unfolding validator_fault made_validator
no_fault most number i e = ap (λ b. if b then Some faults.EffectiveBalance else None) (le-ltb most 32_000_000_000 (omega arith))

no_faults : (most number start k i : ℕ) → most ≡ 32_000_000_000 → validators_fault most i (map (made_validator number) (range_with_len start k)) ≡ None
unfolding validators_fault
no_faults most number start zero i e = refl
no_faults most number start (suc k) i e =
    ap (λ f. or_later i f (validators_fault most (i + 1) (map (made_validator number) (range_with_len (start + 1) k)))) (no_fault most number start e) ∙ no_faults most number (start + 1) k (i + 1) e

step : {A : Type 0} (b : Bool) (fault : A) (rest : Option A) → b ≡ true → rest ≡ None → (if not b then Some fault else rest) ≡ None
step b fault rest h k = ap (λ b. if not b then Some fault else rest) h ∙ k

pub made_genesis_passes : (preset : Preset) (number : ℕ) → IsPreset preset → genesis_fault (made_genesis preset number) ≡ None
unfolding genesis_fault made_genesis
made_genesis_passes preset number is =
    let faults_of : Option GenesisFault = validators_fault preset.max_effective_balance 0 (map (made_validator number) (range_with_len 0 64)) in
    step (same_root empty_body_root empty_body_root) parts.Header (if not (list_all (λ n. n == 0) (replicate preset.epochs_per_slashings_vector 0)) then Some parts.Slashings else faults_of) (root_is_same empty_body_root empty_body_root refl)
    (step (list_all (λ n. n == 0) (replicate preset.epochs_per_slashings_vector 0)) parts.Slashings faults_of (zeros_pass preset.epochs_per_slashings_vector)
    (no_faults preset.max_effective_balance number 0 64 0 ((preset_bounds preset is).max_effective_balance)))

-- ---- the state

made_genesis_sound : (preset : Preset) (number : ℕ) → IsSound (made_genesis preset number)
unfolding made_genesis get_previous_epoch get_current_epoch
made_genesis_sound preset number = record {
  balances = refl;
  header = omega arith;
  previous_justified = omega arith;
  current_justified = omega arith;
  finalized = omega arith;
  previous_attestations = tt;
  current_attestations = tt;
  none_before = λ h. refl;
}

pub made_genesis_calm : (preset : Preset) (number : ℕ) → IsPreset preset → IsCalm 1 (made_genesis preset number)
unfolding made_genesis get_current_epoch
made_genesis_calm preset number is =
    let first : 0 / preset.slots_per_epoch ≡ 0 = omega (arith, div-le_self 0 preset.slots_per_epoch) in
    record {
      preset = is;
      sound = made_genesis_sound preset number;
      early = omega arith;
      registry = record { many = refl; all = all_made IsFull number 0 64 (made_full number) };
      balances = record { many = refl; all = all_replicated (IsNear (0 / preset.slots_per_epoch)) 64 32_000_000_000 (record { least = omega arith; most = omega arith }) };
      roomy = record { votes = omega arith; previous = omega arith; current = omega arith; historical = omega arith };
      quiet = record { eth1 = refl; index = refl; slashings = all_replicated (λ n. n ≡ 0) preset.epochs_per_slashings_vector 0 refl };
    }

-- ---- the store

-- the genesis block is the latest one
latest_at_genesis : (preset : Preset) (number : ℕ) → header_root_of (made_genesis preset number) ≡ block_codec.hash_tree_root (genesis_block (made_genesis preset number))
unfolding header_root_of block_header_of genesis_block made_genesis empty_body_root
latest_at_genesis preset number = refl

no_clash : (s : PlainState) → genesis_clash s ≡ None → same_root ((state_codec s.preset).hash_tree_root s) zero_root ≡ false
unfolding genesis_clash first_clash genesis_block clash_of clash_with
no_clash s none = elim (chosen (same_root (block_codec.hash_tree_root (genesis_block s)) zero_root) (Some ZeroBlock) _ _ none) [
  | inl zeros ↦ absurd (let e = zeros.1 in cc)
  | inr other ↦ elim (chosen (same_root ((state_codec s.preset).hash_tree_root s) zero_root) (Some ZeroState) _ _ other.1) [
    | inl zeros ↦ absurd (let e = zeros.1 in cc)
    | inr some ↦ some.0
  ]
]

-- the kept genesis block
abbrev pub genesis_kept : PlainState → KeptBlock
genesis_kept s = record { root = block_codec.hash_tree_root (genesis_block s); block = genesis_block s; state = s }

found_itself : (k : KeptBlock) → block_of (k ∷ []) k.root ≡ Some k
unfolding block_of
found_itself k = ap (λ (b : Bool). if b then Some k else None) (root_is_same k.root k.root refl)

found_only : (k j : KeptBlock) (root : List ℕ) → block_of (k ∷ []) root ≡ Some j → k ≡ j
unfolding block_of
found_only k j root e = either (same_root k.root root) e where
  either : (b : Bool) → (if b then Some k else None) ≡ Some j → k ≡ j
  either true e = cc
  either false e = absurd cc

told_nothing : (stands : ℕ → List ℕ → Type 0) (root : List ℕ) (preset : Preset) (number : ℕ) → IsPreset preset → header_root_of (made_genesis preset number) ≡ root → Filled (block_header_of (made_genesis preset number)) → IsLinked stands root (made_genesis preset number)
unfolding made_genesis justification_of
told_nothing stands root preset number is header filled = record {
  told = record { roots = length_replicate preset.slots_per_historical_root zero_root; told = λ k less near. absurd (omega arith) };
  header = header;
  filled = filled;
  checkpoints = record { previous = record { there = λ some. absurd (omega arith); root = zero_root_within }; current = record { there = λ some. absurd (omega arith); root = zero_root_within }; finalized = record { there = λ some. absurd (omega arith); root = zero_root_within } };
}

pub slot_zero : (preset : Preset) (number : ℕ) → ((made_genesis preset number).slot ≡ 0) × ((made_genesis preset number).genesis_time ≡ 1000) × ((made_genesis preset number).preset ≡ preset)
unfolding made_genesis
slot_zero preset number = (refl, refl, refl)

block_zero : (s : PlainState) → (genesis_block s).slot ≡ 0
unfolding genesis_block
block_zero s = refl

few_epochs : (which : Option ℕ) → epochs_of which ≤ 32
few_epochs None = omega arith
few_epochs (Some which) = omega arith

pub last_slot_low : (plan : Plan) → last_slot plan ≤ 32 * plan.config.preset.slots_per_epoch
unfolding last_slot
last_slot_low plan = mul-le-mul_right plan.config.preset.slots_per_epoch (few_epochs plan.which)

module _ (plan : Plan) (ok : IsPlan plan) where
  abbrev s : PlainState
  s = made_genesis plan.config.preset plan.number

  last_low : last_slot plan ≤ 32 * plan.config.preset.slots_per_epoch
  unfolding last_slot
  last_low = let h = few_epochs plan.which in mul-le-mul_right plan.config.preset.slots_per_epoch h

  pub goes : GoesOn plan 0 s
  goes =
      let zeros = slot_zero plan.config.preset plan.number in
      let at : s.slot ≡ 0 = zeros.0 in
      record { calm = made_genesis_calm plan.config.preset plan.number ok.config.preset; low = omega arith; preset = zeros.2 }

  -- and they end with the last slot, or with the proposer's limit
  pub made_ends_well : EndsWell (made plan).end
  unfolding made genesis_of_plan
  made_ends_well = made_ends plan ok (last_slot plan) 0 s goes (let l = last_low in omega arith)

  module _ (none : genesis_clash (genesis_of_plan plan) ≡ None) where
    no_clash_here : genesis_clash s ≡ None
    unfolding genesis_of_plan
    no_clash_here = none

    opens : IsDrilling plan ok (genesis_kept s) [] 0 (genesis_store plan.config s)
    unfolding time_of
    opens =
        let is = ok.config.preset in
        let k : KeptBlock = genesis_kept s in
        let zeros = slot_zero plan.config.preset plan.number in
        let at : s.slot ≡ 0 = zeros.0 in
        let begins : s.genesis_time ≡ 1000 = zeros.1 in
        let low = block_zero s in
        let calm = made_genesis_calm plan.config.preset plan.number is in
        subst (IsDrilling plan ok k [] 0) (sym (genesis_store_is plan.config s at)) (record {
          on = record {
            has = record { config_is = refl; few = omega arith; found = (found_itself k, tt); joined = low; calm = (record { root = block_root_within (genesis_block s); calm = calm; slot = at ∙ sym low; preset = zeros.2 }, tt) };
            only = λ root j e. let h = ap (λ (k : KeptBlock). k.block.slot) (found_only k j root e) in omega arith;
            genesis_time = begins;
            finalized = sym (root_here k [] (0 * plan.config.preset.slots_per_epoch) (omega arith));
            final_low = omega arith;
            linked = told_nothing (stands_on (k ∷ [])) k.root plan.config.preset plan.number is (latest_at_genesis plan.config.preset plan.number) (header_fills s (no_clash s no_clash_here));
          };
          time = begins ∙ (let e : 1000 ≡ 1000 + 0 * plan.config.seconds_per_slot = omega arith in e);
        })

    -- each event of a plan is accepted behind those before it, until one clashes
    pub made_is_accepted : AreTaken (genesis_store plan.config (genesis_of_plan plan)) (made plan).events
    unfolding made genesis_of_plan
    made_is_accepted = made_taken plan ok (last_slot plan) 0 (genesis_kept s) [] (genesis_store plan.config s) opens (let e = block_zero s in omega arith) (let l = last_low in omega arith)

    -- the same of what is written
    pub made_is_accepted_as_written : AreTakenAsWritten (genesis_store plan.config (genesis_of_plan plan)) (made plan).events
    made_is_accepted_as_written = taken_as_written (made plan).events (genesis_store plan.config (genesis_of_plan plan)) made_is_accepted
