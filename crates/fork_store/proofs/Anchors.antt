-- An anchor by its parts: what holds of a state and a block with which nothing is wrong, and that a genesis with its block is one.
use Rattle.std.proofs.Common.{◌≡◌, ◌≤◌, ◌<◌, ◌+◌, ◌*◌, ◌/◌, ◌^◌, ℕ, Bool, true, false, cond, not, nat_lt, List, [], ◌∷◌, Option, None, Some, refl, sym, ap, arith, ◌∙◌}
use Rattle.std.specs.Prelude.{◌==◌}
use Rattle.std.specs.Cmp.Lexicographic.{bytes_decides}
use Rattle.std.proofs.lemmas.Bool.{eqb-true, eq-eqb, ltb-true, lt-ltb}
use Rattle.std.proofs.Math.Nat.{div-mul-le_self}
use Rattle.bc_preset.specs.declared.configuration.ConfigValues.{ConfigValues}
use Rattle.bc_preset.specs.declared.presets.Preset.{Preset}
use Rattle.beacon_types.specs.Equality.{same_root}
use Rattle.beacon_types.specs.Blocks.{block_codec}
use Rattle.beacon_types.specs.declared.block.BeaconBlock.{BeaconBlock}
use Rattle.spec_state.specs.declared.plain.PlainState.{PlainState}
use Rattle.spec_state.specs.Misc.{compute_start_slot_at_epoch}
use Rattle.spec_state.specs.Accessors.{get_current_epoch}
use Rattle.spec_state.specs.Genesis.{genesis_fault, is_genesis_header, header_root_of, zero_root}
use Rattle.spec_state.specs.Soundness.{IsSound}
use Rattle.spec_state.specs.States.{state_codec}
use Rattle.spec_state.proofs.Genesis.{genesis_sound}
use Rattle.spec_transition.specs.StateTransition.{IsLatest}
use Rattle.spec_fork_choice.specs.Anchor.{anchor_fault, time_of_slot}
use Rattle.spec_fork_choice.specs.GetForkchoiceStore.{genesis_block, genesis_store, get_forkchoice_store}
use Rattle.spec_fork_choice.specs.OnEvent.{first_clash, genesis_clash, open_at, open_store, open_unless}
use Rattle.spec_fork_choice.specs.Soundness.{is_sound}
use Rattle.spec_fork_choice.specs.Store.{KeptBlock, first_slot}
use Rattle.spec_fork_choice.proofs.Soundness.{soundness_is_tested}
use Rattle.fork_store.specs.Stores.{IsRootOf, IsKept, first_epoch}
use Rattle.fork_store.proofs.Chains.{passed}
use Rattle.fork_store.proofs.Steps.{no_clash, genesis_header, genesis_latest}

-- what holds of an anchor
pub record IsAnchor (config : ConfigValues) (state : PlainState) (block : BeaconBlock) : Type 0 where
  pub start : compute_start_slot_at_epoch state.preset (get_current_epoch state) ≡ state.slot
  pub slot : state.slot ≡ block.slot
  pub sound : IsSound state
  pub state_root : (state_codec state.preset).hash_tree_root state ≡ block.state_root
  pub header : IsLatest state block
  pub time : time_of_slot config state < 2 ^ 64

pub anchor_parts : (config : ConfigValues) (state : PlainState) (block : BeaconBlock) → anchor_fault config state block ≡ None → IsAnchor config state block
unfolding anchor_fault IsLatest
anchor_parts config state block good =
    let start = passed (compute_start_slot_at_epoch state.preset (get_current_epoch state) == state.slot) _ _ good in
    let slot = passed (state.slot == block.slot) _ _ start.1 in
    let sound = passed (is_sound state) _ _ slot.1 in
    let root = passed (same_root ((state_codec state.preset).hash_tree_root state) block.state_root) _ _ sound.1 in
    let header = passed (same_root (header_root_of state) (block_codec.hash_tree_root block)) _ _ root.1 in
    let time = passed (nat_lt (time_of_slot config state) (2 ^ 64)) _ _ header.1 in
    record {
      start = eqb-true _ _ start.0;
      slot = eqb-true _ _ slot.0;
      sound = (soundness_is_tested state).0 sound.0;
      state_root = (bytes_decides _ _).0 root.0;
      header = (bytes_decides _ _).0 header.0;
      time = ltb-true _ _ time.0;
    }

-- the slot's time fits, and so do the seconds behind genesis
pub anchor_time : (config : ConfigValues) (state : PlainState) (block : BeaconBlock) → anchor_fault config state block ≡ None → state.genesis_time + config.seconds_per_slot * state.slot < 2 ^ 64
unfolding time_of_slot
anchor_time config state block good = (anchor_parts config state block good).time

pub anchor_seconds : (config : ConfigValues) (state : PlainState) (block : BeaconBlock) → anchor_fault config state block ≡ None → config.seconds_per_slot * state.slot < 2 ^ 64
anchor_seconds config state block good = let low = anchor_time config state block good in omega (arith, low)

pub ruleset timing = (anchor_time, anchor_seconds)

-- the epoch begins at a slot of 64 bits
pub anchor_low : (config : ConfigValues) (state : PlainState) (block : BeaconBlock) → anchor_fault config state block ≡ None → state.preset ≡ config.preset → block.slot < 2 ^ 64
    → compute_start_slot_at_epoch config.preset (get_current_epoch state) < 2 ^ 64
anchor_low config state block good preset low =
    let parts = anchor_parts config state block good in
    let start : compute_start_slot_at_epoch config.preset (get_current_epoch state) ≡ state.slot =
    ap (λ (p : Preset). compute_start_slot_at_epoch p (get_current_epoch state)) (sym preset) ∙ parts.start in
    omega (arith, start, parts.slot, low)

-- the first block of a store whose roots don't clash, with its state, may be kept
pub first_is_kept : (config : ConfigValues) (state : PlainState) (block : BeaconBlock) (root : List ℕ) → anchor_fault config state block ≡ None → first_clash block ≡ None → block.slot < 2 ^ 64 → IsRootOf root block
    → IsKept (record { root = root; block = block; state = state })
unfolding first_clash
first_is_kept config state block root good none low is =
    let parts = anchor_parts config state block good in
    record {
      root = is;
      sound = parts.sound;
      slot = parts.slot;
      latest = parts.header;
      low = low;
      some = ap (λ (r : List ℕ). same_root r zero_root) parts.state_root ∙ no_clash [] _ _ _ none;
    }

-- the first slot of the one block is that of its epoch
pub first_begins : (config : ConfigValues) (kept : KeptBlock) → anchor_fault config kept.state kept.block ≡ None → kept.state.preset ≡ config.preset
    → compute_start_slot_at_epoch config.preset (first_epoch config.preset (kept ∷ [])) ≡ first_slot (kept ∷ [])
unfolding first_epoch first_slot get_current_epoch
first_begins config kept good preset =
    let parts = anchor_parts config kept.state kept.block good in
    ap (λ (p : Preset). compute_start_slot_at_epoch p (kept.block.slot / p.slots_per_epoch)) (sym preset)
    ∙ ap (λ (n : ℕ). compute_start_slot_at_epoch kept.state.preset (n / kept.state.preset.slots_per_epoch)) (sym parts.slot)
    ∙ parts.start
    ∙ parts.slot

pub first_is_late : (config : ConfigValues) (kept : KeptBlock) → anchor_fault config kept.state kept.block ≡ None → kept.state.preset ≡ config.preset
    → first_epoch config.preset (kept ∷ []) ≤ get_current_epoch kept.state
unfolding first_epoch first_slot get_current_epoch
first_is_late config kept good preset =
    let parts = anchor_parts config kept.state kept.block good in
    let same : kept.block.slot / config.preset.slots_per_epoch ≡ kept.state.slot / kept.state.preset.slots_per_epoch =
    ap (λ (p : Preset). kept.block.slot / p.slots_per_epoch) (sym preset) ∙ ap (λ (n : ℕ). n / kept.state.preset.slots_per_epoch) (sym parts.slot) in
    omega (arith, same)

-- ---- genesis

none_wrong : {A : Type 0} (b : Bool) (fault : A) (rest : Option A) → b ≡ true → rest ≡ None → cond (not b) (Some fault) rest ≡ None
none_wrong true fault rest h k = k
none_wrong false fault rest h k = absurd cc

zero_start : (n slot : ℕ) → slot ≡ 0 → slot / n * n ≡ slot
zero_start n slot is = omega (arith, is, div-mul-le_self slot n)

-- a genesis with its block is an anchor
pub genesis_is_anchor : (config : ConfigValues) (s : PlainState) → genesis_fault s ≡ None → s.genesis_time < 2 ^ 64 → anchor_fault config s (genesis_block s) ≡ None
unfolding anchor_fault genesis_fault genesis_block get_current_epoch time_of_slot IsLatest
genesis_is_anchor config s good low =
    let slot = passed (s.slot == 0) _ _ good in
    let state_root : List ℕ = (state_codec s.preset).hash_tree_root s in
    let at : s.slot ≡ 0 = eqb-true _ _ slot.0 in
    let time : config.seconds_per_slot * s.slot ≡ 0 = ap (λ n. config.seconds_per_slot * n) at ∙ omega arith in
    none_wrong (compute_start_slot_at_epoch s.preset (get_current_epoch s) == s.slot) _ _ (eq-eqb _ _ (zero_start s.preset.slots_per_epoch s.slot at))
    (none_wrong (s.slot == 0) _ _ slot.0
    (none_wrong (is_sound s) _ _ ((soundness_is_tested s).1 (genesis_sound s good))
    (none_wrong (same_root state_root state_root) _ _ ((bytes_decides state_root state_root).1 refl)
    (none_wrong (same_root (header_root_of s) (block_codec.hash_tree_root (genesis_block s))) _ _
    ((bytes_decides (header_root_of s) (block_codec.hash_tree_root (genesis_block s))).1 (genesis_latest s (genesis_header s (passed (is_genesis_header s.latest_block_header) _ _ slot.1).0)))
    (none_wrong (nat_lt (time_of_slot config s) (2 ^ 64)) _ _ (lt-ltb _ _ (omega (arith, low, time))) refl)))))

pub ruleset at_genesis = (genesis_is_anchor)

-- and the store opens at it as at genesis
pub opens_alike : (config : ConfigValues) (genesis : PlainState) (block : BeaconBlock) → block ≡ genesis_block genesis → open_at config genesis block ≡ open_store config genesis
unfolding open_at open_store genesis_clash genesis_store
opens_alike config genesis block is = ap (λ (b : BeaconBlock). open_unless (first_clash b) (get_forkchoice_store config genesis b)) is
