-- The published checks of a block's slot and of its parent root hold of every block that the state transition takes.
use Rattle.std.proofs.Common.{◌≡◌, ◌∙◌, ℕ, zero, suc, ◌+◌, ◌-◌, ◌/◌, ◌<◌, ◌≤◌, ◌^◌, Bool, true, false, not, nat_lt, List, [], if◌then◌else◌, refl, sym, ap, subst, arith, inl, inr}
use Rattle.std.proofs.Math.Nat.{mul-div-le, mul-le-mul_left, mul_comm}
use Rattle.std.proofs.lemmas.Bool.{ltb-true, not-false, false≢true}
use Rattle.bc_words.specs.Outcome.{Outcome, done, refused, limited, each_from}
use Rattle.bc_preset.specs.declared.presets.Preset.{Preset}
use Rattle.bc_preset.specs.declared.configuration.ConfigValues.{ConfigValues}
use Rattle.bc_preset.specs.laws.Bounds.{HasPresetBounds}
use Rattle.bc_preset.specs.Presets.{IsPreset}
use Rattle.bc_preset.proofs.Bounds.{preset_bounds}
use Rattle.beacon_types.specs.Equality.{same_root}
use Rattle.beacon_types.specs.Containers.{block_header_codec}
use Rattle.beacon_types.specs.declared.block_header.BeaconBlockHeader.{BeaconBlockHeader}
use Rattle.spec_state.specs.declared.plain.PlainState.{PlainState}
use Rattle.spec_state.specs.Constants.{far_future_epoch, max_slots}
use Rattle.spec_state.specs.States.{state_codec}
use Rattle.spec_state.specs.Genesis.{block_header_of, header_root_of, zero_root}
use Rattle.spec_state.specs.Soundness.{IsSound}
use Rattle.spec_blocks.proofs.Done.{on_the_way, chosen, same_value}
use Rattle.spec_epochs.specs.ProcessEpoch.{process_epoch}
use Rattle.spec_epochs.proofs.Fixed.{epoch_preset, epoch_slot}
use Rattle.spec_epochs.proofs.SoundEpoch.{epoch_header}
use Rattle.spec_transition.specs.StateTransition.{IsNext}
use Rattle.spec_transition.proofs.Sound.{header_slot}
use Rattle.spec_transition.specs.ProcessSlot.{process_slot}
use Rattle.spec_transition.specs.ProcessSlots.{Stepped, is_last_of_epoch, with_next_slot, end_epoch, next_slot, process_slots}

-- a header with a state root
abbrev pub Filled : BeaconBlockHeader → Type 0
Filled h = same_root h.state_root zero_root ≡ false

filled : (first : Bool) (h other : BeaconBlockHeader) → same_root h.state_root zero_root ≡ first → Filled other → Filled (if first then other else h)
filled true h other is fills = fills
filled false h other is fills = is

-- the header is filled once its slot is over
pub header_fills : (s : PlainState) → same_root ((state_codec s.preset).hash_tree_root s) zero_root ≡ false → Filled (block_header_of s)
unfolding block_header_of
header_fills s some = filled (same_root s.latest_block_header.state_root zero_root) s.latest_block_header (record s.latest_block_header { state_root = (state_codec s.preset).hash_tree_root s }) refl some

-- and stays then
pub header_stays : (s : PlainState) → Filled s.latest_block_header → block_header_of s ≡ s.latest_block_header
unfolding block_header_of
header_stays s fills = ap (λ (b : Bool). if b then record s.latest_block_header { state_root = (state_codec s.preset).hash_tree_root s } else s.latest_block_header) fills

-- a header that was filled is that of the state at the next slot
pub header_goes_on : (root : List ℕ) (s t : PlainState) → t.latest_block_header ≡ block_header_of s → Filled (block_header_of s) → header_root_of s ≡ root
    → (header_root_of t ≡ root) × Filled (block_header_of t)
unfolding header_root_of
header_goes_on root s t is fills header =
    let filled_too : Filled t.latest_block_header = subst Filled (sym is) fills in
    let same : block_header_of t ≡ block_header_of s = header_stays t filled_too ∙ is in
    (ap block_header_codec.hash_tree_root same ∙ header, subst Filled (sym same) fills)

-- what one slot does to slot, preset and header
record Passed (s t : PlainState) : Type 0 where
  slot : t.slot ≡ s.slot + 1
  preset : t.preset ≡ s.preset
  header : t.latest_block_header ≡ block_header_of s

pub ended : (s : PlainState) → (process_slot s).slot ≡ s.slot
unfolding process_slot
ended s = refl

pub ended_preset : (s : PlainState) → (process_slot s).preset ≡ s.preset
unfolding process_slot
ended_preset s = refl

ended_header : (s : PlainState) → (process_slot s).latest_block_header ≡ block_header_of s
unfolding process_slot
ended_header s = refl

record Ended (s t : PlainState) : Type 0 where
  slot : t.slot ≡ s.slot
  preset : t.preset ≡ s.preset
  header : t.latest_block_header ≡ s.latest_block_header

epoch_ends : (config : ConfigValues) (s t : Stepped) → end_epoch config s ≡ done t → HasPresetBounds s.state.preset → s.state.slot / s.state.preset.slots_per_epoch < far_future_epoch → Ended s.state t.state
unfolding end_epoch
epoch_ends config s t is bounds before = elim (chosen (not (is_last_of_epoch s.state)) _ _ _ is) [
  | inl within ↦ subst (λ (x : Stepped). Ended s.state x.state) (same_value s t within.1) (record { slot = refl; preset = refl; header = refl })
  | inr last ↦
      let processed = on_the_way (process_epoch s.state config) _ t last.1 in
      subst (λ (x : Stepped). Ended s.state x.state) (same_value _ t processed.then_done) (record {
        slot = epoch_slot s.state processed.value config processed.first;
        preset = epoch_preset s.state processed.value config processed.first;
        header = epoch_header s.state processed.value config processed.first bounds before;
      })
]

pub below : (p : Preset) (slot : ℕ) → HasPresetBounds p → slot < 2 ^ 64 → slot / p.slots_per_epoch < far_future_epoch
below p slot bounds low =
    let n : ℕ = p.slots_per_epoch in
    let q : ℕ = slot / n in
    omega (arith, mul-div-le slot n, mul-le-mul_left {m = 8} {n = n} q bounds.least_slots_per_epoch, mul_comm q n)

slot_passes : (config : ConfigValues) (s t : Stepped) → next_slot config s ≡ done t → HasPresetBounds s.state.preset → s.state.slot < 2 ^ 64 → Passed s.state t.state
unfolding next_slot with_next_slot
slot_passes config s t is bounds low =
    let over : Stepped = record s { state = process_slot s.state } in
    let end = on_the_way (end_epoch config over) _ t is in
    let e = epoch_ends config over end.value end.first (subst HasPresetBounds (sym (ended_preset s.state)) bounds) (below _ _ (subst HasPresetBounds (sym (ended_preset s.state)) bounds) (omega (arith, ended s.state))) in
    subst (λ (x : Stepped). Passed s.state x.state) (same_value _ t end.then_done) (record {
      slot = ap (λ (n : ℕ). n + 1) (e.slot ∙ ended s.state);
      preset = e.preset ∙ ended_preset s.state;
      header = e.header ∙ ended_header s.state;
    })

-- many slots of a filled header
record Went (n : ℕ) (s t : PlainState) : Type 0 where
  slot : t.slot ≡ s.slot + n
  header : t.latest_block_header ≡ s.latest_block_header

slots_pass : (config : ConfigValues) (n i : ℕ) (s t : Stepped) → each_from (λ index. next_slot config) n i s ≡ done t → HasPresetBounds s.state.preset → s.state.slot + n < 2 ^ 64 → Filled s.state.latest_block_header → Went n s.state t.state
unfolding each_from
slots_pass config zero i s t is bounds low fills = subst (λ (x : Stepped). Went 0 s.state x.state) (same_value s t is) (record { slot = omega arith; header = refl })
slots_pass config (suc n) i s t is bounds low fills =
    let first = on_the_way (next_slot config s) _ t is in
    let one = slot_passes config s first.value first.first bounds (omega arith) in
    let same : first.value.state.latest_block_header ≡ s.state.latest_block_header = one.header ∙ header_stays s.state fills in
    let rest = slots_pass config n (i + 1) first.value t first.then_done (subst HasPresetBounds (sym one.preset) bounds) (let slot = one.slot in omega arith) (subst Filled (sym same) fills) in
    record { slot = let slot = one.slot in let more = rest.slot in omega arith; header = rest.header ∙ same }

abbrev is_done : {A : Type 0} → Outcome A → Bool
is_done (done x) = true
is_done (refused why) = false
is_done (limited bound) = false

first_slots : (config : ConfigValues) (n i : ℕ) (s t : Stepped) → each_from (λ index. next_slot config) (suc n) i s ≡ done t → HasPresetBounds s.state.preset → s.state.slot + suc n < 2 ^ 64
    → same_root ((state_codec s.state.preset).hash_tree_root s.state) zero_root ≡ false → (t.state.slot ≡ s.state.slot + suc n) × (t.state.latest_block_header ≡ block_header_of s.state)
unfolding each_from
first_slots config n i s t is bounds low some =
    let first = on_the_way (next_slot config s) _ t is in
    let one = slot_passes config s first.value first.first bounds (omega arith) in
    let rest = slots_pass config n (i + 1) first.value t first.then_done (subst HasPresetBounds (sym one.preset) bounds) (let slot = one.slot in omega arith) (subst Filled (sym one.header) (header_fills s.state some)) in
    ((let slot = one.slot in let more = rest.slot in omega arith), rest.header ∙ one.header)

next_of : (config : ConfigValues) (n : ℕ) (s : PlainState) (t : Stepped) (slot : ℕ) → n ≡ slot - s.slot → s.slot < slot → slot < 2 ^ 64 → each_from (λ index. next_slot config) n s.slot (record { state = s; entered = [] }) ≡ done t
    → HasPresetBounds s.preset → same_root ((state_codec s.preset).hash_tree_root s) zero_root ≡ false → s.latest_block_header.slot ≤ s.slot → IsNext s t.state slot
unfolding header_root_of
next_of config zero s t slot count before low is bounds some header = absurd (omega arith)
next_of config (suc n) s t slot count before low is bounds some header =
    let both = first_slots config n s.slot (record { state = s; entered = [] }) t is bounds (omega arith) some in
    let of_header = ap (λ (h : BeaconBlockHeader). h.slot) both.1 ∙ header_slot s in
    record {
      at = let slot_is = both.0 in omega arith;
      later = omega arith;
      parent = ap block_header_codec.hash_tree_root both.1;
    }

-- The published checks of a block hold behind the slots up to it
pub checks_hold : (s : PlainState) (slot : ℕ) (config : ConfigValues) (t : Stepped) → process_slots s slot config ≡ done t → IsPreset s.preset → slot < 2 ^ 64
    → same_root ((state_codec s.preset).hash_tree_root s) zero_root ≡ false → IsSound s → IsNext s t.state slot
unfolding process_slots
checks_hold s slot config t is preset low some sound = let bounds : HasPresetBounds s.preset = preset_bounds s.preset preset in elim (chosen (not (nat_lt s.slot slot)) _ _ _ is) [
  | inl behind ↦ absurd (false≢true (ap is_done behind.1))
  | inr later ↦ elim (chosen (nat_lt max_slots (slot - s.slot)) _ _ _ later.1) [
    | inl many ↦ absurd (false≢true (ap is_done many.1))
    | inr few ↦ next_of config (slot - s.slot) s t slot refl (ltb-true s.slot slot (not-false _ later.0)) low few.1 bounds some sound.header
  ]
]
