-- The states of a chain tell which blocks stand at its slots, and its checkpoints are those blocks.
use Rattle.std.proofs.Common.{◌≡◌, ◌∙◌, ◌⊎◌, ℕ, zero, suc, ◌+◌, ◌-◌, ◌*◌, ◌/◌, ◌%◌, ◌<◌, ◌≤◌, Bool, true, false, not, nat_lt, List, [], refl, sym, ap, subst, inl, inr, arith}
use Rattle.std.proofs.lemmas.Bool.{false≢true, ltb-true, not-false}
use Rattle.std.proofs.Math.Nat.{div-add-mod, mod-lt, mul_comm}
use Rattle.ssz_codec.specs.Basic.{bytes32}
use Rattle.bc_words.specs.Outcome.{Outcome, done, refused, limited, each_from}
use Rattle.bc_preset.specs.declared.presets.Preset.{Preset}
use Rattle.bc_preset.specs.declared.configuration.ConfigValues.{ConfigValues}
use Rattle.bc_preset.specs.laws.Bounds.{HasPresetBounds}
use Rattle.beacon_types.specs.declared.checkpoint.Checkpoint.{Checkpoint}
use Rattle.beacon_types.specs.declared.block.BeaconBlock.{BeaconBlock}
use Rattle.spec_state.specs.declared.plain.PlainState.{PlainState}
use Rattle.spec_state.specs.Genesis.{block_header_of, header_root_of}
use Rattle.spec_state.specs.Constants.{max_slots}
use Rattle.spec_state.specs.Accessors.{get_current_epoch, get_previous_epoch, get_block_root}
use Rattle.spec_blocks.specs.ProcessBlock.{process_block}
use Rattle.spec_blocks.proofs.Done.{on_the_way, chosen, same_value}
use Rattle.spec_epochs.specs.declared.justification.Justification.{Justification}
use Rattle.spec_epochs.specs.Weigh.{weigh, reaches_two_thirds, shifted, justified_where, finalizing}
use Rattle.spec_epochs.specs.WeighJustificationAndFinalization.{justification_of, with_justification}
use Rattle.spec_epochs.specs.ProcessEpoch.{process_epoch}
use Rattle.spec_epochs.proofs.EpochParts.{parts_of}
use Rattle.spec_epochs.proofs.Fixed.{epoch_preset, epoch_slot}
use Rattle.spec_epochs.proofs.JustifiedCheckpoints.{finalized_is}
use Rattle.spec_epochs.proofs.SoundJustification.{Weighed, either_of, justification_leaves}
use Rattle.spec_transition.specs.ProcessSlot.{process_slot}
use Rattle.spec_transition.specs.ProcessSlots.{Stepped, is_last_of_epoch, with_next_slot, end_epoch, next_slot, process_slots}
use Rattle.spec_transition.proofs.HeaderChecks.{Filled, ended, ended_preset, header_goes_on}
use Rattle.spec_transition.proofs.Links.{Links, links_of, links_stay, header_leaves, block_leaves}
use Rattle.spec_transition.proofs.SoundSlots.{next_slot_is, next_preset_is}
use Rattle.spec_drill.specs.inside.OnChain.{IsTold, AllThree, Stands, IsLinked}
use Rattle.spec_drill.proofs.Told.{told_same, slot_told, justification_roots}

abbrev is_done : {A : Type 0} → Outcome A → Bool
is_done (done x) = true
is_done (refused why) = false
is_done (limited bound) = false

-- ---- weighing

where_current : (P : Checkpoint → Type 0) (enough : Bool) (j : Justification) (back : ℕ) (c : Checkpoint) → P c → P j.current → P (justified_where enough j back c).current
unfolding justified_where
where_current P true j back c h k = h
where_current P false j back c h k = k

where_rest : (enough : Bool) (j : Justification) (back : ℕ) (c : Checkpoint) → ((justified_where enough j back c).previous ≡ j.previous) × ((justified_where enough j back c).finalized ≡ j.finalized)
unfolding justified_where
where_rest true j back c = (refl, refl)
where_rest false j back c = (refl, refl)

pub weighed_all : (P : Checkpoint → Type 0) (j k : Justification) (epoch : ℕ) (previous_root current_root : List ℕ) (total previous current : ℕ) → weigh j epoch previous_root current_root total previous current ≡ done k
    → AllThree P j → P (record { epoch = epoch - 1; root = previous_root }) → P (record { epoch = epoch; root = current_root }) → AllThree P k
unfolding weigh finalizing shifted
weighed_all P j k epoch previous_root current_root total previous current is all a b =
    let one = on_the_way (reaches_two_thirds previous total) _ k is in
    let other = on_the_way (reaches_two_thirds current total) _ k one.then_done in
    let first = justified_where one.value (shifted j) 1 (record { epoch = epoch - 1; root = previous_root }) in
    let second = justified_where other.value first 0 (record { epoch = epoch; root = current_root }) in
    let rest_1 = where_rest one.value (shifted j) 1 (record { epoch = epoch - 1; root = previous_root }) in
    let rest_2 = where_rest other.value first 0 (record { epoch = epoch; root = current_root }) in
    subst (AllThree P) (same_value _ k other.then_done) (record {
      previous = subst P (sym (rest_2.0 ∙ rest_1.0)) all.current;
      current = where_current P other.value first 0 (record { epoch = epoch; root = current_root }) b (where_current P one.value (shifted j) 1 (record { epoch = epoch - 1; root = previous_root }) a all.current);
      finalized = finalized_is P second.bits epoch j.previous j.current second.finalized all.previous all.current (subst P (sym (rest_2.1 ∙ rest_1.1)) all.finalized);
    })

slot_header : (s : PlainState) → (process_slot s).latest_block_header ≡ block_header_of s
unfolding process_slot
slot_header s = refl

slot_checkpoints : (P : Checkpoint → Type 0) (s : PlainState) → AllThree P (justification_of s) → AllThree P (justification_of (process_slot s))
unfolding process_slot justification_of
slot_checkpoints P s all = record { previous = all.previous; current = all.current; finalized = all.finalized }

next_checkpoints : (P : Checkpoint → Type 0) (s : PlainState) → AllThree P (justification_of s) → AllThree P (justification_of (with_next_slot s))
unfolding with_next_slot justification_of
next_checkpoints P s all = record { previous = all.previous; current = all.current; finalized = all.finalized }

record Begun (s u : PlainState) : Type 0 where
  slot : u.slot ≡ s.slot + 1
  preset : u.preset ≡ s.preset
  roots : u.block_roots ≡ s.block_roots
  header : u.latest_block_header ≡ s.latest_block_header

begun : (s : PlainState) → Begun s (with_next_slot s)
unfolding with_next_slot
begun s = record { slot = refl; preset = refl; roots = refl; header = refl }

with_justification_is : (P : Checkpoint → Type 0) (s : PlainState) (j : Justification) → AllThree P j → AllThree P (justification_of (with_justification s j))
unfolding with_justification justification_of
with_justification_is P s j all = record { previous = all.previous; current = all.current; finalized = all.finalized }

links_checkpoints : (P : Checkpoint → Type 0) (s t : PlainState) → links_of t ≡ links_of s → AllThree P (justification_of s) → AllThree P (justification_of t)
unfolding justification_of
links_checkpoints P s t same all = record {
  previous = subst P (sym (ap (λ (l : Links). l.previous) same)) all.previous;
  current = subst P (sym (ap (λ (l : Links). l.current) same)) all.current;
  finalized = subst P (sym (ap (λ (l : Links). l.finalized) same)) all.finalized;
}

module _ (stands : ℕ → List ℕ → Type 0) (within : (k : ℕ) (r : List ℕ) → stands k r → bytes32.Within r) (root : List ℕ) where
  -- the root of an epoch's first slot, told behind the slot
  told_root : (s : PlainState) (epoch : ℕ) → HasPresetBounds s.preset → IsTold stands (s.slot + 1) s → epoch * s.preset.slots_per_epoch ≤ s.slot → s.slot ≤ epoch * s.preset.slots_per_epoch + 63 → Stands stands s.preset.slots_per_epoch (record { epoch = epoch; root = get_block_root s epoch })
  unfolding get_block_root
  told_root s epoch bounds told low near = let h = told.told (epoch * s.preset.slots_per_epoch) (omega arith) (let h = bounds.least_slots_per_historical_root in omega arith) in record { there = λ some. h; root = within (epoch * s.preset.slots_per_epoch) _ h }

  -- the checkpoints behind justification
  justified_checkpoints : (s t : PlainState) → (s ≡ t) ⊎ Weighed s t → HasPresetBounds s.preset → IsTold stands (s.slot + 1) s → AllThree (Stands stands s.preset.slots_per_epoch) (justification_of s) → AllThree (Stands stands s.preset.slots_per_epoch) (justification_of t)
  unfolding get_previous_epoch get_current_epoch
  justified_checkpoints s t (inl same) bounds told all = subst (λ (x : PlainState). AllThree (Stands stands s.preset.slots_per_epoch) (justification_of x)) same all
  justified_checkpoints s t (inr weighed) bounds told all =
      let n : ℕ = s.preset.slots_per_epoch in
      let e : ℕ = s.slot / n in
      let late : 1 < e = weighed.late in
      let parts : n * e + s.slot % n ≡ s.slot = div-add-mod s.slot n in
      let low : s.slot % n < n = mod-lt s.slot (omega (arith, bounds.least_slots_per_epoch)) in
      let turned : e * n ≡ n * e = mul_comm e n in
      let one : e ≡ (e - 1) + 1 = omega arith in
      let before : e * n ≡ ((e - 1) + 1) * n = ap (λ (k : ℕ). k * n) one in
      let most = bounds.slots_per_epoch in
      subst (λ (x : PlainState). AllThree (Stands stands n) (justification_of x)) weighed.gives
      (with_justification_is (Stands stands n) s weighed.checkpoints
      (weighed_all (Stands stands n) (justification_of s) weighed.checkpoints e (get_block_root s (e - 1)) (get_block_root s e) weighed.total weighed.previous weighed.current weighed.weighs all
      (told_root s (e - 1) bounds told (omega arith) (omega arith)) (told_root s e bounds told (omega arith) (omega arith))))

  -- the slot ends
  record Over (s y : PlainState) : Type 0 where
    told : IsTold stands (y.slot + 1) y
    header : y.latest_block_header ≡ block_header_of s
    checkpoints : AllThree (Stands stands y.preset.slots_per_epoch) (justification_of y)
    bounds : HasPresetBounds y.preset

  over : (s : PlainState) → HasPresetBounds s.preset → stands s.slot root → IsLinked stands root s → Over s (process_slot s)
  over s bounds here linked =
      let size : (process_slot s).preset.slots_per_epoch ≡ s.preset.slots_per_epoch = ap (λ (p : Preset). p.slots_per_epoch) (ended_preset s) in
      record {
        told = subst (λ (k : ℕ). IsTold stands (k + 1) (process_slot s)) (sym (ended s)) (slot_told stands s bounds (subst (stands s.slot) (sym linked.header) here) linked.told);
        header = slot_header s;
        checkpoints = subst (λ (k : ℕ). AllThree (Stands stands k) (justification_of (process_slot s))) (sym size) (slot_checkpoints (Stands stands s.preset.slots_per_epoch) s linked.checkpoints);
        bounds = subst HasPresetBounds (sym (ended_preset s)) bounds;
      }

  -- and the next one begins
  begins : (s y u : PlainState) → Begun y u → AllThree (Stands stands y.preset.slots_per_epoch) (justification_of u) → header_root_of s ≡ root → Filled (block_header_of s) → Over s y → IsLinked stands root u
  begins s y u b all header filled o =
      let heads = header_goes_on root s u (b.header ∙ o.header) filled header in
      record {
        told = subst (λ (k : ℕ). IsTold stands k u) (sym b.slot) (told_same stands (y.slot + 1) y u b.roots b.preset o.told);
        header = heads.0;
        filled = heads.1;
        checkpoints = subst (λ (p : Preset). AllThree (Stands stands p.slots_per_epoch) (justification_of u)) (sym b.preset) all;
      }

  module _ (config : ConfigValues) where
    ends : (s : PlainState) (y z : Stepped) → end_epoch config y ≡ done z → header_root_of s ≡ root → Filled (block_header_of s) → Over s y.state → IsLinked stands root (with_next_slot z.state)
    unfolding end_epoch
    ends s y z is header filled o = elim (chosen (not (is_last_of_epoch y.state)) _ _ _ is) [
      | inl within ↦ subst (λ (x : Stepped). IsLinked stands root (with_next_slot x.state)) (same_value y z within.1)
          (begins s y.state (with_next_slot y.state) (begun y.state) (next_checkpoints _ y.state o.checkpoints) header filled o)
      | inr last ↦
          let processed = on_the_way (process_epoch y.state config) _ z last.1 in
          let t : PlainState = processed.value in
          let p = parts_of y.state t config processed.first in
          let first = justification_leaves y.state p.justified p.to_justified in
          let same = links_stay y.state t config p in
          let b = begun t in
          let all = links_checkpoints (Stands stands y.state.preset.slots_per_epoch) p.justified t same (justified_checkpoints y.state p.justified (either_of y.state p.justified p.to_justified) o.bounds o.told o.checkpoints) in
          subst (λ (x : Stepped). IsLinked stands root (with_next_slot x.state)) (same_value _ z processed.then_done)
          (begins s y.state (with_next_slot t) (record {
            slot = b.slot ∙ ap (λ (k : ℕ). k + 1) (epoch_slot y.state t config processed.first);
            preset = b.preset ∙ epoch_preset y.state t config processed.first;
            roots = b.roots ∙ (ap (λ (l : Links). l.roots) same ∙ justification_roots y.state p.justified p.to_justified);
            header = b.header ∙ (header_leaves y.state t config p ∙ first.header);
          }) (next_checkpoints _ t all) header filled o)
    ]

    pub next_linked : (s t : Stepped) → next_slot config s ≡ done t → HasPresetBounds s.state.preset → stands s.state.slot root → IsLinked stands root s.state → IsLinked stands root t.state
    unfolding next_slot
    next_linked s t is bounds here linked =
        let y : Stepped = record s { state = process_slot s.state } in
        let end = on_the_way (end_epoch config y) _ t is in
        subst (λ (x : Stepped). IsLinked stands root x.state) (same_value _ t end.then_done) (ends s.state y end.value end.first linked.header linked.filled (over s.state bounds here linked))

    steps_linked : (n i first last : ℕ) (s t : Stepped) → each_from (λ index. next_slot config) n i s ≡ done t → HasPresetBounds s.state.preset → ((k : ℕ) → first ≤ k → k < last → stands k root) → first ≤ s.state.slot → s.state.slot + n ≡ last → IsLinked stands root s.state → IsLinked stands root t.state
    unfolding each_from
    steps_linked zero i first last s t is bounds here from at linked = subst (λ (x : Stepped). IsLinked stands root x.state) (same_value s t is) linked
    steps_linked (suc n) i first last s t is bounds here from at linked =
        let one = on_the_way (next_slot config s) _ t is in
        let slot = next_slot_is config s one.value one.first in
        let preset = next_preset_is config s one.value one.first in
        steps_linked n (i + 1) first last one.value t one.then_done (subst HasPresetBounds (sym preset) bounds) here (omega arith) (omega arith) (next_linked s one.value one.first bounds (here s.state.slot from (omega arith)) linked)

    -- slots carry on the links
    pub slots_linked : (s : PlainState) (slot : ℕ) (t : Stepped) → process_slots s slot config ≡ done t → HasPresetBounds s.preset → ((k : ℕ) → s.slot ≤ k → k < slot → stands k root) → IsLinked stands root s → IsLinked stands root t.state
    unfolding process_slots
    slots_linked s slot t is bounds here linked = elim (chosen (not (nat_lt s.slot slot)) _ _ _ is) [
      | inl behind ↦ absurd (false≢true (ap is_done behind.1))
      | inr later ↦ elim (chosen (nat_lt max_slots (slot - s.slot)) _ _ _ later.1) [
        | inl many ↦ absurd (false≢true (ap is_done many.1))
        | inr few ↦
            let less : s.slot < slot = ltb-true s.slot slot (not-false _ later.0) in
            steps_linked (slot - s.slot) s.slot s.slot slot (record { state = s; entered = [] }) t few.1 bounds here (omega arith) (omega arith) linked
      ]
    ]

-- a block carries them on, with its own root, where other places keep those before its slot
pub block_linked : (stands places : ℕ → List ℕ → Type 0) (root : List ℕ) (config : ConfigValues) (x t : PlainState) (block : BeaconBlock) → process_block x block config ≡ done t
    → ((k : ℕ) (r : List ℕ) → k < x.slot → stands k r → places k r)
    → header_root_of t ≡ root → Filled (block_header_of t) → IsTold stands x.slot x → AllThree (Stands places x.preset.slots_per_epoch) (justification_of x) → IsLinked places root t
block_linked stands places root config x t block is keeps header filled told all =
    let left = block_leaves x t block config is in
    let slot : t.slot ≡ x.slot = ap (λ (l : Links). l.slot) left in
    let preset : t.preset ≡ x.preset = ap (λ (l : Links). l.preset) left in
    let told_too : IsTold places x.slot x = record { roots = told.roots; told = λ k less near. keeps k _ less (told.told k less near) } in
    record {
      told = subst (λ (k : ℕ). IsTold places k t) (sym slot) (told_same places x.slot x t (ap (λ (l : Links). l.roots) left) preset told_too);
      header = header;
      filled = filled;
      checkpoints = subst (λ (p : Preset). AllThree (Stands places p.slots_per_epoch) (justification_of t)) (sym preset)
          (links_checkpoints (Stands places x.preset.slots_per_epoch) x t left all);
    }
