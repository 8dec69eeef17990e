-- The slots behind a kept block keep a state linked: each is told by the block's root.
use Rattle.std.proofs.Common.{◌≡◌, ◌∙◌, ℕ, zero, suc, ◌+◌, ◌-◌, ◌*◌, ◌/◌, ◌%◌, ◌<◌, ◌≤◌, ◌^◌, false, not, List, [], length, refl, sym, ap, subst}
use Rattle.std.proofs.Common.{arith, inl, inr}
use Rattle.std.specs.Prelude.{slice_index_or}
use Rattle.std.proofs.lemmas.List.{length-set}
use Rattle.bc_words.specs.Outcome.{done, each_from}
use Rattle.bc_preset.specs.declared.presets.Preset.{Preset}
use Rattle.bc_preset.specs.declared.configuration.ConfigValues.{ConfigValues}
use Rattle.bc_preset.specs.laws.Bounds.{HasPresetBounds}
use Rattle.beacon_types.specs.Equality.{same_root}
use Rattle.spec_state.specs.declared.plain.PlainState.{PlainState}
use Rattle.spec_state.specs.States.{state_codec}
use Rattle.spec_state.specs.Genesis.{block_header_of, header_root_of, zero_root}
use Rattle.spec_state.specs.Soundness.{IsSound}
use Rattle.spec_state.specs.Accessors.{get_current_epoch, get_previous_epoch, get_block_root, get_block_root_at_slot}
use Rattle.spec_blocks.proofs.Done.{on_the_way, chosen, same_value}
use Rattle.spec_epochs.specs.declared.justification.Justification.{Justification}
use Rattle.spec_epochs.specs.WeighJustificationAndFinalization.{justification_of, with_justification}
use Rattle.spec_epochs.specs.ProcessJustificationAndFinalization.{process_justification_and_finalization}
use Rattle.spec_epochs.specs.ProcessEpoch.{process_epoch}
use Rattle.spec_epochs.proofs.EpochParts.{parts_of}
use Rattle.spec_epochs.proofs.JustifiedCheckpoints.{Holds, weighed_holds}
use Rattle.spec_epochs.proofs.SoundJustification.{Weighed, either_of, justification_leaves}
use Rattle.spec_transition.specs.ProcessSlot.{process_slot}
use Rattle.spec_transition.specs.ProcessSlots.{Stepped, is_last_of_epoch, with_next_slot, end_epoch, next_slot}
use Rattle.spec_transition.proofs.HeaderChecks.{header_fills, header_goes_on}
use Rattle.spec_transition.proofs.Links.{Links, links_of, links_stay, header_leaves}
use Rattle.spec_transition.proofs.RecentRoots.{set_root, IsRecent, recent}
use Rattle.spec_transition.proofs.Sound.{slot_end_sound}
use Rattle.spec_transition.proofs.SoundSlots.{next_sound}
use Rattle.spec_fork_choice.specs.Store.{KeptBlock, first_slot}
use Rattle.fork_store.specs.Stores.{first_epoch}
use Rattle.fork_store.specs.inside.Chains.{IsReached, IsReachedCheckpoint, IsLinkedTo, IsLinked}
use Rattle.fork_store.proofs.FirstSlots.{before_later}

-- ---- what a linked state's links are

-- a state of the same links is linked
pub same_links : (config : ConfigValues) (blocks : List KeptBlock) (end : ℕ) (s t : PlainState) → links_of t ≡ links_of s → IsLinkedTo config blocks end s
    → IsLinkedTo config blocks end t
unfolding get_block_root_at_slot
same_links config blocks end s t same linked = record {
  preset = ap (λ (l : Links). l.preset) same ∙ linked.preset;
  roots = ap (λ (l : Links). length l.roots) same ∙ linked.roots;
  history = λ slot late less near. subst (λ (l : Links). IsReached config blocks (slice_index_or l.roots (slot % l.preset.slots_per_historical_root) []) slot)
      (sym same) (linked.history slot late less near);
  justified = subst (λ (l : Links). first_epoch config.preset blocks < l.current.epoch → IsReachedCheckpoint config blocks l.current) (sym same) linked.justified;
  previous = subst (λ (l : Links). l.current.epoch ≤ first_epoch config.preset blocks → l.previous.epoch ≤ first_epoch config.preset blocks) (sym same) linked.previous;
  finalized = subst (λ (l : Links). l.current.epoch ≤ first_epoch config.preset blocks → l.finalized.epoch ≤ first_epoch config.preset blocks) (sym same) linked.finalized;
}

-- ---- the end of a slot

-- the slot that ends is told by the latest block
slot_linked : (config : ConfigValues) (blocks : List KeptBlock) (s : PlainState) → HasPresetBounds config.preset
    → IsReached config blocks (header_root_of s) s.slot → IsLinked config blocks s → IsLinkedTo config blocks (s.slot + 1) (process_slot s)
unfolding process_slot get_block_root_at_slot
slot_linked config blocks s bounds reached linked =
    let n : ℕ = s.preset.slots_per_historical_root in
    let same : n ≡ config.preset.slots_per_historical_root = ap (λ (p : Preset). p.slots_per_historical_root) linked.preset in
    let many : 64 ≤ config.preset.slots_per_historical_root = bounds.least_slots_per_historical_root in
    record {
      preset = linked.preset;
      roots = length-set s.block_roots (s.slot % n) (header_root_of s) ∙ linked.roots;
      history = λ slot late less near. set_root n s.block_roots (header_root_of s) s.slot slot (λ (root : List ℕ). IsReached config blocks root slot)
          (linked.roots ∙ sym same) (omega arith) less (omega arith)
          (λ here. subst (λ (k : ℕ). IsReached config blocks (header_root_of s) k) (sym here) reached)
          (λ earlier. linked.history slot late earlier (omega arith));
      justified = linked.justified;
      previous = linked.previous;
      finalized = linked.finalized;
    }

-- ---- the end of an epoch

-- the root of the first slot of an epoch behind the first kept block's is reached
root_reached : (config : ConfigValues) (blocks : List KeptBlock) (end : ℕ) (s : PlainState) (epoch : ℕ) → IsLinkedTo config blocks end s → 0 < config.preset.slots_per_epoch
    → epoch * config.preset.slots_per_epoch < end → end ≤ epoch * config.preset.slots_per_epoch + config.preset.slots_per_historical_root
    → first_epoch config.preset blocks < epoch → IsReachedCheckpoint config blocks (record { epoch = epoch; root = get_block_root s epoch })
unfolding get_block_root first_epoch
root_reached config blocks end s epoch linked some less near newer =
    let first : ℕ = epoch * config.preset.slots_per_epoch in
    let late : first_slot blocks ≤ first = before_later config.preset.slots_per_epoch (first_slot blocks) epoch some newer in
    let P : Preset → Type 0 = λ (p : Preset). IsReached config blocks (get_block_root_at_slot s (epoch * p.slots_per_epoch)) first in
    subst P (sym linked.preset) (linked.history first late less near)

abbrev HoldsOf : ConfigValues → List KeptBlock → Justification → Type 0
HoldsOf config blocks j = Holds (first_epoch config.preset blocks) (IsReachedCheckpoint config blocks) j

holds_of : (config : ConfigValues) (blocks : List KeptBlock) (end : ℕ) (s : PlainState) → IsLinkedTo config blocks end s → HoldsOf config blocks (justification_of s)
unfolding justification_of
holds_of config blocks end s linked = record { current = linked.justified; previous = linked.previous; finalized = linked.finalized }

with_holds : (config : ConfigValues) (blocks : List KeptBlock) (end : ℕ) (s : PlainState) (j : Justification) → HoldsOf config blocks j
    → IsLinkedTo config blocks end s → IsLinkedTo config blocks end (with_justification s j)
unfolding with_justification get_block_root_at_slot
with_holds config blocks end s j holds linked = record {
  preset = linked.preset;
  roots = linked.roots;
  history = linked.history;
  justified = holds.current;
  previous = holds.previous;
  finalized = holds.finalized;
}

-- epochs and their first slots, by the configuration's preset
epoch_is : (config : ConfigValues) (s : PlainState) → s.preset ≡ config.preset → get_current_epoch s ≡ s.slot / config.preset.slots_per_epoch
unfolding get_current_epoch
epoch_is config s preset = ap (λ (p : Preset). s.slot / p.slots_per_epoch) preset

weighed_linked : (config : ConfigValues) (blocks : List KeptBlock) (s t : PlainState) → Weighed s t → HasPresetBounds config.preset → IsSound s
    → IsLinkedTo config blocks (s.slot + 1) s → IsLinkedTo config blocks (s.slot + 1) t
unfolding get_previous_epoch justification_of
weighed_linked config blocks s t weighed bounds sound linked =
    let n : ℕ = config.preset.slots_per_epoch in
    let many : ℕ = config.preset.slots_per_historical_root in
    let late : 1 < get_current_epoch s = weighed.late in
    let epoch : get_current_epoch s ≡ s.slot / n = epoch_is config s linked.preset in
    let least : 8 ≤ n = bounds.least_slots_per_epoch in
    let most : n ≤ 32 = bounds.slots_per_epoch in
    let room : 64 ≤ many = bounds.least_slots_per_historical_root in
    let both : IsRecent n many s.slot (s.slot / n) × IsRecent n many s.slot (s.slot / n - 1) =
    recent n many s.slot (omega arith) (omega arith) (omega arith) in
    let here : IsRecent n many s.slot (get_current_epoch s) = subst (IsRecent n many s.slot) (sym epoch) both.0 in
    let before : IsRecent n many s.slot (get_current_epoch s - 1) = subst (λ (e : ℕ). IsRecent n many s.slot (e - 1)) (sym epoch) both.1 in
    let some : 0 < n = omega arith in
    let holds = weighed_holds (first_epoch config.preset blocks) (IsReachedCheckpoint config blocks) (justification_of s) weighed.checkpoints (get_current_epoch s)
    (get_block_root s (get_current_epoch s - 1)) (get_block_root s (get_current_epoch s)) weighed.total weighed.previous weighed.current weighed.weighs
    sound.current_justified
    (root_reached config blocks (s.slot + 1) s (get_current_epoch s - 1) linked some before.less before.near)
    (root_reached config blocks (s.slot + 1) s (get_current_epoch s) linked some here.less here.near)
    (holds_of config blocks (s.slot + 1) s linked) in
    subst (IsLinkedTo config blocks (s.slot + 1)) weighed.gives (with_holds config blocks (s.slot + 1) s weighed.checkpoints holds linked)

justified_linked : (config : ConfigValues) (blocks : List KeptBlock) (s t : PlainState) → process_justification_and_finalization s ≡ done t
    → HasPresetBounds config.preset → IsSound s → IsLinkedTo config blocks (s.slot + 1) s → IsLinkedTo config blocks (s.slot + 1) t
justified_linked config blocks s t is bounds sound linked = elim (either_of s t is) [
  | inl same ↦ subst (IsLinkedTo config blocks (s.slot + 1)) same linked
  | inr weighed ↦ weighed_linked config blocks s t weighed bounds sound linked
]

-- a state at the end of a slot: linked with it, and at the slot and with the header as they were
record Ended (config : ConfigValues) (blocks : List KeptBlock) (s t : PlainState) : Type 0 where
  linked : IsLinkedTo config blocks (s.slot + 1) t
  slot : t.slot ≡ s.slot
  header : t.latest_block_header ≡ s.latest_block_header

epoch_ends : (config : ConfigValues) (blocks : List KeptBlock) (s t : PlainState) → process_epoch s config ≡ done t → HasPresetBounds config.preset → IsSound s
    → IsLinkedTo config blocks (s.slot + 1) s → Ended config blocks s t
epoch_ends config blocks s t is bounds sound linked =
    let p = parts_of s t config is in
    let first = justification_leaves s p.justified p.to_justified in
    let same = links_stay s t config p in
    record {
      linked = same_links config blocks (s.slot + 1) p.justified t same (justified_linked config blocks s p.justified p.to_justified bounds sound linked);
      slot = ap (λ (l : Links). l.slot) same ∙ first.slot;
      header = header_leaves s t config p ∙ first.header;
    }

slot_ends : (config : ConfigValues) (blocks : List KeptBlock) (s t : Stepped) → end_epoch config s ≡ done t → HasPresetBounds config.preset → IsSound s.state
    → IsLinkedTo config blocks (s.state.slot + 1) s.state → Ended config blocks s.state t.state
unfolding end_epoch
slot_ends config blocks s t is bounds sound linked = elim (chosen (not (is_last_of_epoch s.state)) _ _ _ is) [
  | inl within ↦ subst (λ (x : Stepped). Ended config blocks s.state x.state) (same_value s t within.1) (record { linked = linked; slot = refl; header = refl })
  | inr last ↦
      let processed = on_the_way (process_epoch s.state config) _ t last.1 in
      subst (λ (x : Stepped). Ended config blocks s.state x.state) (same_value _ t processed.then_done)
      (epoch_ends config blocks s.state processed.value processed.first bounds sound linked)
]

-- ---- slots

-- a state on the way from a kept block of a root: it is linked and sound, and the block is its latest one
pub record OnWay (config : ConfigValues) (blocks : List KeptBlock) (root : List ℕ) (s : PlainState) : Type 0 where
  pub linked : IsLinked config blocks s
  pub sound : IsSound s
  pub header : header_root_of s ≡ root
  pub filled : same_root (block_header_of s).state_root zero_root ≡ false

-- the first one
pub first_on_way : (config : ConfigValues) (blocks : List KeptBlock) (root : List ℕ) (s : PlainState) → IsLinked config blocks s → IsSound s → header_root_of s ≡ root
    → same_root ((state_codec s.preset).hash_tree_root s) zero_root ≡ false → OnWay config blocks root s
first_on_way config blocks root s linked sound header some = record { linked = linked; sound = sound; header = header; filled = header_fills s some }

slot_over : (s : PlainState) → (process_slot s).slot ≡ s.slot
unfolding process_slot
slot_over s = refl

header_over : (s : PlainState) → (process_slot s).latest_block_header ≡ block_header_of s
unfolding process_slot
header_over s = refl

-- the next slot begins
begins : (config : ConfigValues) (blocks : List KeptBlock) (s : PlainState) → IsLinkedTo config blocks (s.slot + 1) s
    → IsLinked config blocks (with_next_slot s)
unfolding with_next_slot get_block_root_at_slot
begins config blocks s linked = record {
  preset = linked.preset;
  roots = linked.roots;
  history = linked.history;
  justified = linked.justified;
  previous = linked.previous;
  finalized = linked.finalized;
}

next_header : (s : PlainState) → (with_next_slot s).latest_block_header ≡ s.latest_block_header
unfolding with_next_slot
next_header s = refl

next_slot_is : (s : PlainState) → (with_next_slot s).slot ≡ s.slot + 1
unfolding with_next_slot
next_slot_is s = refl

-- one slot
record Next (config : ConfigValues) (blocks : List KeptBlock) (root : List ℕ) (s t : PlainState) : Type 0 where
  on_way : OnWay config blocks root t
  slot : t.slot ≡ s.slot + 1

slot_goes : (config : ConfigValues) (blocks : List KeptBlock) (root : List ℕ) (s t : Stepped) → next_slot config s ≡ done t → HasPresetBounds config.preset → s.state.slot < 2 ^ 64
    → IsReached config blocks root s.state.slot → OnWay config blocks root s.state → Next config blocks root s.state t.state
unfolding next_slot
slot_goes config blocks root s t is bounds low reached way =
    let over : Stepped = record s { state = process_slot s.state } in
    let end = on_the_way (end_epoch config over) _ t is in
    let y : PlainState = end.value.state in
    let told : IsReached config blocks (header_root_of s.state) s.state.slot = subst (λ (r : List ℕ). IsReached config blocks r s.state.slot) (sym way.header)
    reached in
    let linked_over = slot_linked config blocks s.state bounds told way.linked in
    let at_over : IsLinkedTo config blocks (over.state.slot + 1) over.state = subst (λ (k : ℕ). IsLinkedTo config blocks (k + 1) over.state)
    (sym (slot_over s.state)) linked_over in
    let ended = slot_ends config blocks over end.value end.first bounds (slot_end_sound s.state way.sound) at_over in
    let at_end : IsLinkedTo config blocks (y.slot + 1) y = subst (λ (k : ℕ). IsLinkedTo config blocks (k + 1) y) (sym ended.slot) ended.linked in
    let both = header_goes_on root s.state (with_next_slot y) (next_header y ∙ (ended.header ∙ header_over s.state)) way.filled way.header in
    let goes : Stepped = record end.value { state = with_next_slot y } in
    let state_bounds : HasPresetBounds s.state.preset = subst HasPresetBounds (sym way.linked.preset) bounds in
    let next_is : goes ≡ t = same_value _ t end.then_done in
    subst (λ (x : Stepped). Next config blocks root s.state x.state) next_is (record {
      on_way = record {
        linked = begins config blocks y at_end;
        sound = subst (λ (x : Stepped). IsSound x.state) (sym next_is) (next_sound config s t is state_bounds low way.sound);
        header = both.0;
        filled = both.1;
      };
      slot = next_slot_is y ∙ ap (λ (k : ℕ). k + 1) (ended.slot ∙ slot_over s.state);
    })

-- many slots, at each of which the block is reached
pub slots_go : (config : ConfigValues) (blocks : List KeptBlock) (root : List ℕ) (first last : ℕ) → HasPresetBounds config.preset → last < 2 ^ 64
    → ((slot : ℕ) → first ≤ slot → slot ≤ last → IsReached config blocks root slot)
    → (n i : ℕ) (s t : Stepped) → each_from (λ index. next_slot config) n i s ≡ done t → first ≤ s.state.slot → s.state.slot + n ≡ last
    → OnWay config blocks root s.state → OnWay config blocks root t.state × (t.state.slot ≡ last)
unfolding each_from
slots_go config blocks root first last bounds low reached zero i s t is late at way = subst
    (λ (x : Stepped). OnWay config blocks root x.state × (x.state.slot ≡ last)) (same_value s t is) (way, omega arith)
slots_go config blocks root first last bounds low reached (suc n) i s t is late at way =
    let one = on_the_way (next_slot config s) _ t is in
    let next = slot_goes config blocks root s one.value one.first bounds (omega (arith, low, at)) (reached s.state.slot late (omega arith)) way in
    let slot : one.value.state.slot ≡ s.state.slot + 1 = next.slot in
    slots_go config blocks root first last bounds low reached n (i + 1) one.value t one.then_done (omega arith) (omega arith) next.on_way
