-- A block more keeps what is reached and linked, and the state behind it is linked itself.
use Rattle.std.proofs.Common.{◌≡◌, ◌∙◌, ℕ, ◌-◌, ◌<◌, ◌≤◌, ◌^◌, Bool, List, length, [], ◌∷◌, ◌++◌, Some, if◌then◌else◌, sym, ap, subst, arith, inl, inr}
use Rattle.std.specs.Cmp.Lexicographic.{bytes_decides}
use Rattle.std.specs.List.{AllByRecursion}
use Rattle.bc_words.specs.Outcome.{done}
use Rattle.bc_words.specs.declared.refusal.Refusal.TheVariants.{StateRoot}
use Rattle.bc_preset.specs.declared.configuration.ConfigValues.{ConfigValues}
use Rattle.bc_preset.specs.laws.Bounds.{HasPresetBounds}
use Rattle.beacon_types.specs.Equality.{same_root}
use Rattle.beacon_types.specs.declared.signed_block.SignedBeaconBlock.{SignedBeaconBlock}
use Rattle.spec_state.specs.declared.plain.PlainState.{PlainState}
use Rattle.spec_state.specs.States.{state_codec}
use Rattle.spec_state.specs.Genesis.{header_root_of}
use Rattle.spec_blocks.specs.Checks.{check}
use Rattle.spec_blocks.specs.ProcessBlock.{process_block}
use Rattle.spec_blocks.proofs.Done.{on_the_way, chosen, same_value}
use Rattle.spec_transition.specs.ProcessSlots.{Stepped, process_slots}
use Rattle.spec_transition.specs.StateTransition.{IsLatest, state_transition}
use Rattle.spec_transition.proofs.Links.{Links, links_of, block_leaves}
use Rattle.spec_fork_choice.specs.Store.{KeptBlock, block_of, first_slot}
use Rattle.fork_store.specs.Stores.{IsRootOf, IsKept, first_epoch}
use Rattle.fork_store.specs.inside.Chains.{IsReached, IsLinkedTo, IsLinked}
use Rattle.fork_store.proofs.FirstSlots.{first_stays, epoch_stays}
use Rattle.fork_store.proofs.ChainPrefixes.{passes, passes_before}
use Rattle.fork_store.proofs.ChainSlots.{same_links, OnWay, first_on_way, slots_go}

-- ---- looking a block up

-- what is found has the root
pub found_root : (blocks : List KeptBlock) (root : List ℕ) (kept : KeptBlock) → block_of blocks root ≡ Some kept → kept.root ≡ root
unfolding block_of
found_root [] root kept is = absurd cc
found_root (first ∷ blocks) root kept is = elim (chosen (same_root first.root root) (Some first) (block_of blocks root) (Some kept) is) [
  | inl here ↦ let same : first ≡ kept = (let some = here.1 in cc) in ap (λ (k : KeptBlock). k.root) (sym same) ∙ (bytes_decides first.root root).0 here.0
  | inr later ↦ found_root blocks root kept later.1
]

-- and is found among more blocks
pub found_more : (blocks : List KeptBlock) (last : KeptBlock) (root : List ℕ) (kept : KeptBlock) → block_of blocks root ≡ Some kept
    → block_of (blocks ++ last ∷ []) root ≡ Some kept
unfolding block_of
found_more [] last root kept is = absurd cc
found_more (first ∷ blocks) last root kept is = elim (chosen (same_root first.root root) (Some first) (block_of blocks root) (Some kept) is) [
  | inl here ↦ ap (λ (b : Bool). if b then Some first else block_of (blocks ++ last ∷ []) root) here.0 ∙ here.1
  | inr later ↦ ap (λ (b : Bool). if b then Some first else block_of (blocks ++ last ∷ []) root) later.0 ∙ found_more blocks last root kept later.1
]

-- ---- more blocks

pub reached_more : (config : ConfigValues) (blocks : List KeptBlock) (last : KeptBlock) (root : List ℕ) (slot : ℕ) → IsReached config blocks root slot
    → IsReached config (blocks ++ last ∷ []) root slot
reached_more config blocks last root slot reached = record {
  kept = reached.kept;
  found = found_more blocks last root reached.kept reached.found;
  passed = reached.passed;
}

pub linked_more : (config : ConfigValues) (blocks : List KeptBlock) (last : KeptBlock) (end : ℕ) (s : PlainState) → 0 < length blocks → IsLinkedTo config blocks end s
    → IsLinkedTo config (blocks ++ last ∷ []) end s
linked_more config blocks last end s some linked =
    let slot_is : first_slot (blocks ++ last ∷ []) ≡ first_slot blocks = first_stays blocks (last ∷ []) some in
    let epoch_is : first_epoch config.preset (blocks ++ last ∷ []) ≡ first_epoch config.preset blocks = epoch_stays config.preset blocks (last ∷ []) some in
    record {
      preset = linked.preset;
      roots = linked.roots;
      history = λ slot late less near. reached_more config blocks last _ slot (linked.history slot (omega (arith, late, slot_is)) less near);
      justified = λ newer. reached_more config blocks last _ _ (linked.justified (omega (arith, newer, epoch_is)));
      previous = λ older. let low = linked.previous (omega (arith, older, epoch_is)) in omega (arith, low, epoch_is);
      finalized = λ older. let low = linked.finalized (omega (arith, older, epoch_is)) in omega (arith, low, epoch_is);
    }

-- all of some blocks, and the one that comes behind them
pub all_linked_more : (config : ConfigValues) (blocks : List KeptBlock) (last : KeptBlock) (items : List KeptBlock) → 0 < length blocks → IsLinked config blocks last.state
    → AllByRecursion (λ kept. IsLinked config blocks kept.state) items
    → AllByRecursion (λ kept. IsLinked config (blocks ++ last ∷ []) kept.state) (items ++ last ∷ [])
all_linked_more config blocks last [] some linked all = (linked_more config blocks last last.state.slot last.state some linked, tt)
all_linked_more config blocks last (kept ∷ items) some linked all =
    (linked_more config blocks last kept.state.slot kept.state some all.0, all_linked_more config blocks last items some linked all.1)

-- ---- the state behind a block

-- the root by which a block names a kept parent is that of the parent's latest header
parent_root : (blocks : List KeptBlock) (root : List ℕ) (parent : KeptBlock) → block_of blocks root ≡ Some parent → IsKept parent
    → header_root_of parent.state ≡ root
unfolding IsRootOf IsLatest
parent_root blocks root parent found kept = kept.latest ∙ (sym kept.root ∙ found_root blocks root parent found)

-- the state at the block's slot
at_slot_linked : (config : ConfigValues) (blocks : List KeptBlock) (root : List ℕ) (slot : ℕ) (parent : KeptBlock) (t : Stepped)
    → block_of blocks root ≡ Some parent → IsKept parent → HasPresetBounds config.preset → slot < 2 ^ 64
    → IsLinked config blocks parent.state → process_slots parent.state slot config ≡ done t → IsLinked config blocks t.state
at_slot_linked config blocks root slot parent t found kept bounds low linked is =
    let s : PlainState = parent.state in
    let pass = passes s slot config t is in
    let reached : (k : ℕ) → s.slot ≤ k → k ≤ slot → IsReached config blocks root k = λ k late early. record {
      kept = parent;
      found = found;
      passed = λ later. passes_before s slot k config t is later early;
    } in
    let way = first_on_way config blocks root s linked kept.sound (parent_root blocks root parent found kept) kept.some in
    let later : s.slot < slot = pass.later in
    let end = slots_go config blocks root s.slot slot bounds low reached (slot - s.slot) s.slot (record { state = s; entered = [] }) t pass.steps (omega arith)
    (omega arith) way in
    let on_way : OnWay config blocks root t.state = end.0 in
    on_way.linked

-- and a block leaves it so
block_linked : (config : ConfigValues) (blocks : List KeptBlock) (s t : PlainState) → links_of t ≡ links_of s → IsLinked config blocks s
    → IsLinked config blocks t
block_linked config blocks s t same linked = subst (λ (k : ℕ). IsLinkedTo config blocks k t) (sym (ap (λ (l : Links). l.slot) same))
    (same_links config blocks s.slot s t same linked)

-- The state that a block takes its parent's state to is linked
pub step_is_linked : (config : ConfigValues) (blocks : List KeptBlock) (parent : KeptBlock) (block : SignedBeaconBlock) (t : Stepped)
    → block_of blocks block.message.parent_root ≡ Some parent → IsKept parent → HasPresetBounds config.preset → block.message.slot < 2 ^ 64
    → IsLinked config blocks parent.state → state_transition parent.state block config ≡ done t → IsLinked config blocks t.state
unfolding state_transition
step_is_linked config blocks parent block t found kept bounds low linked is =
    let at_slot = on_the_way (process_slots parent.state block.message.slot config) _ t is in
    let processed = on_the_way (process_block at_slot.value.state block.message config) _ t at_slot.then_done in
    let x = processed.value in
    let checked = on_the_way (check (same_root block.message.state_root ((state_codec x.preset).hash_tree_root x)) StateRoot) _ t processed.then_done in
    let before = at_slot_linked config blocks block.message.parent_root block.message.slot parent at_slot.value found kept bounds low linked at_slot.first in
    subst (λ (y : Stepped). IsLinked config blocks y.state) (same_value _ t checked.then_done)
    (block_linked config blocks at_slot.value.state x (block_leaves at_slot.value.state x block.message config processed.first) before)
