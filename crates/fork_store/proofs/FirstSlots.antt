-- No kept block and no checkpoint is before the first kept block, which stays the first one.
use Rattle.std.proofs.Common.{◌≡◌, ◌≤◌, ◌<◌, ◌+◌, ◌*◌, ◌/◌, ℕ, zero, suc, List, [], ◌∷◌, ◌++◌, length, length-append, Option, Some, None, true, is_some, sym, ap, arith, inl, inr, refl}
use Rattle.std.specs.List.{AllByRecursion}
use Rattle.std.specs.Option.{option_map_or}
use Rattle.std.proofs.Math.Nat.{div-mul-le_self, div-zero, lt-div-mul-add, mul-le-mul_right, suc-mul}
use Rattle.std.proofs.lemmas.Nat.{le-div}
use Rattle.state_parts.proofs.Within.{all_push}
use Rattle.bc_preset.specs.declared.presets.Preset.{Preset}
use Rattle.beacon_types.specs.declared.checkpoint.Checkpoint.{Checkpoint}
use Rattle.spec_state.specs.Misc.{compute_epoch_at_slot}
use Rattle.spec_fork_choice.specs.Store.{KeptBlock, Store, block_of, first_slot, is_kept, slot_of}
use Rattle.spec_fork_choice.specs.Slots.{start_slot_of}
use Rattle.fork_store.specs.Stores.{IsStore, IsLate, first_epoch}
use Rattle.fork_store.specs.Trees.{IsTreeBehind, IsTree}
use Rattle.fork_store.proofs.Presets.{found}

-- ---- kept blocks

abbrev NotBefore : ℕ → KeptBlock → Type 0
NotBefore slot kept = slot ≤ kept.block.slot

all_behind : (first : ℕ) (before later : List KeptBlock) → 0 < length before → AllByRecursion (NotBefore first) before → IsTreeBehind before later → AllByRecursion (NotBefore first) later
unfolding IsTreeBehind
all_behind first before [] some all tree = tt
all_behind first before (kept ∷ later) some all tree =
    let here : first ≤ kept.block.slot = elim tree.0.parent [
      | inl none ↦ absurd (let no : length before ≡ 0 = ap length none in omega (arith, some, no))
      | inr has ↦
          let parent : first ≤ has.parent.block.slot = found (NotBefore first) before kept.block.parent_root has.parent all (sym has.found) in
          omega (arith, parent, has.earlier)
    ] in
    (here, all_behind first (before ++ kept ∷ []) later (let more = length-append before (kept ∷ []) in omega (arith, some, more)) (all_push (NotBefore first) before kept all here) tree.1)

none_before : (blocks : List KeptBlock) → IsTree blocks → AllByRecursion (NotBefore (first_slot blocks)) blocks
unfolding IsTreeBehind first_slot
none_before [] tree = tt
none_before (first ∷ later) tree =
    let here : first.block.slot ≤ first.block.slot = omega arith in
    (here, all_behind first.block.slot (first ∷ []) later (omega arith) (here, tt) tree.1)

pub found_late : (blocks : List KeptBlock) (root : List ℕ) (kept : KeptBlock) → IsTree blocks → block_of blocks root ≡ Some kept → first_slot blocks ≤ kept.block.slot
found_late blocks root kept tree is = found (NotBefore (first_slot blocks)) blocks root kept (none_before blocks tree) (sym is)

pub slot_late : (blocks : List KeptBlock) (root : List ℕ) (kept : KeptBlock) → IsTree blocks → block_of blocks root ≡ Some kept → first_slot blocks ≤ slot_of blocks root
unfolding slot_of
slot_late blocks root kept tree is =
    let late : first_slot blocks ≤ kept.block.slot = found_late blocks root kept tree is in
    let at : slot_of blocks root ≡ kept.block.slot = ap (λ (o : Option KeptBlock). option_map_or (λ k. k.block.slot) o 0) is in
    omega (arith, late, at)

-- ---- more blocks

-- behind some blocks the first one is the same
pub first_stays : (blocks more : List KeptBlock) → 0 < length blocks → first_slot (blocks ++ more) ≡ first_slot blocks
unfolding first_slot
first_stays [] more some = absurd (omega arith)
first_stays (first ∷ blocks) more some = refl

pub some_kept : (blocks : List KeptBlock) (root : List ℕ) (kept : KeptBlock) → block_of blocks root ≡ Some kept → 0 < length blocks
unfolding block_of
some_kept [] root kept is = absurd cc
some_kept (first ∷ blocks) root kept is = omega arith

pub epoch_stays : (preset : Preset) (blocks more : List KeptBlock) → 0 < length blocks → first_epoch preset (blocks ++ more) ≡ first_epoch preset blocks
unfolding first_epoch
epoch_stays preset blocks more some = ap (compute_epoch_at_slot preset) (first_stays blocks more some)

-- ---- epochs and their first slots

starts_late : (n : ℕ) (a b : ℕ) → a ≤ b → a * n ≤ b * n
starts_late n a b less = mul-le-mul_right n less

-- the first slot of a later epoch is behind a slot
pub before_later : (n slot epoch : ℕ) → 0 < n → slot / n < epoch → slot ≤ epoch * n
before_later n slot epoch some later =
    let more : (slot / n + 1) * n ≤ epoch * n = starts_late n (slot / n + 1) epoch (omega (arith, later)) in
    let less : slot < slot / n * n + n = lt-div-mul-add some in
    omega (arith, more, less, suc-mul (slot / n) n)

-- a checkpoint that isn't of an epoch before that of the first kept block begins no earlier than the block
pub late_start : (store : Store) (checkpoint : Checkpoint) → IsStore store → IsLate store checkpoint → first_slot store.blocks ≤ start_slot_of store checkpoint
late_start store checkpoint good late =
    let n : ℕ = store.config.preset.slots_per_epoch in
    let first : ℕ = first_epoch store.config.preset store.blocks in
    let start : first * n ≡ first_slot store.blocks = good.begins in
    let more : first * n ≤ checkpoint.epoch * n = starts_late n first checkpoint.epoch late in
    omega (arith, start, more)

epochs_rise : (n a b : ℕ) → a ≤ b → a / n ≤ b / n
epochs_rise zero a b less = omega (arith, div-zero a, div-zero b)
epochs_rise (suc n) a b less = le-div (a / suc n) b (suc n) (omega arith) (omega (arith, less, div-mul-le_self a (suc n)))

-- So the target of a vote isn't before that block, where it is of the epoch of the vote's slot, and the block that the vote is for isn't
-- later than that slot
pub late_target : (store : Store) (target : Checkpoint) (root : List ℕ) (slot : ℕ) → IsStore store → is_kept store.blocks root ≡ true → slot_of store.blocks root ≤ slot
    → compute_epoch_at_slot store.config.preset slot ≡ target.epoch → first_slot store.blocks ≤ start_slot_of store target
unfolding first_epoch is_kept
late_target store target root slot good kept later epoch =
    let n : ℕ = store.config.preset.slots_per_epoch in
    let (k, there) = found_kept (block_of store.blocks root) kept in
    let first : first_slot store.blocks ≤ slot = let late = slot_late store.blocks root k good.tree there in omega (arith, late, later) in
    let less : first_slot store.blocks / n ≤ slot / n = epochs_rise n _ _ first in
    late_start store target good (omega (arith, less, epoch))
  where
    found_kept : (o : Option KeptBlock) → is_some o ≡ true → (kept : KeptBlock) × (o ≡ Some kept)
    found_kept (Some k) is = (k, refl)
    found_kept None is = absurd cc
