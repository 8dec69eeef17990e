-- Walks along a chain that a store has.
use Rattle.std.proofs.Common.{◌≡◌, ◌∙◌, ℕ, zero, suc, ◌<◌, ◌≤◌, Bool, true, false, List, [], ◌∷◌, ◌++◌, length, Option, Some, None, is_some, if◌then◌else◌, refl, sym, ap, inl, inr, arith}
use Rattle.std.specs.List.{AllByRecursion, find}
use Rattle.std.specs.Option.{option_map_or}
use Rattle.std.specs.Cmp.{unsigned_Decides}
use Rattle.std.specs.Cmp.Lexicographic.{pointwise_decides}
use Rattle.std.proofs.lemmas.Bool.{false≢true, lt-ltb, le-ltb, le-leb, lt-leb, cases_lt}
use Rattle.bc_preset.specs.declared.configuration.ConfigValues.{ConfigValues}
use Rattle.beacon_types.specs.Equality.{same_root}
use Rattle.spec_state.specs.Genesis.{zero_root}
use Rattle.spec_fork_choice.specs.Store.{KeptBlock, Store, block_of, is_kept, slot_of, parent_of}
use Rattle.spec_fork_choice.specs.GetAncestor.{ancestor_within, get_ancestor}
use Rattle.spec_drill.specs.inside.OnChain.{root_at, IsJoined, HasChain}

-- ---- a chain

pub root_here : (k : KeptBlock) (chain : List KeptBlock) (slot : ℕ) → k.block.slot ≤ slot → root_at (k ∷ chain) slot ≡ k.root
unfolding root_at
root_here k chain slot low = ap (λ b. if b then k.root else root_at chain slot) (le-leb _ _ low)

pub root_before : (k : KeptBlock) (chain : List KeptBlock) (slot : ℕ) → slot < k.block.slot → root_at (k ∷ chain) slot ≡ root_at chain slot
unfolding root_at
root_before k chain slot late = ap (λ b. if b then k.root else root_at chain slot) (lt-leb _ _ late)

-- the block at a slot is one of the chain
pub record IsThere (P : KeptBlock → Type 0) (chain : List KeptBlock) (slot : ℕ) : Type 0 where
  pub kept : KeptBlock
  pub root : root_at chain slot ≡ kept.root
  pub low : kept.block.slot ≤ slot
  pub holds : P kept

pub there : (P : KeptBlock → Type 0) (chain : List KeptBlock) (slot : ℕ) → IsJoined chain → AllByRecursion P chain → IsThere P chain slot
there P [] slot joined all = absurd joined
there P (k ∷ []) slot joined all = record { kept = k; root = root_here k [] slot (omega arith); low = omega arith; holds = all.0 }
there P (k ∷ j ∷ chain) slot joined all = elim (cases_lt slot k.block.slot) [
  | inl before ↦
      let t = there P (j ∷ chain) slot joined.2 all.1 in
      record { kept = t.kept; root = root_before k (j ∷ chain) slot before ∙ t.root; low = t.low; holds = t.holds }
  | inr at ↦ record { kept = k; root = root_here k (j ∷ chain) slot at; low = at; holds = all.0 }
]

-- ---- walks

pub found_slot : (blocks : List KeptBlock) (k : KeptBlock) → block_of blocks k.root ≡ Some k → slot_of blocks k.root ≡ k.block.slot
unfolding slot_of
found_slot blocks k found = ap (λ (o : Option KeptBlock). option_map_or (λ kept. kept.block.slot) o 0) found

found_parent : (blocks : List KeptBlock) (k : KeptBlock) → block_of blocks k.root ≡ Some k → parent_of blocks k.root ≡ k.block.parent_root
unfolding parent_of
found_parent blocks k found = ap (λ (o : Option KeptBlock). option_map_or (λ kept. kept.block.parent_root) o zero_root) found

pub found_is_kept : (blocks : List KeptBlock) (k : KeptBlock) → block_of blocks k.root ≡ Some k → is_kept blocks k.root ≡ true
unfolding is_kept
found_is_kept blocks k found = ap is_some found

-- the walk from a chain's last block is to its block at the slot
walk : (steps : ℕ) (blocks : List KeptBlock) (k : KeptBlock) (chain : List KeptBlock) (slot : ℕ) → length (k ∷ chain) ≤ steps → AllByRecursion (λ k. block_of blocks k.root ≡ Some k) (k ∷ chain) → IsJoined (k ∷ chain)
    → ancestor_within steps blocks k.root slot ≡ root_at (k ∷ chain) slot
unfolding ancestor_within
walk zero blocks k chain slot few found joined = absurd (omega arith)
walk (suc steps) blocks k [] slot few found joined =
    ap (λ b. if b then ancestor_within steps blocks (parent_of blocks k.root) slot else k.root) (le-ltb slot (slot_of blocks k.root) (let e = found_slot blocks k found.0 in omega arith))
    ∙ sym (root_here k [] slot (omega arith))
walk (suc steps) blocks k (j ∷ chain) slot few found joined = elim (cases_lt slot k.block.slot) [
  | inl before ↦
      ap (λ b. if b then ancestor_within steps blocks (parent_of blocks k.root) slot else k.root) (lt-ltb slot (slot_of blocks k.root) (let e = found_slot blocks k found.0 in omega arith))
      ∙ (ap (λ r. ancestor_within steps blocks r slot) (found_parent blocks k found.0 ∙ joined.0)
      ∙ (walk steps blocks j chain slot (omega arith) found.1 joined.2 ∙ sym (root_before k (j ∷ chain) slot before)))
  | inr at ↦
      ap (λ b. if b then ancestor_within steps blocks (parent_of blocks k.root) slot else k.root) (le-ltb slot (slot_of blocks k.root) (let e = found_slot blocks k found.0 in omega arith))
      ∙ sym (root_here k (j ∷ chain) slot at)
]

pub ancestor_is : (config : ConfigValues) (store : Store) (k : KeptBlock) (chain : List KeptBlock) (slot : ℕ) → HasChain config (k ∷ chain) store → get_ancestor store k.root slot ≡ root_at (k ∷ chain) slot
unfolding get_ancestor
ancestor_is config store k chain slot has = walk (length store.blocks) store.blocks k chain slot has.few has.found has.joined

-- ---- one block more

same_roots : (a b : List ℕ) → same_root a b ≡ true → a ≡ b
same_roots a b h = (pointwise_decides unsigned_Decides a b).0 h

first_or : (b : Bool) (x : KeptBlock) (o p : Option KeptBlock) (k : KeptBlock) → (if b then Some x else o) ≡ Some k → (o ≡ Some k → p ≡ Some k) → (if b then Some x else p) ≡ Some k
first_or true x o p k e h = e
first_or false x o p k e h = h e

pub found_more : (blocks : List KeptBlock) (last : KeptBlock) (root : List ℕ) (k : KeptBlock) → block_of blocks root ≡ Some k → block_of (blocks ++ last ∷ []) root ≡ Some k
unfolding block_of
found_more [] last root k found = absurd cc
found_more (b ∷ blocks) last root k found = first_or (same_root b.root root) b (find (λ kept. same_root kept.root root) blocks) (find (λ kept. same_root kept.root root) (blocks ++ last ∷ [])) k found (found_more blocks last root k)

missed_first : (b : Bool) (x : KeptBlock) (o p : Option KeptBlock) (k : KeptBlock) → is_some (if b then Some x else o) ≡ false → (is_some o ≡ false → p ≡ Some k) → (if b then Some x else p) ≡ Some k
missed_first true x o p k e h = absurd (false≢true (sym e))
missed_first false x o p k e h = h e

pub found_last : (blocks : List KeptBlock) (last : KeptBlock) → is_kept blocks last.root ≡ false → block_of (blocks ++ last ∷ []) last.root ≡ Some last
unfolding block_of is_kept
found_last [] last none = ap (λ (b : Bool). if b then Some last else None) ((pointwise_decides unsigned_Decides last.root last.root).1 refl)
found_last (b ∷ blocks) last none = missed_first (same_root b.root last.root) b (find (λ kept. same_root kept.root last.root) blocks) (find (λ kept. same_root kept.root last.root) (blocks ++ last ∷ [])) last none (found_last blocks last)
