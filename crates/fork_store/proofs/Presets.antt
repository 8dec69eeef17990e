-- What holds of each kept block.
use Rattle.std.proofs.Common.{◌≡◌, ℕ, ◌<◌, ◌^◌, Bool, true, false, cond, Option, Some, None, List, [], ◌∷◌, sym, subst, arith}
use Rattle.std.specs.List.{AllByRecursion}
use Rattle.std.specs.Option.{option_map_or}
use Rattle.bc_preset.specs.declared.presets.Preset.{Preset}
use Rattle.beacon_types.specs.Equality.{same_root}
use Rattle.spec_fork_choice.specs.Store.{KeptBlock, block_of, slot_of}
use Rattle.fork_store.specs.Stores.{IsKept, HasPreset}

abbrev IfFound : (KeptBlock → Type 0) → Option KeptBlock → Type 0
IfFound P (Some kept) = P kept
IfFound P None = Unit {0}

one_of : (P : KeptBlock → Type 0) (test : Bool) (kept : KeptBlock) (later : Option KeptBlock) → P kept → IfFound P later → IfFound P (cond test (Some kept) later)
one_of P true kept later here there = here
one_of P false kept later here there = there

found_of : (P : KeptBlock → Type 0) (blocks : List KeptBlock) (root : List ℕ) → AllByRecursion P blocks → IfFound P (block_of blocks root)
unfolding block_of
found_of P [] root all = tt
found_of P (kept ∷ blocks) root all = one_of P (same_root kept.root root) kept (block_of blocks root) all.0 (found_of P blocks root all.1)

-- what holds of each kept block holds of the one that is found
pub found : (P : KeptBlock → Type 0) (blocks : List KeptBlock) (root : List ℕ) (kept : KeptBlock) → AllByRecursion P blocks → Some kept ≡ block_of blocks root → P kept
found P blocks root kept all is = subst (IfFound P) (sym is) (found_of P blocks root all)

-- a kept block is of a slot of 64 bits, and a root that isn't kept stands for slot 0
slot_within : (o : Option KeptBlock) → IfFound IsKept o → option_map_or (λ kept. kept.block.slot) o 0 < 2 ^ 64
slot_within (Some kept) good = good.low
slot_within None good = omega arith

pub slot_is_low : (blocks : List KeptBlock) (root : List ℕ) → AllByRecursion IsKept blocks → slot_of blocks root < 2 ^ 64
unfolding slot_of
slot_is_low blocks root all = slot_within (block_of blocks root) (found_of IsKept blocks root all)

-- its state has the preset of all
pub found_preset : (preset : Preset) (blocks : List KeptBlock) (root : List ℕ) (kept : KeptBlock) → AllByRecursion (HasPreset preset) blocks → Some kept ≡ block_of blocks root → kept.state.preset ≡ preset
found_preset preset blocks root kept all is = found (HasPreset preset) blocks root kept all is
