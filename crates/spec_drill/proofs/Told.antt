-- What the latest block roots of a state tell stays as slots end.
use Rattle.std.proofs.Common.{◌≡◌, ◌∙◌, ℕ, ◌+◌, ◌%◌, ◌≤◌, List, [], length, refl, sym, ap, subst, arith, inl, inr}
use Rattle.std.specs.Prelude.{slice_index_or}
use Rattle.std.proofs.lemmas.List.{length-set}
use Rattle.bc_words.specs.Outcome.{done}
use Rattle.bc_preset.specs.declared.presets.Preset.{Preset}
use Rattle.bc_preset.specs.laws.Bounds.{HasPresetBounds}
use Rattle.spec_state.specs.declared.plain.PlainState.{PlainState}
use Rattle.spec_state.specs.Genesis.{header_root_of}
use Rattle.spec_state.specs.Accessors.{get_block_root_at_slot}
use Rattle.spec_epochs.specs.declared.justification.Justification.{Justification}
use Rattle.spec_epochs.specs.WeighJustificationAndFinalization.{with_justification}
use Rattle.spec_epochs.specs.ProcessJustificationAndFinalization.{process_justification_and_finalization}
use Rattle.spec_epochs.proofs.SoundJustification.{either_of}
use Rattle.spec_transition.specs.ProcessSlot.{process_slot}
use Rattle.spec_transition.proofs.RecentRoots.{set_root}
use Rattle.spec_drill.specs.inside.OnChain.{IsTold}

pub told_same : (stands : ℕ → List ℕ → Type 0) (end : ℕ) (s t : PlainState) → t.block_roots ≡ s.block_roots → t.preset ≡ s.preset → IsTold stands end s → IsTold stands end t
unfolding get_block_root_at_slot
told_same stands end s t roots preset told = record {
  roots = ap length roots ∙ (told.roots ∙ ap (λ (p : Preset). p.slots_per_historical_root) (sym preset));
  told = λ slot less near. subst (λ (p : Preset). stands slot (slice_index_or t.block_roots (slot % p.slots_per_historical_root) [])) (sym preset)
      (subst (λ (k : List (List ℕ)). stands slot (slice_index_or k (slot % s.preset.slots_per_historical_root) [])) (sym roots)
      (told.told slot less (subst (λ (p : Preset). end ≤ slot + p.slots_per_historical_root) preset near)));
}

pub slot_told : (stands : ℕ → List ℕ → Type 0) (s : PlainState) → HasPresetBounds s.preset → stands s.slot (header_root_of s) → IsTold stands s.slot s → IsTold stands (s.slot + 1) (process_slot s)
unfolding process_slot get_block_root_at_slot
slot_told stands s bounds here told =
    let n : ℕ = s.preset.slots_per_historical_root in
    let many : 64 ≤ n = bounds.least_slots_per_historical_root in
    record {
      roots = length-set s.block_roots (s.slot % n) (header_root_of s) ∙ told.roots;
      told = λ slot less near. set_root n s.block_roots (header_root_of s) s.slot slot (λ (root : List ℕ). stands slot root) told.roots (omega arith) less (omega arith)
          (λ same. subst (λ (k : ℕ). stands k (header_root_of s)) (sym same) here)
          (λ earlier. told.told slot earlier (omega arith));
    }

with_roots : (s : PlainState) (j : Justification) → (with_justification s j).block_roots ≡ s.block_roots
unfolding with_justification
with_roots s j = refl

pub justification_roots : (s t : PlainState) → process_justification_and_finalization s ≡ done t → t.block_roots ≡ s.block_roots
justification_roots s t is = elim (either_of s t is) [
  | inl same ↦ subst (λ (x : PlainState). x.block_roots ≡ s.block_roots) same refl
  | inr weighed ↦ subst (λ (x : PlainState). x.block_roots ≡ s.block_roots) weighed.gives (with_roots s weighed.checkpoints)
]
