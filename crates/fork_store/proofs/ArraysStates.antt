-- The state of a checkpoint has the preset of the kept states.
use Rattle.std.proofs.Common.{◌≡◌, inl, inr, ℕ, zero, suc, ◌+◌, ◌-◌, not, nat_lt, Option, Some, None, [], sym, ap, ◌∙◌}
use Rattle.std.specs.List.{AllByRecursion}
use Rattle.bc_words.specs.Outcome.{done, each_from}
use Rattle.bc_words.specs.declared.refusal.Refusal.{Refusal}
use Rattle.bc_preset.specs.declared.configuration.ConfigValues.{ConfigValues}
use Rattle.beacon_types.specs.declared.checkpoint.Checkpoint.{Checkpoint}
use Rattle.spec_state.specs.declared.plain.PlainState.{PlainState}
use Rattle.spec_state.specs.Constants.{max_slots}
use Rattle.spec_blocks.proofs.Done.{on_the_way, chosen, same_value}
use Rattle.spec_transition.specs.ProcessSlots.{Stepped, next_slot, process_slots}
use Rattle.spec_transition.proofs.SoundSlots.{next_preset_is}
use Rattle.spec_fork_choice.specs.Store.{KeptBlock, Store, block_of}
use Rattle.spec_fork_choice.specs.Slots.{start_slot_of}
use Rattle.spec_fork_choice.specs.StoreTargetCheckpointState.{kept_or, state_at, store_target_checkpoint_state}
use Rattle.fork_store.specs.Stores.{HasPreset}
use Rattle.fork_store.proofs.Presets.{found_preset}

each_preset : (config : ConfigValues) (count i : ℕ) (s t : Stepped) → each_from (λ index. next_slot config) count i s ≡ done t → t.state.preset ≡ s.state.preset
unfolding each_from
each_preset config zero i s t is = ap (λ (x : Stepped). x.state.preset) (sym (same_value s t is))
each_preset config (suc count) i s t is =
    let first = on_the_way (next_slot config s) (λ next. each_from (λ index. next_slot config) count (i + 1) next) t is in
    each_preset config count (i + 1) first.value t first.then_done ∙ next_preset_is config s first.value first.first

slots_preset : (s : PlainState) (slot : ℕ) (config : ConfigValues) (t : Stepped) → process_slots s slot config ≡ done t → t.state.preset ≡ s.preset
unfolding process_slots
slots_preset s slot config t is = elim (chosen (not (nat_lt s.slot slot)) _ _ _ is) [
  | inl early ↦ let e = early.1 in absurd cc
  | inr later ↦ elim (chosen (nat_lt max_slots (slot - s.slot)) _ _ _ later.1) [
    | inl many ↦ let e = many.1 in absurd cc
    | inr few ↦ each_preset config (slot - s.slot) s.slot (record { state = s; entered = [] }) t few.1
  ]
]

state_preset : (store : Store) (s t : PlainState) (slot : ℕ) → state_at store s slot ≡ done t → t.preset ≡ s.preset
unfolding state_at
state_preset store s t slot is = elim (chosen (not (nat_lt s.slot slot)) _ _ _ is) [
  | inl here ↦ ap (λ (x : PlainState). x.preset) (sym (same_value s t here.1))
  | inr later ↦
      let step = on_the_way (process_slots s slot store.config) (λ stepped. done stepped.state) t later.1 in
      ap (λ (x : PlainState). x.preset) (sym (same_value step.value.state t step.then_done)) ∙ slots_preset s slot store.config step.value step.first
]

kept_is : (why : Refusal) (o : Option KeptBlock) (kept : KeptBlock) → kept_or why o ≡ done kept → o ≡ Some kept
unfolding kept_or
kept_is why None kept is = absurd cc
kept_is why (Some other) kept is = ap Some (same_value other kept is)

pub checkpoint_preset : (store : Store) (checkpoint : Checkpoint) (state : PlainState) → AllByRecursion (HasPreset store.config.preset) store.blocks
    → store_target_checkpoint_state store checkpoint ≡ done state → state.preset ≡ store.config.preset
unfolding store_target_checkpoint_state
checkpoint_preset store checkpoint state presets is =
    let found = on_the_way _ (λ kept. state_at store kept.state (start_slot_of store checkpoint)) state is in
    state_preset store found.value.state state (start_slot_of store checkpoint) found.then_done
    ∙ found_preset store.config.preset store.blocks checkpoint.root found.value presets
    (sym (kept_is _ (block_of store.blocks checkpoint.root) found.value found.first))
