-- What each slot keeps, the slots up to a block's keep.
use Rattle.std.proofs.Common.{◌≡◌, ℕ, zero, suc, ◌+◌, ◌-◌, ◌<◌, Bool, true, false, not, nat_lt, [], ap, subst, arith, inl, inr}
use Rattle.std.proofs.lemmas.Bool.{ltb-true, not-false, false≢true}
use Rattle.bc_words.specs.Outcome.{Outcome, done, refused, limited, each_from}
use Rattle.bc_preset.specs.declared.configuration.ConfigValues.{ConfigValues}
use Rattle.spec_state.specs.declared.plain.PlainState.{PlainState}
use Rattle.spec_state.specs.Constants.{max_slots}
use Rattle.spec_blocks.proofs.Done.{on_the_way, chosen, same_value}
use Rattle.spec_transition.specs.ProcessSlots.{Stepped, next_slot, process_slots}
use Rattle.spec_transition.proofs.SoundSlots.{next_slot_is}

abbrev is_done : {A : Type 0} → Outcome A → Bool
is_done (done x) = true
is_done (refused why) = false
is_done (limited bound) = false

module _ (config : ConfigValues) (slot : ℕ) (P : Stepped → Type 0) (next : (s t : Stepped) → next_slot config s ≡ done t → s.state.slot < slot → P s → P t) where
  each_keeps : (n i : ℕ) (s t : Stepped) → each_from (λ index. next_slot config) n i s ≡ done t → s.state.slot + n ≡ slot → P s → P t × (t.state.slot ≡ slot)
  unfolding each_from
  each_keeps zero i s t is at holds = subst (λ (x : Stepped). P x × (x.state.slot ≡ slot)) (same_value s t is) (holds, omega arith)
  each_keeps (suc n) i s t is at holds =
      let first = on_the_way (next_slot config s) _ t is in
      let one = next_slot_is config s first.value first.first in
      each_keeps n (i + 1) first.value t first.then_done (omega arith) (next s first.value first.first (omega arith) holds)

  -- process_slots: the state is at the slot, which is later
  pub slots_keep : (s : PlainState) (t : Stepped) → process_slots s slot config ≡ done t → P (record { state = s; entered = [] }) → P t × (t.state.slot ≡ slot) × (s.slot < slot)
  unfolding process_slots
  slots_keep s t is holds = elim (chosen (not (nat_lt s.slot slot)) _ _ _ is) [
    | inl behind ↦ absurd (false≢true (ap is_done behind.1))
    | inr later ↦ elim (chosen (nat_lt max_slots (slot - s.slot)) _ _ _ later.1) [
      | inl many ↦ absurd (false≢true (ap is_done many.1))
      | inr few ↦
          let less : s.slot < slot = ltb-true s.slot slot (not-false _ later.0) in
          let gone = each_keeps (slot - s.slot) s.slot (record { state = s; entered = [] }) t few.1 (omega arith) holds in
          (gone.0, gone.1, less)
    ]
  ]
