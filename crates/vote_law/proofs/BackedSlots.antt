-- Slots keep the attestations that wait backed, and so they are in each state on which epoch processing is entered.
use Rattle.std.proofs.Common.{◌≡◌, ◌≢◌, ◌+◌, ◌%◌, ◌<◌, ◌^◌, true, false, not, nat_eq, refl, sym, subst, arith, inl, inr}
use Rattle.std.specs.List.{AllByRecursion}
use Rattle.std.proofs.lemmas.Bool.{eqb-true, eq-eqb, both_ways, not-true, not-false}
use Rattle.bc_words.specs.Outcome.{done}
use Rattle.bc_words.specs.declared.refusal.Refusal.TheVariants.{StateRoot}
use Rattle.bc_preset.specs.declared.configuration.ConfigValues.{ConfigValues}
use Rattle.bc_preset.specs.laws.Bounds.{HasPresetBounds}
use Rattle.beacon_types.specs.Equality.{same_root}
use Rattle.beacon_types.specs.declared.signed_block.SignedBeaconBlock.{SignedBeaconBlock}
use Rattle.spec_state.specs.declared.plain.PlainState.{PlainState}
use Rattle.spec_state.specs.Constants.{far_future_epoch}
use Rattle.spec_state.specs.States.{state_codec}
use Rattle.spec_state.specs.Accessors.{get_current_epoch, get_active_validator_indices, get_randao_mix}
use Rattle.spec_blocks.specs.Checks.{check}
use Rattle.spec_blocks.specs.ProcessBlock.{process_block}
use Rattle.spec_blocks.proofs.Done.{on_the_way, chosen, same_value}
use Rattle.spec_epochs.specs.ProcessEpoch.{process_epoch}
use Rattle.spec_epochs.proofs.SoundEpoch.{next_stays}
use Rattle.spec_transition.specs.ProcessSlot.{process_slot}
use Rattle.spec_transition.specs.ProcessSlots.{Stepped, is_last_of_epoch, with_next_slot, end_epoch, next_slot, process_slots}
use Rattle.spec_transition.specs.StateTransition.{state_transition}
use Rattle.spec_transition.proofs.HeaderChecks.{below, ended, ended_preset}
use Rattle.spec_transition.proofs.SoundSlots.{next_preset_is}
use Rattle.vote_law.specs.Backed.{Votes, Adding, IsBacked}
use Rattle.vote_law.proofs.Lists.{with_last}
use Rattle.vote_law.proofs.Backed.{Stands, still_backed, no_more}
use Rattle.vote_law.proofs.BackedBlock.{block_backed}
use Rattle.vote_law.proofs.BackedEpoch.{epoch_backed}
use Rattle.vote_law.proofs.Slots.{slots_keep}

-- A state and the states on the way to it, of a preset within bounds
record IsBackedStep (votes : Votes) (x : Stepped) : Type 0 where
  state : IsBacked votes x.state
  entered : AllByRecursion (IsBacked votes) x.entered
  bounds : HasPresetBounds x.state.preset

pub last_is : (s : PlainState) → is_last_of_epoch s ≡ true → (s.slot + 1) % s.preset.slots_per_epoch ≡ 0
unfolding is_last_of_epoch
last_is s is = eqb-true _ _ is

pub not_last : (s : PlainState) → is_last_of_epoch s ≡ false → (s.slot + 1) % s.preset.slots_per_epoch ≢ 0
unfolding is_last_of_epoch
not_last s is last = both_ways (nat_eq ((s.slot + 1) % s.preset.slots_per_epoch) 0) is (eq-eqb _ _ last)

pub slot_stands : (s : PlainState) → Stands s (process_slot s)
unfolding process_slot get_current_epoch get_active_validator_indices get_randao_mix
slot_stands s = record {
  epoch = refl;
  current = record { preset = refl; active = refl; seed = refl };
  previous = record { preset = refl; active = refl; seed = refl };
  previous_justified = refl;
  current_justified = refl;
  previous_attestations = refl;
  current_attestations = refl;
}

pub next_stands : (s : PlainState) → HasPresetBounds s.preset → (s.slot + 1) % s.preset.slots_per_epoch ≢ 0 → Stands s (with_next_slot s)
unfolding with_next_slot get_current_epoch get_active_validator_indices get_randao_mix
next_stands s bounds within = record {
  epoch = next_stays s.preset.slots_per_epoch s.slot (omega (arith, bounds.least_slots_per_epoch)) within;
  current = record { preset = refl; active = refl; seed = refl };
  previous = record { preset = refl; active = refl; seed = refl };
  previous_justified = refl;
  current_justified = refl;
  previous_attestations = refl;
  current_attestations = refl;
}

pub low_epoch : (s : PlainState) → HasPresetBounds s.preset → s.slot < 2 ^ 64 → get_current_epoch s < far_future_epoch
unfolding get_current_epoch
low_epoch s bounds low = below s.preset s.slot bounds low

-- the slot is over, with the epoch where it is its last one, and the next slot begins
record Ended (votes : Votes) (x : Stepped) : Type 0 where
  state : IsBacked votes (with_next_slot x.state)
  entered : AllByRecursion (IsBacked votes) x.entered

ends_backed : (votes : Votes) (config : ConfigValues) (s t : Stepped) → end_epoch config s ≡ done t → HasPresetBounds s.state.preset → s.state.slot < 2 ^ 64 → IsBacked votes s.state → AllByRecursion (IsBacked votes) s.entered → Ended votes t
unfolding end_epoch with_next_slot
ends_backed votes config s t is bounds low state entered = elim (chosen (not (is_last_of_epoch s.state)) _ _ _ is) [
  | inl within ↦ subst (Ended votes) (same_value s t within.1) (record {
    state = still_backed votes votes s.state (with_next_slot s.state) (no_more votes) (next_stands s.state bounds (not_last s.state (not-true _ within.0))) state;
    entered = entered;
  })
  | inr last ↦
      let processed = on_the_way (process_epoch s.state config) _ t last.1 in
      subst (Ended votes) (same_value _ t processed.then_done) (record {
        state = epoch_backed votes s.state processed.value config processed.first bounds (low_epoch s.state bounds low) (last_is s.state (not-false _ last.0)) state;
        entered = with_last (IsBacked votes) s.entered s.state entered state;
      })
]

next_backed : (votes : Votes) (config : ConfigValues) (s t : Stepped) → next_slot config s ≡ done t → s.state.slot < 2 ^ 64 → IsBackedStep votes s → IsBackedStep votes t
unfolding next_slot
next_backed votes config s t is low backed =
    let over : Stepped = record s { state = process_slot s.state } in
    let end = on_the_way (end_epoch config over) _ t is in
    let ended_backed = ends_backed votes config over end.value end.first (subst HasPresetBounds (sym (ended_preset s.state)) backed.bounds) (omega (arith, ended s.state))
    (still_backed votes votes s.state (process_slot s.state) (no_more votes) (slot_stands s.state) backed.state) backed.entered in
    let same : record end.value { state = with_next_slot end.value.state } ≡ t = same_value _ t end.then_done in
    record {
      state = subst (λ (x : Stepped). IsBacked votes x.state) same ended_backed.state;
      entered = subst (λ (x : Stepped). AllByRecursion (IsBacked votes) x.entered) same ended_backed.entered;
      bounds = subst HasPresetBounds (sym (next_preset_is config s t is)) backed.bounds;
    }

-- A block keeps a state backed, by what was carried before and by its own attestations, and so is each state on which epoch
-- processing was entered on the way, by what was carried before
pub transition_backed : (votes : Votes) (s : PlainState) (block : SignedBeaconBlock) (config : ConfigValues) (t : Stepped) → state_transition s block config ≡ done t → HasPresetBounds s.preset → block.message.slot < 2 ^ 64
    → IsBacked votes s → IsBacked (Adding votes block.message.body.attestations t.state) t.state × AllByRecursion (IsBacked votes) t.entered
unfolding state_transition
transition_backed votes s block config t is bounds low backed =
    let at_slot = on_the_way (process_slots s block.message.slot config) _ t is in
    let processed = on_the_way (process_block at_slot.value.state block.message config) _ t at_slot.then_done in
    let x = processed.value in
    let checked = on_the_way (check (same_root block.message.state_root ((state_codec x.preset).hash_tree_root x)) StateRoot) _ t processed.then_done in
    let gone = slots_keep config block.message.slot (IsBackedStep votes) (λ a b step less holds. next_backed votes config a b step (omega arith) holds) s at_slot.value at_slot.first
    (record { state = backed; entered = tt; bounds = bounds }) in
    let at : at_slot.value.state.slot ≡ block.message.slot = gone.1 in
    subst (λ (y : Stepped). IsBacked (Adding votes block.message.body.attestations y.state) y.state × AllByRecursion (IsBacked votes) y.entered) (same_value _ t checked.then_done)
    (block_backed votes at_slot.value.state x block.message config processed.first gone.0.bounds (low_epoch at_slot.value.state gone.0.bounds (omega arith)) gone.0.state, gone.0.entered)
