-- A visitor on the way through slots becomes what the states entered make of it.
use Rattle.std.proofs.Common.{◌≡◌, ◌∙◌, ℕ, zero, suc, ◌+◌, ◌-◌, ◌<◌, ◌≤◌, ◌^◌, Bool, true, false, not, Result, Ok, Err, List, [], ◌∷◌, ◌++◌, if◌then◌else◌, refl, sym, subst, ap, ap₂, arith, inl, inr, append-nil, append_assoc}
use Rattle.std.specs.Prelude.{IfOk}
use Rattle.std.proofs.lemmas.Bool.{lt-ltb, le-ltb}
use Rattle.bc_words.specs.Outcome.{Outcome, done, refused, limited, bind, each_from, Stops, GivesBy}
use Rattle.bc_words.specs.declared.stop.Stop.{Stop}
use Rattle.bc_words.specs.declared.stop.Stop.TheVariants as stops
use Rattle.bc_words.specs.declared.refusal.Refusal.TheVariants.{StateRoot}
use Rattle.bc_preset.specs.declared.configuration.ConfigValues.{ConfigValues}
use Rattle.bc_preset.specs.laws.Bounds.{HasPresetBounds}
use Rattle.beacon_types.specs.Equality.{same_root}
use Rattle.beacon_types.specs.declared.signed_block.SignedBeaconBlock.{SignedBeaconBlock}
use Rattle.spec_state.specs.declared.plain.PlainState.{PlainState}
use Rattle.spec_state.specs.Constants.{max_slots}
use Rattle.spec_state.specs.States.{state_codec}
use Rattle.spec_blocks.specs.Checks.{check}
use Rattle.spec_blocks.specs.ProcessBlock.{process_block}
use Rattle.spec_state.specs.Soundness.{IsSound}
use Rattle.spec_blocks.proofs.Done.{on_the_way, same_value}
use Rattle.spec_epochs.specs.ProcessEpoch.{process_epoch}
use Rattle.spec_transition.specs.ProcessSlot.{process_slot}
use Rattle.spec_transition.specs.ProcessSlots.{Stepped, is_last_of_epoch, end_epoch, next_slot, with_next_slot, process_slots}
use Rattle.spec_transition.proofs.SoundSlots.{next_sound, next_slot_is, next_preset_is}
use Rattle.spec_transition.specs.StateTransition.{IsLatest, state_transition}
use Rattle.spec_transition.proofs.HeaderRoot.{block_is_latest}
use Rattle.epoch_visitor.specs.Shown.{shown_all}
use Rattle.transition.specs.Shown.{beside, showing, WasShown}
use Rattle.transition.specs.inside.Visits.{end_visited, next_visited, visited, block_visited, transition_visited, IsLeft}

module _ {V : Type 0} (shown : V → PlainState → V) where
  pub shown_last : (visitor : V) (states : List PlainState) (state : PlainState) → shown_all shown visitor (states ++ state ∷ []) ≡ shown (shown_all shown visitor states) state
  unfolding shown_all
  shown_last visitor [] state = refl
  shown_last visitor (first ∷ states) state = shown_last (shown visitor first) states state

  processed_shown : (visitor : V) (before : Stepped) (processed : Outcome PlainState)
      → bind processed (λ p. done (p, shown (shown_all shown visitor before.entered) before.state))
      ≡ bind (bind processed (λ p. done (record { state = p; entered = before.entered ++ before.state ∷ [] }))) (λ t. done (beside shown visitor t))
  processed_shown visitor before (done p) = ap (λ (v : V). done (p, v)) (sym (shown_last visitor before.entered before.state))
  processed_shown visitor before (refused why) = refl
  processed_shown visitor before (limited bound) = refl

  chosen_shown : (first : Bool) (visitor : V) (before : Stepped) (processed : Outcome PlainState)
      → (if first then done (beside shown visitor before) else bind processed (λ p. done (p, shown (shown_all shown visitor before.entered) before.state)))
      ≡ bind (if first then done before else bind processed (λ p. done (record { state = p; entered = before.entered ++ before.state ∷ [] }))) (λ t. done (beside shown visitor t))
  chosen_shown true visitor before processed = refl
  chosen_shown false visitor before processed = processed_shown visitor before processed

  end_shown : (config : ConfigValues) (visitor : V) (before : Stepped) → end_visited shown config (beside shown visitor before) ≡ showing shown visitor (end_epoch config before)
  unfolding end_visited showing end_epoch
  end_shown config visitor before = chosen_shown (not (is_last_of_epoch before.state)) visitor before (process_epoch before.state config)

  over_shown : (visitor : V) (ended : Outcome Stepped)
      → bind (bind ended (λ t. done (beside shown visitor t))) (λ (e : PlainState × V). done (with_next_slot e.0, e.1))
      ≡ bind (bind ended (λ e. done (record e { state = with_next_slot e.state }))) (λ t. done (beside shown visitor t))
  over_shown visitor (done t) = refl
  over_shown visitor (refused why) = refl
  over_shown visitor (limited bound) = refl

  next_shown : (config : ConfigValues) (visitor : V) (before : Stepped) → next_visited shown config (beside shown visitor before) ≡ showing shown visitor (next_slot config before)
  unfolding next_visited showing next_slot
  next_shown config visitor before =
      let over : Stepped = record before { state = process_slot before.state } in
      ap (λ (o : Outcome (PlainState × V)). bind o (λ (e : PlainState × V). done (with_next_slot e.0, e.1))) (end_shown config visitor over)
      ∙ over_shown visitor (end_epoch config over)

  rest_shown : (visitor : V) (next : Outcome Stepped) (behind : Stepped → Outcome Stepped) (behind_visited : PlainState × V → Outcome (PlainState × V))
      → ((t : Stepped) → behind_visited (beside shown visitor t) ≡ showing shown visitor (behind t))
      → bind (showing shown visitor next) behind_visited ≡ showing shown visitor (bind next behind)
  unfolding showing
  rest_shown visitor (done t) behind behind_visited same = same t
  rest_shown visitor (refused why) behind behind_visited same = refl
  rest_shown visitor (limited bound) behind behind_visited same = refl

  each_shown : (config : ConfigValues) (visitor : V) (count index : ℕ) (before : Stepped)
      → each_from (λ i. next_visited shown config) count index (beside shown visitor before) ≡ showing shown visitor (each_from (λ i. next_slot config) count index before)
  unfolding each_from showing
  each_shown config visitor zero index before = refl
  each_shown config visitor (suc count) index before =
      ap (λ (o : Outcome (PlainState × V)). bind o (each_from (λ i. next_visited shown config) count (index + 1))) (next_shown config visitor before)
      ∙ rest_shown visitor (next_slot config before) (each_from (λ i. next_slot config) count (index + 1)) (each_from (λ i. next_visited shown config) count (index + 1)) (each_shown config visitor count (index + 1))

  -- a step that has not begun
  abbrev begun : PlainState → Stepped
  begun s = record { state = s; entered = [] }

  -- what a step of the visited way is of the published one
  pub record IsStep (config : ConfigValues) (s t : PlainState) : Type 0 where
    pub step : Stepped
    pub is : next_slot config (begun s) ≡ done step
    pub same : step.state ≡ t

  stepped : (config : ConfigValues) (s t : PlainState) (v w : V) → next_visited shown config (s, v) ≡ done (t, w) → IsStep config s t
  unfolding showing shown_all
  stepped config s t v w is =
      let way = on_the_way (next_slot config (begun s)) (λ x. done (beside shown v x)) (t, w) (sym (next_shown config v (begun s)) ∙ is) in
      record { step = way.value; is = way.first; same = ap (λ (p : PlainState × V). p.0) (same_value (beside shown v way.value) (t, w) way.then_done) }

  pub visited_sound : (config : ConfigValues) (s t : PlainState) (v w : V) → next_visited shown config (s, v) ≡ done (t, w) → HasPresetBounds s.preset → s.slot < 2 ^ 64 → IsSound s → IsSound t
  visited_sound config s t v w is bounds low sound = let x = stepped config s t v w is in subst IsSound x.same (next_sound config (begun s) x.step x.is bounds low sound)

  pub visited_slot : (config : ConfigValues) (s t : PlainState) (v w : V) → next_visited shown config (s, v) ≡ done (t, w) → t.slot ≡ s.slot + 1
  visited_slot config s t v w is = let x = stepped config s t v w is in subst (λ (y : PlainState). y.slot ≡ s.slot + 1) x.same (next_slot_is config (begun s) x.step x.is)

  pub visited_preset : (config : ConfigValues) (s t : PlainState) (v w : V) → next_visited shown config (s, v) ≡ done (t, w) → t.preset ≡ s.preset
  visited_preset config s t v w is = let x = stepped config s t v w is in subst (λ (y : PlainState). y.preset ≡ s.preset) x.same (next_preset_is config (begun s) x.step x.is)

  -- one slot more
  each_last : {S : Type 0} (step : S → Outcome S) (count index : ℕ) (s t u : S) → each_from (λ i. step) count index s ≡ done t → step t ≡ done u → each_from (λ i. step) (suc count) index s ≡ done u
  unfolding each_from
  each_last {S = S} step zero index s t u is next = ap (λ (x : S). bind (step x) done) (same_value s t is) ∙ ap (λ (o : Outcome S). bind o done) next
  each_last {S = S} step (suc count) index s t u is next =
      let way = on_the_way (step s) (each_from (λ i. step) count (index + 1)) t is in
      ap (λ (o : Outcome S). bind o (each_from (λ i. step) (suc count) (index + 1))) way.first ∙ each_last step count (index + 1) way.value t u way.then_done next

  pub visited_more : (config : ConfigValues) (s t u : PlainState) (v w x : V) (index : ℕ) → s.slot ≤ index → each_from (λ i. next_visited shown config) (index - s.slot) s.slot (s, v) ≡ done (t, w)
      → next_visited shown config (t, w) ≡ done (u, x) → each_from (λ i. next_visited shown config) ((index + 1) - s.slot) s.slot (s, v) ≡ done (u, x)
  visited_more config s t u v w x index later is next =
      let e : suc (index - s.slot) ≡ (index + 1) - s.slot = omega (arith, later) in
      subst (λ (n : ℕ). each_from (λ i. next_visited shown config) n s.slot (s, v) ≡ done (u, x)) e (each_last (next_visited shown config) (index - s.slot) s.slot (s, v) (t, w) (u, x) is next)

  pub none_done : {S : Type 0} (step : S → Outcome S) (count index : ℕ) (s t : S) → count ≡ 0 → s ≡ t → each_from (λ i. step) count index s ≡ done t
  unfolding each_from
  none_done step count index s t none same = ap (λ (n : ℕ). each_from (λ i. step) n index s) none ∙ ap done same

  -- what the visitor was shown of the way
  pub was_shown : (config : ConfigValues) (s t : PlainState) (v w x : V) (slot count : ℕ) → count ≤ slot - s.slot → each_from (λ i. next_visited shown config) count s.slot (s, v) ≡ done (t, w)
      → IsLeft shown w x (process_slot t) → WasShown shown config s slot v x
  unfolding showing shown_all
  was_shown config s t v w x slot count within is left =
      let o = each_from (λ i. next_slot config) count s.slot (begun s) in
      let way = on_the_way o (λ y. done (beside shown v y)) (t, w) (sym (each_shown config v count s.slot (begun s)) ∙ is) in
      let same = same_value (beside shown v way.value) (t, w) way.then_done in
      let state_is : way.value.state ≡ t = ap (λ (p : PlainState × V). p.0) same in
      let shown_is : shown_all shown v way.value.entered ≡ w = ap (λ (p : PlainState × V). p.1) same in
      record {
        count = count;
        within = within;
        step = way.value;
        first = way.first;
        left = elim left [
          | inl old ↦ inl (old ∙ sym shown_is)
          | inr one ↦ inr (one ∙ ap₂ (λ (a : V) (b : PlainState). shown a (process_slot b)) (sym shown_is) (sym state_is) ∙ sym (shown_last v way.value.entered (process_slot way.value.state)))
        ];
      }

  pub none_shown : (config : ConfigValues) (s : PlainState) (v x : V) (slot : ℕ) → x ≡ v → WasShown shown config s slot v x
  unfolding each_from
  none_shown config s v x slot same = was_shown config s s v v x slot 0 (omega arith) refl (inl same)

  -- the visited way is the published one, beside what becomes of the visitor
  pub visited_is : (config : ConfigValues) (visitor : V) (s : PlainState) (slot : ℕ) → visited shown visitor s slot config ≡ showing shown visitor (each_from (λ index. next_slot config) (slot - s.slot) s.slot (begun s))
  unfolding shown_all
  visited_is config visitor s slot = each_shown config visitor (slot - s.slot) s.slot (begun s)

  -- where there are no more slots than the limit
  pub slots_visited : (config : ConfigValues) (visitor : V) (s : PlainState) (slot : ℕ) → s.slot < slot → slot - s.slot ≤ max_slots → visited shown visitor s slot config ≡ showing shown visitor (process_slots s slot config)
  unfolding process_slots
  slots_visited config visitor s slot later few = rw (lt-ltb s.slot slot later) (rw (le-ltb max_slots (slot - s.slot) few) (visited_is config visitor s slot))

  -- the block behind the slots
  tested_shown : (visitor : V) (at_slot : Stepped) (p : PlainState) (test : Outcome (Unit {0}))
      → bind test (λ _. done (p, shown_all shown visitor at_slot.entered)) ≡ bind (bind test (λ _. done (record at_slot { state = p }))) (λ t. done (beside shown visitor t))
  tested_shown visitor at_slot p (done x) = refl
  tested_shown visitor at_slot p (refused why) = refl
  tested_shown visitor at_slot p (limited bound) = refl

  checked_shown : (visitor : V) (at_slot : Stepped) (processed : Outcome PlainState) (test : PlainState → Outcome (Unit {0}))
      → bind processed (λ p. bind (test p) (λ _. done (p, shown_all shown visitor at_slot.entered)))
      ≡ bind (bind processed (λ p. bind (test p) (λ _. done (record at_slot { state = p })))) (λ t. done (beside shown visitor t))
  checked_shown visitor at_slot (refused why) test = refl
  checked_shown visitor at_slot (limited bound) test = refl
  checked_shown visitor at_slot (done p) test = tested_shown visitor at_slot p (test p)

  abbrev behind_slots : SignedBeaconBlock → ConfigValues → Stepped → Outcome Stepped
  behind_slots block config at_slot = bind (process_block at_slot.state block.message config)
      (λ processed. bind (check (same_root block.message.state_root ((state_codec processed.preset).hash_tree_root processed)) StateRoot) (λ _. done (record at_slot { state = processed })))

  block_shown : (config : ConfigValues) (visitor : V) (block : SignedBeaconBlock) (at_slot : Stepped) → block_visited block config (beside shown visitor at_slot) ≡ showing shown visitor (behind_slots block config at_slot)
  unfolding block_visited showing
  block_shown config visitor block at_slot =
      checked_shown visitor at_slot (process_block at_slot.state block.message config)
      (λ processed. check (same_root block.message.state_root ((state_codec processed.preset).hash_tree_root processed)) StateRoot)

  pub transition_shown : (config : ConfigValues) (visitor : V) (s : PlainState) (block : SignedBeaconBlock) → transition_visited shown visitor s block config ≡ showing shown visitor (state_transition s block config)
  unfolding state_transition
  transition_shown config visitor s block = rest_shown visitor (process_slots s block.message.slot config) (behind_slots block config) (block_visited block config) (block_shown config visitor block)

  -- what a visited outcome says of the outcome
  pub stops_shown : (visitor : V) (stop : Stop) (o : Outcome Stepped) → Stops stop (showing shown visitor o) → Stops stop o
  unfolding showing
  stops_shown visitor (stops.Refused why) (done t) is = absurd cc
  stops_shown visitor (stops.Refused why) (refused other) is = ap (λ (p : Outcome (PlainState × V)). bind p (λ _. refused other)) is
  stops_shown visitor (stops.Refused why) (limited bound) is = absurd cc
  stops_shown visitor (stops.Limit why) (done t) is = absurd cc
  stops_shown visitor (stops.Limit why) (refused other) is = absurd cc
  stops_shown visitor (stops.Limit why) (limited bound) is = ap (λ (p : Outcome (PlainState × V)). bind p (λ _. limited bound)) is
  stops_shown visitor stops.NoMemory o is = tt

  -- the block is the latest one of the state behind it
  pub latest_shown : (visitor w : V) (s : PlainState) (block : SignedBeaconBlock) (config : ConfigValues) (result : Result PlainState Stop)
      → GivesBy (λ x. (x, w)) result (transition_visited shown visitor s block config) → IfOk result (λ x. IsLatest x block.message)
  unfolding showing
  latest_shown visitor w s block config (Err stop) is = tt
  latest_shown visitor w s block config (Ok x) is =
      let o = state_transition s block config in
      let way = on_the_way o (λ t. done (beside shown visitor t)) (x, w) (sym (transition_shown config visitor s block) ∙ is) in
      subst (λ (y : PlainState). IsLatest y block.message) (ap (λ (p : PlainState × V). p.0) (same_value (beside shown visitor way.value) (x, w) way.then_done)) (block_is_latest s block config way.value way.first)

-- the list of all that it was shown
all_kept : (before states : List PlainState) → shown_all (λ xs s. xs ++ s ∷ []) before states ≡ before ++ states
unfolding shown_all
all_kept before [] = sym (append-nil before)
all_kept before (state ∷ states) = all_kept (before ++ state ∷ []) states ∙ append_assoc before (state ∷ []) states

pub gives_step : (s : PlainState) (before entered : List PlainState) (o : Outcome Stepped) → before ≡ [] → showing (λ xs x. xs ++ x ∷ []) before o ≡ done (s, entered) → o ≡ done (record { state = s; entered = entered })
unfolding showing
gives_step s before entered o none is =
    let way = on_the_way o (λ t. done (beside (λ xs x. xs ++ x ∷ []) before t)) (s, entered) is in
    let same = same_value (beside (λ xs x. xs ++ x ∷ []) before way.value) (s, entered) way.then_done in
    let all : way.value.entered ≡ entered = ap (λ (xs : List PlainState). xs ++ way.value.entered) (sym none) ∙ sym (all_kept before way.value.entered) ∙ ap (λ (p : PlainState × List PlainState). p.1) same in
    way.first ∙ ap₂ (λ (t : PlainState) (xs : List PlainState). done (record { state = t; entered = xs })) (ap (λ (p : PlainState × List PlainState). p.0) same) all

-- ---- a part of a visitor

-- a part of what a visitor becomes is what becomes of the part
shown_through : {W V : Type 0} (part : W → V) (whole : W → PlainState → W) (shown : V → PlainState → V) → ((w : W) (s : PlainState) → part (whole w s) ≡ shown (part w) s) → (w : W) (states : List PlainState)
    → part (shown_all whole w states) ≡ shown_all shown (part w) states
unfolding shown_all
shown_through part whole shown same w [] = refl
shown_through part whole shown same w (state ∷ states) = shown_through part whole shown same (whole w state) states ∙ ap (λ v. shown_all shown v states) (same w state)

-- the part that lists what was shown has the states entered
pub step_through : {W : Type 0} (part : W → List PlainState) (whole : W → PlainState → W) → ((w : W) (s : PlainState) → part (whole w s) ≡ part w ++ s ∷ []) → (w x : W) (state : PlainState) (o : Outcome Stepped)
    → part w ≡ [] → showing whole w o ≡ done (state, x) → o ≡ done (record { state = state; entered = part x })
unfolding showing
step_through part whole same w x state o none is =
    let way = on_the_way o (λ t. done (beside whole w t)) (state, x) is in
    let seen = same_value (beside whole w way.value) (state, x) way.then_done in
    let all : part x ≡ way.value.entered =
    ap (λ p. part p.1) (sym seen) ∙ (shown_through part whole (λ xs s. xs ++ s ∷ []) same w way.value.entered ∙ (all_kept (part w) way.value.entered ∙ ap (λ xs. xs ++ way.value.entered) none)) in
    way.first ∙ ap₂ (λ (t : PlainState) (xs : List PlainState). done (record { state = t; entered = xs })) (ap (λ p. p.0) seen) (sym all)

-- and the visitor in it was shown the states of that list
pub visitor_through : {W V : Type 0} (part : W → V) (whole : W → PlainState → W) (shown : V → PlainState → V) → ((w : W) (s : PlainState) → part (whole w s) ≡ shown (part w) s) → (w x : W) (state : PlainState) (entered : List PlainState) (o : Outcome Stepped)
    → o ≡ done (record { state = state; entered = entered }) → showing whole w o ≡ done (state, x) → part x ≡ shown_all shown (part w) entered
unfolding showing
visitor_through part whole shown same w x state entered o o_is is =
    let seen = same_value (beside whole w (record { state = state; entered = entered })) (state, x) (ap (λ o. bind o (λ t. done (beside whole w t))) (sym o_is) ∙ is) in
    ap (λ p. part p.1) (sym seen) ∙ shown_through part whole shown same w entered

pub was_through : {W V : Type 0} (part : W → V) (whole : W → PlainState → W) (shown : V → PlainState → V) → ((w : W) (s : PlainState) → part (whole w s) ≡ shown (part w) s) → (config : ConfigValues) (state : PlainState) (slot : ℕ) (w x : W)
    → WasShown whole config state slot w x → WasShown shown config state slot (part w) (part x)
was_through part whole shown same config state slot w x was = record {
  count = was.count;
  within = was.within;
  step = was.step;
  first = was.first;
  left = elim was.left [
    | inl all ↦ inl (ap part all ∙ shown_through part whole shown same w was.step.entered)
    | inr one ↦ inr (ap part one ∙ shown_through part whole shown same w (was.step.entered ++ process_slot was.step.state ∷ []))
  ];
}
