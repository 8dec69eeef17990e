-- Slots and a block carry on what the states of a chain say of its links.
use Rattle.std.proofs.Common.{◌≡◌, ◌≢◌, ◌∙◌, ℕ, ◌+◌, ◌/◌, ◌%◌, ◌<◌, ◌≤◌, ◌^◌, inl, inr, false, not, List, [], ◌∷◌, refl, sym, ap, subst, arith}
use Rattle.std.specs.List.{AllByRecursion}
use Rattle.std.proofs.lemmas.Bool.{not-true, not-false}
use Rattle.bc_words.specs.Outcome.{done}
use Rattle.bc_words.specs.declared.refusal.Refusal.TheVariants.{StateRoot}
use Rattle.bc_preset.specs.declared.presets.Preset.{Preset}
use Rattle.bc_preset.specs.declared.configuration.ConfigValues.{ConfigValues}
use Rattle.bc_preset.specs.laws.Bounds.{HasPresetBounds}
use Rattle.beacon_types.specs.Equality.{same_root}
use Rattle.beacon_types.specs.Blocks.{block_codec}
use Rattle.beacon_types.specs.declared.signed_block.SignedBeaconBlock.{SignedBeaconBlock}
use Rattle.spec_state.specs.declared.plain.PlainState.{PlainState}
use Rattle.spec_state.specs.Genesis.{block_header_of, header_root_of, zero_root}
use Rattle.spec_state.specs.States.{state_codec}
use Rattle.spec_state.specs.Misc.{compute_epoch_at_slot}
use Rattle.spec_state.specs.Accessors.{get_current_epoch}
use Rattle.spec_blocks.specs.Checks.{check}
use Rattle.spec_blocks.specs.ProcessBlock.{process_block}
use Rattle.spec_blocks.proofs.Done.{on_the_way, chosen, same_value}
use Rattle.spec_epochs.specs.WeighJustificationAndFinalization.{justification_of}
use Rattle.spec_epochs.specs.ProcessEpoch.{process_epoch}
use Rattle.spec_epochs.proofs.EpochParts.{parts_of}
use Rattle.spec_epochs.proofs.Fixed.{epoch_preset, epoch_slot}
use Rattle.spec_epochs.proofs.SoundJustification.{justification_leaves}
use Rattle.spec_epochs.proofs.SoundEpoch.{next_begins}
use Rattle.spec_transition.specs.ProcessSlot.{process_slot}
use Rattle.spec_transition.specs.ProcessSlots.{Stepped, is_last_of_epoch, with_next_slot, end_epoch, next_slot, process_slots}
use Rattle.spec_transition.specs.StateTransition.{IsLatest, state_transition}
use Rattle.spec_transition.proofs.HeaderChecks.{Filled, header_fills, header_goes_on, ended, ended_preset}
use Rattle.spec_transition.proofs.HeaderRoot.{block_is_latest}
use Rattle.spec_transition.proofs.Links.{Links, links_of, links_stay, header_leaves, block_leaves}
use Rattle.spec_transition.proofs.SoundSlots.{next_slot_is}
use Rattle.vote_law.specs.Backed.{Votes, Adding, IsBacked}
use Rattle.spec_forensics.specs.Steady.{IsSteadyAt}
use Rattle.vote_law.specs.Runs.{Places, Keeps, IsRun, IsTold, Goes}
use Rattle.vote_law.proofs.Backed.{still_backed, no_more}
use Rattle.vote_law.proofs.BackedBlock.{block_backed}
use Rattle.vote_law.proofs.BackedEpoch.{epoch_backed}
use Rattle.vote_law.proofs.BackedSlots.{last_is, not_last, slot_stands, next_stands, low_epoch}
use Rattle.vote_law.proofs.Lists.{parts_of_all}
use Rattle.vote_law.proofs.Slots.{slots_keep}
use Rattle.vote_law.proofs.Runs.{run_moves, run_ends, told_same, slot_told, justification_roots, justified_as}

-- ---- what stays

slot_header : (s : PlainState) → (process_slot s).latest_block_header ≡ block_header_of s
unfolding process_slot
slot_header s = refl

slot_justified : (s : PlainState) → justification_of (process_slot s) ≡ justification_of s
unfolding process_slot justification_of
slot_justified s = refl

slot_epoch : (s : PlainState) → get_current_epoch (process_slot s) ≡ get_current_epoch s
unfolding process_slot get_current_epoch
slot_epoch s = refl

-- the next slot's state, where the epoch goes on or its end was processed
record Begun (s u : PlainState) : Type 0 where
  slot : u.slot ≡ s.slot + 1
  preset : u.preset ≡ s.preset
  roots : u.block_roots ≡ s.block_roots
  header : u.latest_block_header ≡ s.latest_block_header
  justified : justification_of u ≡ justification_of s

begun : (s : PlainState) → Begun s (with_next_slot s)
unfolding with_next_slot justification_of
begun s = record { slot = refl; preset = refl; roots = refl; header = refl; justified = refl }

epoch_by : (s u : PlainState) → u.preset ≡ s.preset → get_current_epoch u ≡ u.slot / s.preset.slots_per_epoch
unfolding get_current_epoch
epoch_by s u preset = ap (λ (p : Preset). u.slot / p.slots_per_epoch) preset

epoch_goes_on : (s : PlainState) → HasPresetBounds s.preset → (s.slot + 1) % s.preset.slots_per_epoch ≢ 0 → get_current_epoch (with_next_slot s) ≡ get_current_epoch s
epoch_goes_on s bounds within = (next_stands s bounds within).epoch

epoch_ends : (s u : PlainState) → HasPresetBounds s.preset → (s.slot + 1) % s.preset.slots_per_epoch ≡ 0 → u.slot ≡ s.slot + 1 → u.preset ≡ s.preset → get_current_epoch u ≡ get_current_epoch s + 1
epoch_ends s u bounds last slot preset =
    epoch_by s u preset ∙ (ap (λ (n : ℕ). n / s.preset.slots_per_epoch) slot ∙ (next_begins s.preset.slots_per_epoch s.slot (omega (arith, bounds.least_slots_per_epoch)) last ∙ ap (λ (n : ℕ). n + 1) (sym (epoch_by s s refl))))

next_backed : (votes : Votes) (t : PlainState) → IsBacked votes (record t { slot = t.slot + 1 }) → IsBacked votes (with_next_slot t)
unfolding with_next_slot
next_backed votes t backed = backed

-- ---- slots

module _ (genesis : PlainState) (bounds : HasPresetBounds genesis.preset) (votes : Votes) (stands : Places) (root : List ℕ) (config : ConfigValues) where
  -- the slot ends
  record Over (s y : Stepped) : Type 0 where
    backed : IsBacked votes y.state
    told : IsTold stands (y.state.slot + 1) y.state
    header : y.state.latest_block_header ≡ block_header_of s.state
    preset : y.state.preset ≡ genesis.preset
    run : AllByRecursion (IsSteadyAt genesis) y.entered → IsRun genesis votes stands y.state

  over : (s : Stepped) → stands s.state.slot root → Goes genesis votes stands root s → Over s (record s { state = process_slot s.state })
  over s here goes = record {
    backed = still_backed votes votes s.state (process_slot s.state) (no_more votes) (slot_stands s.state) goes.backed;
    told = subst (λ (n : ℕ). IsTold stands (n + 1) (process_slot s.state)) (sym (ended s.state))
        (slot_told stands s.state (subst HasPresetBounds (sym goes.preset) bounds) (subst (λ (r : List ℕ). stands s.state.slot r) (sym goes.header) here) goes.told);
    header = slot_header s.state;
    preset = ended_preset s.state ∙ goes.preset;
    run = λ steady. run_moves genesis votes votes stands stands s.state (process_slot s.state) (no_more votes) (λ k r less one. one) (let same = ended s.state in omega arith) (slot_epoch s.state) (slot_justified s.state) (goes.run steady);
  }

  -- and the next one begins
  ends : (s y z : Stepped) → end_epoch config y ≡ done z → y.state.slot < 2 ^ 64 → Filled (block_header_of s.state) → header_root_of s.state ≡ root → Over s y → Goes genesis votes stands root (record z { state = with_next_slot z.state })
  unfolding end_epoch
  ends s y z is low filled header over_slot = elim (chosen (not (is_last_of_epoch y.state)) _ _ _ is) [
    | inl within ↦
        let u : PlainState = with_next_slot y.state in
        let next = begun y.state in
        let here : HasPresetBounds y.state.preset = subst HasPresetBounds (sym over_slot.preset) bounds in
        let other = not_last y.state (not-true _ within.0) in
        let heads = header_goes_on root s.state u (next.header ∙ over_slot.header) filled header in
        subst (λ (x : Stepped). Goes genesis votes stands root (record x { state = with_next_slot x.state })) (same_value y z within.1) (record {
          backed = still_backed votes votes y.state u (no_more votes) (next_stands y.state here other) over_slot.backed;
          told = subst (λ (n : ℕ). IsTold stands n u) (sym next.slot) (told_same stands (y.state.slot + 1) y.state u next.roots next.preset over_slot.told);
          header = heads.0;
          filled = heads.1;
          preset = next.preset ∙ over_slot.preset;
          run = λ steady. run_moves genesis votes votes stands stands y.state u (no_more votes) (λ k r less one. one) (let slot = next.slot in omega arith) (epoch_goes_on y.state here other) next.justified (over_slot.run steady);
        })
    | inr last ↦
        let processed = on_the_way (process_epoch y.state config) _ z last.1 in
        let t : PlainState = processed.value in
        let u : PlainState = with_next_slot t in
        let next = begun t in
        let here : HasPresetBounds y.state.preset = subst HasPresetBounds (sym over_slot.preset) bounds in
        let ending = last_is y.state (not-false _ last.0) in
        let p = parts_of y.state t config processed.first in
        let first = justification_leaves y.state p.justified p.to_justified in
        let same = links_stay y.state t config p in
        let roots : t.block_roots ≡ y.state.block_roots = ap (λ (l : Links). l.roots) same ∙ justification_roots y.state p.justified p.to_justified in
        let preset : t.preset ≡ y.state.preset = epoch_preset y.state t config processed.first in
        let slot : t.slot ≡ y.state.slot = epoch_slot y.state t config processed.first in
        let slot_next : u.slot ≡ y.state.slot + 1 = next.slot ∙ ap (λ (n : ℕ). n + 1) slot in
        let preset_next : u.preset ≡ y.state.preset = next.preset ∙ preset in
        let heads = header_goes_on root s.state u (next.header ∙ (header_leaves y.state t config p ∙ (first.header ∙ over_slot.header))) filled header in
        subst (λ (x : Stepped). Goes genesis votes stands root (record x { state = with_next_slot x.state })) (same_value _ z processed.then_done) (record {
          backed = next_backed votes t (epoch_backed votes y.state t config processed.first here (low_epoch y.state here low) ending over_slot.backed);
          told = subst (λ (n : ℕ). IsTold stands n u) (sym slot_next) (told_same stands (y.state.slot + 1) y.state u (next.roots ∙ roots) preset_next over_slot.told);
          header = heads.0;
          filled = heads.1;
          preset = preset_next ∙ over_slot.preset;
          run = λ steady.
              let parts = parts_of_all (IsSteadyAt genesis) y.entered (y.state ∷ []) steady in
              run_ends genesis votes stands y.state p.justified u p.to_justified (next.justified ∙ justified_as p.justified t same) (epoch_ends y.state u here ending slot_next preset_next) slot_next
              over_slot.preset here parts.1.0 over_slot.backed over_slot.told (over_slot.run parts.0);
        })
  ]

  next_goes : (s t : Stepped) → next_slot config s ≡ done t → s.state.slot < 2 ^ 64 → stands s.state.slot root → Goes genesis votes stands root s → Goes genesis votes stands root t
  unfolding next_slot
  next_goes s t is low here goes =
      let y : Stepped = record s { state = process_slot s.state } in
      let end = on_the_way (end_epoch config y) _ t is in
      subst (Goes genesis votes stands root) (same_value _ t end.then_done) (ends s y end.value end.first (let same = ended s.state in omega arith) goes.filled goes.header (over s here goes))

  -- the slots up to a block's
  pub process_slots_go : (s : PlainState) (slot : ℕ) (t : Stepped) → process_slots s slot config ≡ done t → slot < 2 ^ 64 → ((k : ℕ) → s.slot ≤ k → k < slot → stands k root)
      → Goes genesis votes stands root (record { state = s; entered = [] }) → Goes genesis votes stands root t × (t.state.slot ≡ slot) × (s.slot < slot)
  process_slots_go s slot t is low here goes =
      let P : Stepped → Type 0 = λ x. Goes genesis votes stands root x × (s.slot ≤ x.state.slot) in
      let next : (a b : Stepped) → next_slot config a ≡ done b → a.state.slot < slot → P a → P b = λ a b step less holds.
      let from : s.slot ≤ a.state.slot = holds.1 in
      let one : b.state.slot ≡ a.state.slot + 1 = next_slot_is config a b step in
      (next_goes a b step (omega arith) (here a.state.slot from less) holds.0, omega arith) in
      let gone = slots_keep config slot P next s t is (goes, omega arith) in
      (gone.0.0, gone.1, gone.2)

-- a block leaves its state at its slot
pub transition_slot : (config : ConfigValues) (s : PlainState) (block : SignedBeaconBlock) (t : Stepped) → state_transition s block config ≡ done t → t.state.slot ≡ block.message.slot
unfolding state_transition
transition_slot config s block t is =
    let at_slot = on_the_way (process_slots s block.message.slot config) _ t is in
    let processed = on_the_way (process_block at_slot.value.state block.message config) _ t at_slot.then_done in
    let x = processed.value in
    let checked = on_the_way (check (same_root block.message.state_root ((state_codec x.preset).hash_tree_root x)) StateRoot) _ t processed.then_done in
    let left : x.slot ≡ at_slot.value.state.slot = ap (λ (l : Links). l.slot) (block_leaves at_slot.value.state x block.message config processed.first) in
    subst (λ (y : Stepped). y.state.slot ≡ block.message.slot) (same_value _ t checked.then_done) (left ∙ (slots_keep config block.message.slot (λ x. Unit {0}) (λ a b step less holds. tt) s at_slot.value at_slot.first tt).1)

-- ---- a block

-- what was told before a state's slot is told by other places that keep these
told_more : (stands places : Places) (end : ℕ) (s : PlainState) → Keeps stands places end → IsTold stands end s → IsTold places end s
told_more stands places end s keeps told = record { roots = told.roots; told = λ slot less near. keeps slot _ less (told.told slot less near) }

links_epoch : (s t : PlainState) → links_of t ≡ links_of s → get_current_epoch t ≡ get_current_epoch s
unfolding get_current_epoch
links_epoch s t same = ap (λ (l : Links). compute_epoch_at_slot l.preset l.slot) same

-- A block carries on what the states of a chain say of its links
pub transition_goes : (genesis : PlainState) (votes : Votes) (stands places : Places) (root : List ℕ) (config : ConfigValues) (s : PlainState) (block : SignedBeaconBlock) (t : Stepped)
    → state_transition s block config ≡ done t → HasPresetBounds genesis.preset → block.message.slot < 2 ^ 64
    → same_root ((state_codec t.state.preset).hash_tree_root t.state) zero_root ≡ false
    → ((k : ℕ) → s.slot ≤ k → k < block.message.slot → stands k root) → Keeps stands places block.message.slot
    → Goes genesis votes stands root (record { state = s; entered = [] })
    → Goes genesis (Adding votes block.message.body.attestations t.state) places (block_codec.hash_tree_root block.message) t × (t.state.slot ≡ block.message.slot) × (s.slot < block.message.slot)
unfolding state_transition IsLatest
transition_goes genesis votes stands places root config s block t is bounds low some here keeps goes =
    let at_slot = on_the_way (process_slots s block.message.slot config) _ t is in
    let processed = on_the_way (process_block at_slot.value.state block.message config) _ t at_slot.then_done in
    let x = processed.value in
    let checked = on_the_way (check (same_root block.message.state_root ((state_codec x.preset).hash_tree_root x)) StateRoot) _ t processed.then_done in
    let r = process_slots_go genesis bounds votes stands root config s block.message.slot at_slot.value at_slot.first low here goes in
    let g = r.0 in
    let a = at_slot.value.state in
    let at : a.slot ≡ block.message.slot = r.1 in
    let same : record at_slot.value { state = x } ≡ t = same_value _ t checked.then_done in
    let left = block_leaves a x block.message config processed.first in
    let slot : x.slot ≡ a.slot = ap (λ (l : Links). l.slot) left in
    let preset : x.preset ≡ a.preset = ap (λ (l : Links). l.preset) left in
    let here_bounds : HasPresetBounds a.preset = subst HasPresetBounds (sym g.preset) bounds in
    let votes_now : Votes = Adding votes block.message.body.attestations x in
    let keeps_here : Keeps stands places a.slot = subst (Keeps stands places) (sym at) keeps in
    subst (λ (y : Stepped). Goes genesis (Adding votes block.message.body.attestations y.state) places (block_codec.hash_tree_root block.message) y × (y.state.slot ≡ block.message.slot) × (s.slot < block.message.slot)) same (
      record {
        backed = block_backed votes a x block.message config processed.first here_bounds (low_epoch a here_bounds (omega arith)) g.backed;
        told = subst (λ (n : ℕ). IsTold places n x) (sym slot) (told_more stands places a.slot x keeps_here (told_same stands a.slot a x (ap (λ (l : Links). l.roots) left) preset g.told));
        header = subst (λ (y : Stepped). header_root_of y.state ≡ block_codec.hash_tree_root block.message) (sym same) (block_is_latest s block config t is);
        filled = header_fills x (subst (λ (y : Stepped). same_root ((state_codec y.state.preset).hash_tree_root y.state) zero_root ≡ false) (sym same) some);
        preset = preset ∙ g.preset;
        run = λ steady. run_moves genesis votes votes_now stands places a x (λ voted attesters one. inl one) keeps_here (omega arith) (links_epoch a x left) (justified_as a x left) (g.run steady);
      },
      slot ∙ at,
      r.2,
    )
