-- The justified checkpoints of a store are kept blocks, and their states were taken on to the first slots of their epochs.
--
-- `first_is_chained`, `block_stays_chained` and `tick_stays_chained` keep the store's invariant through its definitions, and
-- the lemmas beside them through their parts; `chained_justified_is_kept` and `chained_justified_state_is_done` say what it gives.
use Rattle.std.proofs.Common.{◌≡◌, ◌∙◌, ℕ, ◌<◌, ◌≤◌, ◌*◌, ◌/◌, ◌^◌, ◌&&◌, ◌==◌, Bool, true, false, not, nat_lt, cond, List, length, [], ◌∷◌, ◌++◌, Option, Some, None, is_some}
use Rattle.std.proofs.Common.{if◌then◌else◌, refl, sym, ap, subst, arith, inl, inr}
use Rattle.std.specs.Cmp.Lexicographic.{bytes_decides}
use Rattle.std.proofs.lemmas.Bool.{cases_lt, false≢true, ltb-true, not-false}
use Rattle.std.proofs.Math.Nat.{div-mul-le_self}
use Rattle.bc_words.specs.Outcome.{Outcome, done, bind}
use Rattle.bc_words.specs.declared.refusal.Refusal.TheVariants.{FcTargetUnknown}
use Rattle.bc_preset.specs.declared.presets.Preset.{Preset}
use Rattle.bc_preset.specs.declared.configuration.ConfigValues.{ConfigValues}
use Rattle.bc_preset.specs.Presets.{IsPreset}
use Rattle.bc_preset.proofs.Bounds.{preset_bounds}
use Rattle.beacon_types.specs.declared.checkpoint.Checkpoint.{Checkpoint}
use Rattle.beacon_types.specs.Blocks.{block_codec}
use Rattle.beacon_types.specs.declared.block.BeaconBlock.{BeaconBlock}
use Rattle.beacon_types.specs.declared.signed_block.SignedBeaconBlock.{SignedBeaconBlock}
use Rattle.spec_state.specs.declared.plain.PlainState.{PlainState}
use Rattle.spec_state.specs.Accessors.{get_current_epoch, get_previous_epoch}
use Rattle.spec_state.specs.Genesis.{zero_root}
use Rattle.spec_state.specs.Soundness.{IsSound}
use Rattle.spec_blocks.proofs.Done.{chosen, same_value}
use Rattle.spec_transition.specs.ProcessSlots.{Stepped, process_slots}
use Rattle.spec_transition.specs.StateTransition.{state_transition}
use Rattle.spec_fork_choice.specs.Store.{KeptBlock, Store, block_of, first_slot, is_kept}
use Rattle.spec_fork_choice.specs.Slots.{get_current_slot, compute_slots_since_epoch_start, start_slot_of}
use Rattle.spec_fork_choice.specs.GetForkchoiceStore.{get_forkchoice_store}
use Rattle.spec_fork_choice.specs.ShouldUpdateJustifiedCheckpoint.{should_update_justified_checkpoint}
use Rattle.spec_fork_choice.specs.StoreTargetCheckpointState.{kept_or, state_at, store_target_checkpoint_state}
use Rattle.spec_fork_choice.specs.OnBlock.{is_before_attesting_interval, with_block, with_boost, with_best_justified, with_better_justified, with_justified}
use Rattle.spec_fork_choice.specs.OnBlock.{with_finalized, with_accepted}
use Rattle.spec_fork_choice.specs.OnTick.{is_better_justified, in_new_epoch, in_new_slot, on_tick}
use Rattle.fork_store.specs.Stores.{IsKept, IsStore, IsLate, first_epoch}
use Rattle.fork_store.specs.Done.{IsDone}
use Rattle.fork_store.specs.inside.Chains.{IsReached, IsReachedCheckpoint, IsLinked, AreChained, IsChained}
use Rattle.fork_store.proofs.FirstSlots.{some_kept, epoch_stays}
use Rattle.fork_store.proofs.Presets.{found}
use Rattle.fork_store.proofs.ChainPrefixes.{is_done}
use Rattle.fork_store.proofs.ChainBlocks.{reached_more, linked_more, all_linked_more, step_is_linked}

-- ---- choices

pub passed : {A : Type 0} (b : Bool) (fault : A) (rest : Option A) → cond (not b) (Some fault) rest ≡ None → (b ≡ true) × (rest ≡ None)
passed true fault rest h = (refl, h)
passed false fault rest h = absurd cc

-- ---- the parts of a change

-- a block more, with a linked state behind it
pub chained_with_block : (config : ConfigValues) (blocks : List KeptBlock) (first second : Checkpoint) (kept : KeptBlock) → IsLinked config blocks kept.state
    → AreChained config blocks first second → AreChained config (blocks ++ kept ∷ []) first second
chained_with_block config blocks first second kept linked chained = record {
  linked = all_linked_more config blocks kept blocks (some_kept blocks _ chained.justified.kept chained.justified.found) linked chained.linked;
  justified = reached_more config blocks kept _ _ chained.justified;
  best_justified = reached_more config blocks kept _ _ chained.best_justified;
}

-- another justified checkpoint, or another best justified one
pub chained_with_justified : (config : ConfigValues) (blocks : List KeptBlock) (first second checkpoint : Checkpoint)
    → IsReachedCheckpoint config blocks checkpoint → AreChained config blocks first second → AreChained config blocks checkpoint second
chained_with_justified config blocks first second checkpoint reached chained = record {
  linked = chained.linked;
  justified = reached;
  best_justified = chained.best_justified;
}

pub chained_with_best_justified : (config : ConfigValues) (blocks : List KeptBlock) (first second checkpoint : Checkpoint)
    → IsReachedCheckpoint config blocks checkpoint → AreChained config blocks first second → AreChained config blocks first checkpoint
chained_with_best_justified config blocks first second checkpoint reached chained = record {
  linked = chained.linked;
  justified = chained.justified;
  best_justified = reached;
}

-- the best justified checkpoint becomes the justified one
pub chained_with_best : (config : ConfigValues) (blocks : List KeptBlock) (first second : Checkpoint) → AreChained config blocks first second
    → AreChained config blocks second second
chained_with_best config blocks first second chained = record {
  linked = chained.linked;
  justified = chained.best_justified;
  best_justified = chained.best_justified;
}

-- A linked state's justified checkpoint is reached where it is of a greater epoch than another one that isn't before the first kept
-- block, and where its finalized one is
pub newer_is_reached : (config : ConfigValues) (blocks : List KeptBlock) (s : PlainState) (epoch : ℕ) → IsLinked config blocks s
    → first_epoch config.preset blocks ≤ epoch → epoch < s.current_justified_checkpoint.epoch → IsReachedCheckpoint config blocks s.current_justified_checkpoint
newer_is_reached config blocks s epoch linked late newer = linked.justified (omega (arith, late, newer))

-- and then it isn't of an epoch before that block either
pub newer_finalized : (config : ConfigValues) (blocks : List KeptBlock) (s : PlainState) → IsLinked config blocks s
    → first_epoch config.preset blocks < s.finalized_checkpoint.epoch → first_epoch config.preset blocks < s.current_justified_checkpoint.epoch
newer_finalized config blocks s linked newer = elim (cases_lt (first_epoch config.preset blocks) s.current_justified_checkpoint.epoch) [
  | inl some ↦ some
  | inr none ↦ absurd (let low : s.finalized_checkpoint.epoch ≤ first_epoch config.preset blocks = linked.finalized (omega (arith, none)) in omega (arith, low, newer))
]

pub newer_finalized_is_reached : (config : ConfigValues) (blocks : List KeptBlock) (s : PlainState) (epoch : ℕ) → IsLinked config blocks s
    → first_epoch config.preset blocks ≤ epoch → epoch < s.finalized_checkpoint.epoch → IsReachedCheckpoint config blocks s.current_justified_checkpoint
newer_finalized_is_reached config blocks s epoch linked late newer = linked.justified (newer_finalized config blocks s linked (omega (arith, late, newer)))

-- ---- the first block

-- a sound state tells of no slot from its own on, and has justified nothing of its own epoch
first_linked : (config : ConfigValues) (blocks : List KeptBlock) (s : PlainState) → first_slot blocks ≡ s.slot → IsSound s → length s.block_roots ≡ s.preset.slots_per_historical_root → s.preset ≡ config.preset
    → IsLinked config blocks s
unfolding first_epoch get_previous_epoch get_current_epoch
first_linked config blocks s at sound is preset =
    let epoch : ℕ = first_slot blocks / config.preset.slots_per_epoch in
    let same : s.slot / s.preset.slots_per_epoch ≡ epoch = ap (λ (p : Preset). s.slot / p.slots_per_epoch) preset ∙ ap (λ (n : ℕ). n / config.preset.slots_per_epoch) (sym at) in
    record {
      preset = preset;
      roots = is ∙ ap (λ (p : Preset). p.slots_per_historical_root) preset;
      history = λ k late less near. absurd (omega (arith, late, less, at));
      justified = λ newer. absurd (omega (arith, newer, same, sound.current_justified));
      previous = λ older. omega (arith, same, sound.previous_justified);
      finalized = λ older. omega (arith, same, sound.finalized);
    }

-- the one block is found
only_found : (kept : KeptBlock) → block_of (kept ∷ []) kept.root ≡ Some kept
unfolding block_of
only_found kept = ap (λ (b : Bool). if b then Some kept else None) ((bytes_decides kept.root kept.root).1 refl)

-- The first block alone
pub first_chained : (config : ConfigValues) (root : List ℕ) (block : BeaconBlock) (s : PlainState) → IsSound s → s.slot ≡ block.slot → length s.block_roots ≡ s.preset.slots_per_historical_root
    → s.preset ≡ config.preset
    → AreChained config (record { root = root; block = block; state = s } ∷ []) (record { epoch = get_current_epoch s; root = root }) (record { epoch = get_current_epoch s; root = root })
unfolding get_current_epoch first_slot
first_chained config root block s sound at is preset =
    let kept : KeptBlock = record { root = root; block = block; state = s } in
    let n : ℕ = s.preset.slots_per_epoch in
    let same : n ≡ config.preset.slots_per_epoch = ap (λ (p : Preset). p.slots_per_epoch) preset in
    let start : s.slot / n * n ≤ s.slot = div-mul-le_self s.slot n in
    let starts : s.slot / n * config.preset.slots_per_epoch ≤ s.slot = subst (λ (m : ℕ). s.slot / n * m ≤ s.slot) same start in
    let reached : IsReachedCheckpoint config (kept ∷ []) (record { epoch = s.slot / n; root = root }) = record {
      kept = kept;
      found = only_found kept;
      passed = λ later. absurd (omega (arith, later, starts));
    } in
    record { linked = (first_linked config (kept ∷ []) s (sym at) sound is preset, tt); justified = reached; best_justified = reached }

pub first_is_chained : (config : ConfigValues) (s : PlainState) (block : BeaconBlock) → IsSound s → s.slot ≡ block.slot → length s.block_roots ≡ s.preset.slots_per_historical_root → s.preset ≡ config.preset
    → IsChained (get_forkchoice_store config s block)
unfolding get_forkchoice_store
first_is_chained config s block sound at is preset = first_chained config (block_codec.hash_tree_root block) block s sound at is preset

-- ---- a block

-- a chained store, whose checkpoints aren't of epochs before the first kept block, beside a state that is linked among its blocks
pub record IsBeside (state : PlainState) (store : Store) : Type 0 where
  pub chained : IsChained store
  pub linked : IsLinked store.config store.blocks state
  pub justified_late : IsLate store store.justified_checkpoint
  pub finalized_late : IsLate store store.finalized_checkpoint

pub block_beside : (store : Store) (kept : KeptBlock) → IsStore store → IsLinked store.config store.blocks kept.state → IsChained store
    → IsBeside kept.state (with_block store kept)
unfolding with_block
block_beside store kept good linked chained =
    let some : 0 < length store.blocks = some_kept store.blocks _ chained.justified.kept chained.justified.found in
    let epoch : first_epoch store.config.preset (store.blocks ++ kept ∷ []) ≡ first_epoch store.config.preset store.blocks =
    epoch_stays store.config.preset store.blocks (kept ∷ []) some in
    elim (chosen (is_kept store.blocks kept.root) store (record store { blocks = store.blocks ++ kept ∷ [] }) _ refl) [
      | inl again ↦ subst (IsBeside kept.state) again.1 (record { chained = chained; linked = linked; justified_late = good.justified_late; finalized_late = good.finalized_late })
      | inr fresh ↦ subst (IsBeside kept.state) fresh.1 (record {
        chained = chained_with_block store.config store.blocks store.justified_checkpoint store.best_justified_checkpoint kept linked chained;
        linked = linked_more store.config store.blocks kept kept.state.slot kept.state some linked;
        justified_late = omega (arith, good.justified_late, epoch);
        finalized_late = omega (arith, good.finalized_late, epoch);
      })
    ]

boost_beside : (state : PlainState) (store : Store) (kept : KeptBlock) → IsBeside state store → IsBeside state (with_boost store kept)
unfolding with_boost
boost_beside state store kept beside = elim (chosen ((get_current_slot store == kept.block.slot) && is_before_attesting_interval store)
    (record store { proposer_boost_root = kept.root }) store _ refl) [
      | inl timely ↦ subst (IsBeside state) timely.1 (record {
        chained = beside.chained;
        linked = beside.linked;
        justified_late = beside.justified_late;
        finalized_late = beside.finalized_late;
      })
      | inr late ↦ subst (IsBeside state) late.1 beside
    ]

-- a store beside a reached checkpoint of such a state
record IsGiven (state : PlainState) (store : Store) : Type 0 where
  beside : IsBeside state store
  late : IsLate store state.current_justified_checkpoint
  reached : IsReachedCheckpoint store.config store.blocks state.current_justified_checkpoint

best_given : (state : PlainState) (store : Store) → IsGiven state store → IsGiven state (with_best_justified store state.current_justified_checkpoint)
unfolding with_best_justified
best_given state store given =
    let checkpoint : Checkpoint = state.current_justified_checkpoint in
    elim (chosen (nat_lt store.best_justified_checkpoint.epoch checkpoint.epoch) (record store { best_justified_checkpoint = checkpoint }) store _ refl) [
      | inl better ↦ subst (IsGiven state) better.1 (record {
        beside = record {
          chained = chained_with_best_justified store.config store.blocks store.justified_checkpoint store.best_justified_checkpoint checkpoint
              given.reached given.beside.chained;
          linked = given.beside.linked;
          justified_late = given.beside.justified_late;
          finalized_late = given.beside.finalized_late;
        };
        late = given.late;
        reached = given.reached;
      })
      | inr other ↦ subst (IsGiven state) other.1 given
    ]

better_beside : (state : PlainState) (store : Store) → IsGiven state store → IsBeside state (with_better_justified store state.current_justified_checkpoint)
unfolding with_better_justified
better_beside state store given =
    let checkpoint : Checkpoint = state.current_justified_checkpoint in
    let best : Store = with_best_justified store checkpoint in
    let then_given = best_given state store given in
    elim (chosen (should_update_justified_checkpoint best checkpoint) (record best { justified_checkpoint = checkpoint }) best _ refl) [
      | inl now ↦ subst (IsBeside state) now.1 (record {
        chained = chained_with_justified best.config best.blocks best.justified_checkpoint best.best_justified_checkpoint checkpoint then_given.reached
            then_given.beside.chained;
        linked = then_given.beside.linked;
        justified_late = then_given.late;
        finalized_late = then_given.beside.finalized_late;
      })
      | inr later ↦ subst (IsBeside state) later.1 then_given.beside
    ]

justified_beside : (state : PlainState) (store : Store) → IsBeside state store → IsBeside state (with_justified store state)
unfolding with_justified
justified_beside state store beside =
    let checkpoint : Checkpoint = state.current_justified_checkpoint in
    elim (chosen (nat_lt store.justified_checkpoint.epoch checkpoint.epoch) (with_better_justified store checkpoint) store _ refl) [
      | inl newer ↦ subst (IsBeside state) newer.1 (better_beside state store (record {
        beside = beside;
        late = let less = ltb-true store.justified_checkpoint.epoch checkpoint.epoch newer.0 in omega (arith, less, beside.justified_late);
        reached = newer_is_reached store.config store.blocks state store.justified_checkpoint.epoch beside.linked beside.justified_late
            (ltb-true store.justified_checkpoint.epoch checkpoint.epoch newer.0);
      }))
      | inr older ↦ subst (IsBeside state) older.1 beside
    ]

finalized_chained : (state : PlainState) (store : Store) → IsBeside state store → IsChained (with_finalized store state)
unfolding with_finalized
finalized_chained state store beside = elim (chosen (nat_lt store.finalized_checkpoint.epoch state.finalized_checkpoint.epoch)
    (record store { finalized_checkpoint = state.finalized_checkpoint; justified_checkpoint = state.current_justified_checkpoint }) store _ refl) [
      | inl newer ↦ subst IsChained newer.1 (chained_with_justified store.config store.blocks store.justified_checkpoint store.best_justified_checkpoint
          state.current_justified_checkpoint
          (newer_finalized_is_reached store.config store.blocks state store.finalized_checkpoint.epoch beside.linked beside.finalized_late
          (ltb-true store.finalized_checkpoint.epoch state.finalized_checkpoint.epoch newer.0)) beside.chained)
      | inr older ↦ subst IsChained older.1 beside.chained
    ]

-- A block that is accepted, whose state is linked
pub block_stays_chained : (store : Store) (kept : KeptBlock) → IsStore store → IsLinked store.config store.blocks kept.state → IsChained store
    → IsChained (with_accepted store kept)
unfolding with_accepted
block_stays_chained store kept good linked chained =
    let one = block_beside store kept good linked chained in
    let two = boost_beside kept.state (with_block store kept) kept one in
    finalized_chained kept.state (with_justified (with_boost (with_block store kept) kept) kept.state)
    (justified_beside kept.state (with_boost (with_block store kept) kept) two)

-- The state behind a block of a kept parent is
pub block_state_is_linked : (store : Store) (parent : KeptBlock) (block : SignedBeaconBlock) (t : Stepped) → IsChained store → IsPreset store.config.preset
    → Some parent ≡ block_of store.blocks block.message.parent_root → IsKept parent → block.message.slot < 2 ^ 64
    → state_transition parent.state block store.config ≡ done t → IsLinked store.config store.blocks t.state
block_state_is_linked store parent block t chained preset is kept low done_is =
    step_is_linked store.config store.blocks parent block t (sym is) kept (preset_bounds store.config.preset preset) low
    (found (λ k. IsLinked store.config store.blocks k.state) store.blocks block.message.parent_root parent chained.linked is) done_is

-- ---- a tick

epoch_chained : (store : Store) → IsChained store → IsChained (in_new_epoch store)
unfolding in_new_epoch
epoch_chained store chained = elim (chosen (is_better_justified store) (record store { justified_checkpoint = store.best_justified_checkpoint }) store _ refl) [
  | inl better ↦ subst IsChained better.1 (chained_with_best store.config store.blocks store.justified_checkpoint store.best_justified_checkpoint chained)
  | inr other ↦ subst IsChained other.1 chained
]

slot_chained : (store : Store) → IsChained store → IsChained (in_new_slot store)
unfolding in_new_slot
slot_chained store chained =
    let without_boost : Store = record store { proposer_boost_root = zero_root } in
    elim (chosen (compute_slots_since_epoch_start store.config.preset (get_current_slot store) == 0) (in_new_epoch without_boost) without_boost _ refl) [
      | inl first ↦ subst IsChained first.1 (epoch_chained without_boost chained)
      | inr other ↦ subst IsChained other.1 chained
    ]

pub tick_stays_chained : (store : Store) (time : ℕ) (t : Store) → on_tick store time ≡ done t → IsChained store → IsChained t
unfolding on_tick
tick_stays_chained store time t is chained =
    let at_time : Store = record store { time = time } in
    elim (chosen (nat_lt time store.time) _ _ _ is) [
      | inl back ↦ absurd (false≢true (ap is_done back.1))
      | inr on ↦ elim (chosen (nat_lt (get_current_slot store) (get_current_slot at_time)) (in_new_slot at_time) at_time t (same_value _ t on.1)) [
        | inl later ↦ subst IsChained later.1 (slot_chained at_time chained)
        | inr same ↦ subst IsChained same.1 chained
      ]
    ]

-- ---- what it gives

-- a reached root is kept
pub reached_is_kept : (config : ConfigValues) (blocks : List KeptBlock) (root : List ℕ) (slot : ℕ) → IsReached config blocks root slot
    → is_kept blocks root ≡ true
unfolding is_kept
reached_is_kept config blocks root slot reached = ap is_some reached.found

-- The root of the justified checkpoint is kept, and that of the best one
pub chained_justified_is_kept : (store : Store) → IsChained store → is_kept store.blocks store.justified_checkpoint.root ≡ true
chained_justified_is_kept store chained = reached_is_kept store.config store.blocks store.justified_checkpoint.root _ chained.justified

pub chained_best_justified_is_kept : (store : Store) → IsChained store → is_kept store.blocks store.best_justified_checkpoint.root ≡ true
chained_best_justified_is_kept store chained = reached_is_kept store.config store.blocks store.best_justified_checkpoint.root _ chained.best_justified

-- the state behind a reached root is taken on to the slot
reached_state : (store : Store) (state : PlainState) (slot : ℕ) → (state.slot < slot → IsDone (process_slots state slot store.config))
    → IsDone (state_at store state slot)
unfolding state_at
reached_state store state slot passed = elim (chosen (not (nat_lt state.slot slot)) (done state)
    (bind (process_slots state slot store.config) (λ stepped. done stepped.state)) _ refl) [
      | inl there ↦ record { value = state; is = sym there.1 }
      | inr before ↦
          let stepped = passed (ltb-true state.slot slot (not-false _ before.0)) in
          record { value = stepped.value.state; is = sym before.1 ∙ ap (λ (o : Outcome Stepped). bind o (λ x. done x.state)) stepped.is }
    ]

pub reached_checkpoint_is_done : (store : Store) (checkpoint : Checkpoint) → IsReachedCheckpoint store.config store.blocks checkpoint
    → IsDone (store_target_checkpoint_state store checkpoint)
unfolding store_target_checkpoint_state kept_or
reached_checkpoint_is_done store checkpoint reached =
    let at = reached_state store reached.kept.state (start_slot_of store checkpoint) reached.passed in
    record {
      value = at.value;
      is = ap (λ (o : Option KeptBlock). bind (kept_or FcTargetUnknown o) (λ kept. state_at store kept.state (start_slot_of store checkpoint))) reached.found
          ∙ at.is;
    }

-- The state of the justified checkpoint is neither refused nor limited
pub chained_justified_state_is_done : (store : Store) → IsChained store → IsDone (store_target_checkpoint_state store store.justified_checkpoint)
chained_justified_state_is_done store chained = reached_checkpoint_is_done store store.justified_checkpoint chained.justified

pub ruleset justified_law = (chained_justified_is_kept, chained_justified_state_is_done)
