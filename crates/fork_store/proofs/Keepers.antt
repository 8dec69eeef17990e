-- The kept blocks as the keeper has them, and the states behind them.
use Rattle.std.proofs.Common.{◌≡◌, ◌∙◌, ℕ, ◌<◌, ◌-◌, ◌^◌, List, [], ◌∷◌, ◌++◌, length, Option, Some, None, Result, Ok, Err, IfSome, IsOk, option_map, slice_get, refl, sym, ap, subst, arith, length-append}
use Rattle.std.specs.List.{AllByRecursion}
use Rattle.std.specs.Option.{option_map_or}
use Rattle.std.proofs.lemmas.List.{length-map}
use Rattle.std.proofs.lemmas.Option.{none-some, same_Some, slice_get-map}
use Rattle.std.proofs.lemmas.Bool.{false≢true}
use Rattle.bc_words.specs.Outcome.{Outcome, done, refused, bind, Becomes, Gives}
use Rattle.bc_words.specs.declared.stop.NoMemory.{NoMemory}
use Rattle.bc_words.specs.declared.stop.Stop.{Stop}
use Rattle.bc_words.specs.declared.store_stop.ClashKind.{ClashKind}
use Rattle.bc_words.specs.declared.refusal.Refusal.TheVariants.{FcTargetUnknown}
use Rattle.bc_preset.specs.declared.presets.Preset.{Preset}
use Rattle.bc_preset.specs.declared.configuration.ConfigValues.{ConfigValues}
use Rattle.beacon_types.specs.declared.checkpoint.Checkpoint.{Checkpoint}
use Rattle.beacon_types.specs.Blocks.{block_codec}
use Rattle.beacon_types.specs.declared.block.BeaconBlock.{BeaconBlock}
use Rattle.beacon_types.specs.declared.signed_block.SignedBeaconBlock.{SignedBeaconBlock}
use Rattle.spec_state.specs.declared.plain.PlainState.{PlainState}
use Rattle.spec_state.specs.Soundness.{IsSound}
use Rattle.spec_transition.specs.ProcessSlots.{Stepped}
use Rattle.spec_transition.specs.StateTransition.{IsLatest, state_transition}
use Rattle.spec_fork_choice.specs.Store.{KeptBlock, Store, block_of, slot_of}
use Rattle.spec_fork_choice.specs.Clash.{place_of, clash_with, clash_of}
use Rattle.spec_fork_choice.specs.Slots.{start_slot_of}
use Rattle.spec_fork_choice.specs.GetForkchoiceStore.{get_forkchoice_store}
use Rattle.spec_fork_choice.specs.OnEvent.{first_clash}
use Rattle.spec_fork_choice.specs.StoreTargetCheckpointState.{kept_or, state_at, store_target_checkpoint_state}
use Rattle.state_keeper.specs.Chain.{ChainBlock, Kept, HasState}
use Rattle.fork_store.specs.ChainStep.{CanStep, chain_step}
use Rattle.fork_store.specs.inside.Accepted.{kept_of, settled}
use Rattle.fork_store.specs.Arrays.{node_number}
use Rattle.fork_store.specs.Keepers.{kept_block, kept_blocks, IsKeeperOf}
use Rattle.fork_store.specs.inside.Keepers.{IsStateBehind, IsStepOn}
use Rattle.fork_store.specs.Roots.{roots_of}
use Rattle.fork_store.specs.Stores.{IsRootOf, IsKept, HasPreset}
use Rattle.fork_store.proofs.ChainBlocks.{found_root}
use Rattle.fork_store.proofs.Finds.{block_found, block_missed, inside}
use Rattle.fork_store.proofs.Presets.{found}
use Rattle.fork_store.proofs.Settling.{settle_blocks, settle_config}

-- ---- a block of the keeper

some_mapped : {X Y : Type 0} (f : X → Y) (o : Option X) (y : Y) → option_map f o ≡ Some y → (x : X) × (o ≡ Some x) × (f x ≡ y)
some_mapped f None y is = absurd (none-some y is)
some_mapped f (Some x) y is = (x, refl, same_Some (f x) y is)

module _ (ks : List (ChainBlock SignedBeaconBlock)) (blocks : List KeptBlock) (same : kept_blocks ks ≡ blocks) where
  pub length_held : length ks ≡ length blocks
  unfolding kept_blocks
  length_held = sym (length-map ks kept_block) ∙ ap length same

  pub number_held : (root : List ℕ) (n : ℕ) → Some n ≡ node_number blocks root → n < length ks
  number_held root n at =
      let fits : n < length blocks = inside blocks root n at in
      omega (arith, fits, length_held)

  -- what the keeper has at a number, as a kept block
  pub in_keeper : (n : ℕ) → option_map kept_block (slice_get ks n) ≡ slice_get blocks n
  unfolding kept_blocks
  in_keeper n = sym (slice_get-map kept_block ks n) ∙ ap (λ (bs : List KeptBlock). slice_get bs n) same

  of_number : (root : List ℕ) (n : ℕ) → Some n ≡ node_number blocks root → option_map kept_block (slice_get ks n) ≡ block_of blocks root
  of_number root n at = in_keeper n ∙ block_found blocks root n at

  pub block_read : (root : List ℕ) (n : ℕ) (block : SignedBeaconBlock) → Some n ≡ node_number blocks root → option_map (λ b. b.block) (slice_get ks n) ≡ Some block → Some block.message ≡ option_map (λ k. k.block) (block_of blocks root)
  block_read root n block at is =
      let (b, there, here) = some_mapped (λ (b : ChainBlock SignedBeaconBlock). b.block) (slice_get ks n) block is in
      ap (λ (s : SignedBeaconBlock). Some s.message) (sym here)
      ∙ ap (λ (o : Option (ChainBlock SignedBeaconBlock)). option_map (λ k. k.block) (option_map kept_block o)) (sym there)
      ∙ ap (λ (o : Option KeptBlock). option_map (λ k. k.block) o) (of_number root n at)

  pub state_read : (root : List ℕ) (n : ℕ) (state : PlainState) → AllByRecursion IsKept blocks → Some n ≡ node_number blocks root → HasState ks n state → IsStateBehind blocks root state
  state_read root n state all at is =
      let (b, there, here) = some_mapped (λ (b : ChainBlock SignedBeaconBlock). b.state) (slice_get ks n) state is in
      let found_is : block_of blocks root ≡ Some (kept_block b) = sym (of_number root n at) ∙ ap (λ (o : Option (ChainBlock SignedBeaconBlock)). option_map kept_block o) there in
      record {
        kept = kept_block b;
        found = found_is;
        same = here;
        good = found IsKept blocks root (kept_block b) all (sym found_is);
      }

pub block_unread : (blocks : List KeptBlock) (root : List ℕ) → None ≡ node_number blocks root → None ≡ option_map (λ (k : KeptBlock). k.block) (block_of blocks root)
block_unread blocks root none = ap (λ (o : Option KeptBlock). option_map (λ k. k.block) o) (block_missed blocks root none)

pub ruleset reading = (number_held, block_read, block_unread)

-- ---- a slot, a clash

pub slot_read : (blocks : List KeptBlock) (root : List ℕ) (block : BeaconBlock) → Some block ≡ option_map (λ (k : KeptBlock). k.block) (block_of blocks root) → block.slot ≡ slot_of blocks root
unfolding slot_of
slot_read blocks root block is =
    let (k, there, here) = some_mapped (λ (k : KeptBlock). k.block) (block_of blocks root) block (sym is) in
    ap (λ (b : BeaconBlock). b.slot) (sym here) ∙ ap (λ (o : Option KeptBlock). option_map_or (λ k. k.block.slot) o 0) (sym there)

not_there : {X Y : Type 0} (f : X → Y) (o : Option X) → None ≡ option_map f o → None ≡ o
not_there f None is = refl
not_there f (Some x) is = absurd cc

pub slot_unread : (blocks : List KeptBlock) (root : List ℕ) → None ≡ option_map (λ (k : KeptBlock). k.block) (block_of blocks root) → 0 ≡ slot_of blocks root
unfolding slot_of
slot_unread blocks root is = ap (λ (o : Option KeptBlock). option_map_or (λ k. k.block.slot) o 0) (not_there (λ (k : KeptBlock). k.block) (block_of blocks root) is)

pub ruleset slotting = (slot_read, slot_unread)

pub clash_is : (blocks : List KeptBlock) (root state_root : List ℕ) (block : BeaconBlock) (kept : Option BeaconBlock) (place : ℕ) → kept ≡ option_map (λ (k : KeptBlock). k.block) (block_of blocks root) → place ≡ place_of blocks root → clash_with kept place root state_root block ≡ clash_of blocks root state_root block
unfolding clash_of
clash_is blocks root state_root block kept place is at =
    ap (λ (o : Option BeaconBlock). clash_with o place root state_root block) is
    ∙ ap (λ n. clash_with (option_map (λ (k : KeptBlock). k.block) (block_of blocks root)) n root state_root block) at

pub ruleset clashing = (clash_is)

no_clash_with : (root state_root : List ℕ) (block : BeaconBlock) → clash_with None 0 root state_root block ≡ clash_of [] root state_root block
unfolding block_of place_of
no_clash_with root state_root block = clash_is [] root state_root block None 0 refl refl

-- that of the first block
pub first_clash_is : (root : List ℕ) (block : BeaconBlock) (kind : Option ClashKind) → IsRootOf root block → kind ≡ clash_with None 0 root block.state_root block → kind ≡ first_clash block
unfolding first_clash IsRootOf
first_clash_is root block kind named at =
    at ∙ no_clash_with root block.state_root block
    ∙ ap (λ (r : List ℕ). clash_of [] r block.state_root block) named

pub ruleset first_clashing = (first_clash_is)

-- ---- the state behind a block

module _ (blocks : List KeptBlock) (root : List ℕ) (state : PlainState) (behind : IsStateBehind blocks root state) where
  pub behind_sound : IsSound state
  behind_sound = subst IsSound behind.same behind.good.sound

  pub behind_preset : (preset : Preset) → AllByRecursion (HasPreset preset) blocks → state.preset ≡ preset
  behind_preset preset all = ap (λ (s : PlainState). s.preset) (sym behind.same) ∙ found (HasPreset preset) blocks root behind.kept all (sym behind.found)

  pub behind_some : Some state ≡ option_map (λ k. k.state) (block_of blocks root)
  behind_some = ap Some (sym behind.same) ∙ ap (λ (o : Option KeptBlock). option_map (λ k. k.state) o) (sym behind.found)

-- of the kept block of a number
pub behind_number : (blocks looked held : List KeptBlock) (root : List ℕ) (n : ℕ) (state : PlainState) → looked ≡ blocks → held ≡ blocks → Some n ≡ node_number looked root
    → ((r : List ℕ) → Some n ≡ node_number held r → IsStateBehind held r state) → IsStateBehind blocks root state
behind_number blocks looked held root n state there here at is =
    subst (λ (b : List KeptBlock). IsStateBehind b root state) here (is root (subst (λ (b : List KeptBlock). Some n ≡ node_number b root) (there ∙ sym here) at))

pub behind_none : (blocks : List KeptBlock) (root : List ℕ) → None ≡ node_number blocks root → None ≡ option_map (λ (k : KeptBlock). k.state) (block_of blocks root)
behind_none blocks root none = ap (λ (o : Option KeptBlock). option_map (λ k. k.state) o) (block_missed blocks root none)

pub ruleset answering = (behind_some, behind_none)

-- the state of a checkpoint is that of its root, taken on
pub target_behind : (store : Store) (target : Checkpoint) (state : PlainState) (slot : ℕ) → IsStateBehind store.blocks target.root state → slot ≡ start_slot_of store target → state_at store state slot ≡ store_target_checkpoint_state store target
unfolding store_target_checkpoint_state kept_or
target_behind store target state slot behind at =
    ap (λ n. state_at store state n) at
    ∙ ap (λ (s : PlainState). state_at store s (start_slot_of store target)) (sym behind.same)
    ∙ ap (λ (o : Option KeptBlock). bind (kept_or FcTargetUnknown o) (λ k. state_at store k.state (start_slot_of store target))) (sym behind.found)

pub target_unknown : (store : Store) (target : Checkpoint) → None ≡ node_number store.blocks target.root → store_target_checkpoint_state store target ≡ refused FcTargetUnknown
unfolding store_target_checkpoint_state kept_or
target_unknown store target none = ap (λ (o : Option KeptBlock). bind (kept_or FcTargetUnknown o) (λ k. state_at store k.state (start_slot_of store target))) (sym (block_missed store.blocks target.root none))

pub gives_target : (result : Result PlainState Stop) (store : Store) (target : Checkpoint) (state : PlainState) (slot : ℕ) → IsStateBehind store.blocks target.root state → slot ≡ start_slot_of store target → Gives result (state_at store state slot) → Gives result (store_target_checkpoint_state store target)
gives_target result store target state slot behind at gives = subst (Gives result) (target_behind store target state slot behind at) gives

pub ruleset targeting = (behind_sound, behind_preset, target_unknown, gives_target)

-- ---- the step by a block

-- the state behind a block's parent may be given to the step
pub can_step : (config : ConfigValues) (kept : KeptBlock) (block : SignedBeaconBlock) → IsKept kept → kept.state.preset ≡ config.preset → kept.root ≡ block.message.parent_root → CanStep config kept.state block
unfolding IsRootOf IsLatest
can_step config kept block good preset named = record {
  sound = good.sound;
  preset = preset;
  parent = good.latest ∙ sym good.root ∙ named;
  some = good.some;
}

module _ (config : ConfigValues) (blocks : List KeptBlock) (block : SignedBeaconBlock) (parent : PlainState) (step : Stepped)
    (behind : IsStateBehind blocks block.message.parent_root parent) (is : state_transition parent block config ≡ done step) where
  pub from_kept : state_transition behind.kept.state block config ≡ done step
  from_kept = ap (λ (s : PlainState). state_transition s block config) behind.same ∙ is

  pub is_step : AllByRecursion (HasPreset config.preset) blocks → IsStepOn config blocks block step.state
  unfolding chain_step
  is_step presets = record {
    parent = behind.kept;
    found = behind.found;
    can = can_step config behind.kept block behind.good (found (HasPreset config.preset) blocks block.message.parent_root behind.kept presets (sym behind.found)) (found_root blocks block.message.parent_root behind.kept behind.found);
    step = ap (λ (o : Outcome Stepped). bind o (λ s. done s.state)) from_kept;
  }

-- ---- another block in the keeper

of_mapped : {X Y : Type 0} (f : X → Y) (P : Y → Type 0) (o : Option X) (y : Y) → option_map f o ≡ Some y → P y → IfSome o (λ x. P (f x))
of_mapped f P None y is holds = tt
of_mapped f P (Some x) y is holds = subst P (sym (same_Some (f x) y is)) holds

module _ (ks : List (ChainBlock SignedBeaconBlock)) (blocks : List KeptBlock) (config : ConfigValues) (block : SignedBeaconBlock) (state : PlainState) (n : ℕ)
    (same : kept_blocks ks ≡ blocks) (at : Some n ≡ node_number blocks block.message.parent_root) (step : IsStepOn config blocks block state) where
  parent_is : option_map kept_block (slice_get ks n) ≡ Some step.parent
  parent_is = of_number ks blocks same block.message.parent_root n at ∙ step.found

  pub may_step : IfSome (slice_get ks n) (λ before. CanStep config before.state block)
  may_step = of_mapped kept_block (λ (k : KeptBlock). CanStep config k.state block) (slice_get ks n) step.parent parent_is step.can

  pub steps_to : IfSome (slice_get ks n) (λ before. chain_step config before.state block ≡ done state)
  steps_to = of_mapped kept_block (λ (k : KeptBlock). chain_step config k.state block ≡ done state) (slice_get ks n) step.parent parent_is step.step

pub few_held : (ks : List (ChainBlock SignedBeaconBlock)) (blocks : List KeptBlock) → kept_blocks ks ≡ blocks → length blocks < 2 ^ 32 - 1 → length ks < 2 ^ 32 - 1
few_held ks blocks same few = omega (arith, few, length_held ks blocks same)

-- what was done where there was room
pub done_becomes : {U A : Type 0} (result : Result U NoMemory) (old new value : A) → Becomes result old new value → IsOk result → new ≡ value
done_becomes (Ok x) old new value is ok = is
done_becomes (Err stop) old new value is ok = absurd (false≢true ok)

-- a store whose blocks another one may have joined
pub becomes_store : {U : Type 0} (result : Result U NoMemory) (s : Store) (new value : List KeptBlock) → Becomes result s.blocks new value → Becomes result s (record s { blocks = new }) (record s { blocks = value })
becomes_store (Ok x) s new value is = ap (λ (b : List KeptBlock). record s { blocks = b }) is
becomes_store (Err stop) s new value is = ap (λ (b : List KeptBlock). record s { blocks = b }) is

pub few_after : {U : Type 0} (result : Result U NoMemory) (old new : List KeptBlock) (kept : KeptBlock) → Becomes result old new (old ++ kept ∷ []) → length old < 2 ^ 32 - 1 → length new < 2 ^ 32
few_after (Ok x) old new kept is few = let more = length-append old (kept ∷ []) in let long : length new ≡ length (old ++ kept ∷ []) = ap length is in omega (arith, few, more, long)
few_after (Err stop) old new kept is few = let long : length new ≡ length old = ap length is in omega (arith, few, long)

more_kept : (ks : List (ChainBlock SignedBeaconBlock)) (k : ChainBlock SignedBeaconBlock) → kept_blocks (ks ++ k ∷ []) ≡ kept_blocks ks ++ kept_block k ∷ []
unfolding kept_blocks
more_kept [] k = refl
more_kept (x ∷ ks) k = ap (λ (l : List KeptBlock). kept_block x ∷ l) (more_kept ks k)

-- the kept blocks of a keeper that took another one
pub kept_added : (ks new : List (ChainBlock SignedBeaconBlock)) (blocks : List KeptBlock) (block : SignedBeaconBlock) (state : PlainState) (root : List ℕ) (n : ℕ) → kept_blocks ks ≡ blocks → IsRootOf root block.message → new ≡ ks ++ record { block = block; parent = n; state = state } ∷ [] → kept_blocks new ≡ blocks ++ kept_of root block.message state ∷ []
unfolding IsRootOf
kept_added ks new blocks block state root n same named is =
    ap kept_blocks is ∙ more_kept ks (record { block = block; parent = n; state = state })
    ∙ ap (λ (l : List KeptBlock). l ++ kept_of (block_codec.hash_tree_root block.message) block.message state ∷ []) same
    ∙ ap (λ (r : List ℕ). blocks ++ kept_of r block.message state ∷ []) (sym named)

-- ---- the keeper of a store

pub keeper_few : (store : Store) (keeper : Kept ConfigValues SignedBeaconBlock) → IsKeeperOf store keeper → length store.blocks < 2 ^ 32
keeper_few store keeper is = is.few

pub keeper_blocks : (store : Store) (keeper : Kept ConfigValues SignedBeaconBlock) → IsKeeperOf store keeper → kept_blocks keeper.blocks ≡ store.blocks
keeper_blocks store keeper is = is.blocks

-- which is as it was
pub keeper_same : (store : Store) (keeper new : Kept ConfigValues SignedBeaconBlock) → IsKeeperOf store keeper → new ≡ keeper → IsKeeperOf store new
keeper_same store keeper new is same = subst (IsKeeperOf store) (sym same) is

-- of a store with the same blocks
pub keeper_stays : (store new : Store) (keeper : Kept ConfigValues SignedBeaconBlock) → IsKeeperOf store keeper → new.config ≡ store.config → new.blocks ≡ store.blocks → IsKeeperOf new keeper
keeper_stays store new keeper is config blocks = record {
  stepper = is.stepper ∙ sym config;
  blocks = is.blocks ∙ sym blocks;
  few = subst (λ (b : List KeptBlock). length b < 2 ^ 32) (sym blocks) is.few;
}

pub keeper_settled : (store new : Store) (keeper : Kept ConfigValues SignedBeaconBlock) (slot : ℕ) (root : List ℕ) (justified finalized : Checkpoint) → IsKeeperOf store keeper → new ≡ settled store slot root justified finalized → IsKeeperOf new keeper
keeper_settled store new keeper slot root justified finalized is settled_is =
    keeper_stays store new keeper is (settle_config store slot root justified finalized new settled_is) (settle_blocks store slot root justified finalized new settled_is)

pub ruleset keeping = (keeper_few, keeper_blocks, keeper_same, keeper_stays)

-- ---- of the first block

pub first_kept : (ks : List (ChainBlock SignedBeaconBlock)) (block : BeaconBlock) (signature : List ℕ) (root : List ℕ) (state : PlainState) → IsRootOf root block → ks ≡ record { block = record { message = block; signature = signature }; parent = 0; state = state } ∷ [] → kept_blocks ks ≡ kept_of root block state ∷ []
unfolding kept_blocks IsRootOf
first_kept ks block signature root state named is =
    ap kept_blocks is ∙ ap (λ (r : List ℕ). kept_of r block state ∷ []) (sym named)

-- the keeper whose one block is the first one is the store's
pub first_keeper_of : (config : ConfigValues) (state : PlainState) (block : BeaconBlock) (root : List ℕ) (store : Store) (keeper : Kept ConfigValues SignedBeaconBlock) → IsRootOf root block → keeper.stepper ≡ config → kept_blocks keeper.blocks ≡ kept_of root block state ∷ [] → store ≡ get_forkchoice_store config state block → IsKeeperOf store keeper
unfolding IsRootOf get_forkchoice_store
first_keeper_of config state block root store keeper named stepper blocks is =
    subst (λ (s : Store). IsKeeperOf s keeper) (sym is) (record {
      stepper = stepper;
      blocks = blocks ∙ ap (λ (r : List ℕ). kept_of r block state ∷ []) named;
      few = omega arith;
    })

-- of one block there is one root, and it is kept
pub first_root : (ks : List (ChainBlock SignedBeaconBlock)) (block : BeaconBlock) (root : List ℕ) (state : PlainState) → kept_blocks ks ≡ kept_of root block state ∷ [] → roots_of (kept_blocks ks) ≡ root ∷ []
first_root ks block root state is = ap roots_of is

pub first_all : (ks : List (ChainBlock SignedBeaconBlock)) (block : BeaconBlock) (root : List ℕ) (state : PlainState) → kept_blocks ks ≡ kept_of root block state ∷ [] → IsKept (kept_of root block state) → AllByRecursion IsKept (kept_blocks ks)
first_all ks block root state is good = subst (AllByRecursion IsKept) (sym is) (good, tt)

pub ruleset opening = (first_root, first_all)
