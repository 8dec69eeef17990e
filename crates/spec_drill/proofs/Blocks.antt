-- A made block is accepted by a store whose blocks are its chain, unless it clashes, and then the store has the longer chain.
use Rattle.std.proofs.Common.{◌≡◌, ◌∙◌, ℕ, ◌+◌, ◌*◌, ◌/◌, ◌%◌, ◌<◌, ◌≤◌, Bool, true, false, leb, nat_lt, List, [], ◌∷◌, ◌++◌, length, Option, Some, None, is_some, if◌then◌else◌, refl, sym, ap, subst, inl, inr, arith, length-append}
use Rattle.std.specs.List.{AllByRecursion, find}
use Rattle.std.specs.Option.{option_map}
use Rattle.std.proofs.lemmas.Bool.{lt-ltb, le-leb, not-false}
use Rattle.std.proofs.Math.Nat.{div-add-mod, mul_comm, mul-le-mul_left}
use Rattle.bc_words.specs.Outcome.{Outcome, done}
use Rattle.bc_words.specs.Events.{EventOutcome, accepted, then_event, on_the_way}
use Rattle.bc_words.specs.declared.store_stop.ClashKind.{ClashKind}
use Rattle.bc_words.specs.declared.store_stop.ClashKind.TheVariants.{ZeroBlock, ZeroState, Kept}
use Rattle.bc_words.specs.declared.refusal.Refusal.TheVariants.{ParentUnknown, FutureBlock, BeforeFinalized, NotOnFinalized}
use Rattle.bc_preset.specs.declared.presets.Preset.{Preset}
use Rattle.bc_preset.specs.declared.configuration.ConfigValues.{ConfigValues}
use Rattle.bc_preset.proofs.Bounds.{preset_bounds}
use Rattle.beacon_types.specs.Equality.{same_root}
use Rattle.beacon_types.specs.declared.checkpoint.Checkpoint.{Checkpoint}
use Rattle.beacon_types.specs.declared.attestation.Attestation.{Attestation}
use Rattle.beacon_types.specs.declared.block.BeaconBlock.{BeaconBlock}
use Rattle.beacon_types.specs.Blocks.{block_codec}
use Rattle.spec_state.specs.declared.plain.PlainState.{PlainState}
use Rattle.spec_state.specs.Genesis.{zero_root, block_header_of, header_root_of}
use Rattle.spec_state.specs.Soundness.{IsSound}
use Rattle.spec_state.specs.Accessors.{get_current_epoch, get_previous_epoch}
use Rattle.spec_blocks.specs.Checks.{check}
use Rattle.spec_blocks.proofs.Done.{chosen}
use Rattle.spec_epochs.specs.WeighJustificationAndFinalization.{justification_of}
use Rattle.spec_transition.specs.ProcessSlots.{Stepped, process_slots}
use Rattle.spec_transition.specs.StateTransition.{state_transition, IsLatest}
use Rattle.spec_transition.proofs.HeaderChecks.{Filled, header_fills}
use Rattle.spec_transition.proofs.HeaderRoot.{block_is_latest}
use Rattle.spec_fork_choice.specs.Store.{KeptBlock, Store, block_of, is_kept}
use Rattle.spec_fork_choice.specs.Clash.{clash_with, clash_of, is_another, place_of}
use Rattle.spec_fork_choice.specs.Slots.{get_current_slot, start_slot_of}
use Rattle.spec_fork_choice.specs.GetAncestor.{get_ancestor}
use Rattle.spec_fork_choice.specs.StoreTargetCheckpointState.{kept_or}
use Rattle.spec_fork_choice.specs.OnBlock.{BlockIn, block_step, accept_block, on_block, with_accepted}
use Rattle.spec_fork_choice.proofs.SameBlock.{block_decides}
use Rattle.spec_drill.specs.MakeBlock.{MadeBlock}
use Rattle.spec_drill.specs.Taken.{Takes}
use Rattle.spec_drill.specs.inside.Calm.{IsCalm}
use Rattle.spec_drill.specs.inside.OnChain.{root_at, AllThree, Stands, IsLinked, stands_on, IsOnChain}
use Rattle.spec_drill.specs.inside.Handled.{handled}
use Rattle.spec_fork_choice.specs.OnEvent as outcomes
use Rattle.spec_drill.specs.Make as makes
use Rattle.spec_blocks.proofs.Gives.{gives_then, gives_is, is_gives, check_gives}
use Rattle.spec_drill.proofs.Block.{root_is_same, IsMade, made_is_taken}
use Rattle.spec_drill.proofs.Linked.{block_linked}
use Rattle.spec_drill.proofs.Bytes.{block_root_within}
use Rattle.spec_drill.proofs.Walks.{root_before, ancestor_is, found_more, found_last}
use Rattle.spec_drill.proofs.Stores.{accepted_is}

-- ---- what a clash that doesn't come says

record NoClash (blocks : List KeptBlock) (root state_root : List ℕ) (block : BeaconBlock) : Type 0 where
  state : same_root state_root zero_root ≡ false
  same : is_another (option_map (λ kept. kept.block) (block_of blocks root)) block ≡ false

no_clash : (blocks : List KeptBlock) (root state_root : List ℕ) (block : BeaconBlock) → clash_of blocks root state_root block ≡ None → NoClash blocks root state_root block
unfolding clash_of clash_with
no_clash blocks root state_root block none = elim (chosen (same_root root zero_root) (Some ZeroBlock) _ _ none) [
  | inl zeros ↦ absurd (let e = zeros.1 in cc)
  | inr other ↦ elim (chosen (same_root state_root zero_root) (Some ZeroState) _ _ other.1) [
    | inl zeros ↦ absurd (let e = zeros.1 in cc)
    | inr some ↦ elim (chosen (is_another (option_map (λ kept. kept.block) (block_of blocks root)) block) (Some (Kept (place_of blocks root))) None _ some.1) [
      | inl another ↦ absurd (let e = another.1 in cc)
      | inr same ↦ record { state = some.0; same = same.0 }
    ]
  ]
]

-- a block later than all kept ones isn't kept
fresh_of : (o : Option KeptBlock) (block : BeaconBlock) (most : ℕ) → is_another (option_map (λ kept. kept.block) o) block ≡ false → ((j : KeptBlock) → o ≡ Some j → j.block.slot ≤ most) → most < block.slot → is_some o ≡ false
unfolding is_another
fresh_of None block most same low later = refl
fresh_of (Some j) block most same low later =
    let e : j.block ≡ block = (block_decides j.block block).0 (not-false _ same) in
    absurd (let h = low j refl in let s = ap (λ (b : BeaconBlock). b.slot) e in omega arith)

last_first : (b : Bool) (x : KeptBlock) (o p : Option KeptBlock) (j : KeptBlock) (P : KeptBlock → Type 0) → (if b then Some x else p) ≡ Some j → ((if b then Some x else o) ≡ Some j → P j) → (p ≡ Some j → (o ≡ Some j → P j) → P j) → P j
last_first true x o p j P e h k = h e
last_first false x o p j P e h k = k e h

-- what is found among one block more is that, or was found before
found_either : (P : KeptBlock → Type 0) (blocks : List KeptBlock) (last : KeptBlock) (root : List ℕ) (j : KeptBlock) → block_of (blocks ++ last ∷ []) root ≡ Some j → (block_of blocks root ≡ Some j → P j) → P last → P j
unfolding block_of
found_either P [] last root j e h l = only (same_root last.root root) last j e l where
  only : (b : Bool) (last j : KeptBlock) → (if b then Some last else None) ≡ Some j → P last → P j
  only true last j e l = subst P (let h : last ≡ j = cc in h) l
  only false last j e l = absurd cc
found_either P (b ∷ blocks) last root j e h l =
    last_first (same_root b.root root) b (find (λ kept. same_root kept.root root) blocks) (find (λ kept. same_root kept.root root) (blocks ++ last ∷ [])) j P e h (λ e h. found_either P blocks last root j e h l)

all_more : (blocks : List KeptBlock) (last : KeptBlock) (ks : List KeptBlock) → AllByRecursion (λ j. block_of blocks j.root ≡ Some j) ks → AllByRecursion (λ j. block_of (blocks ++ last ∷ []) j.root ≡ Some j) ks
all_more blocks last [] all = tt
all_more blocks last (j ∷ ks) all = (found_more blocks last j.root j all.0, all_more blocks last ks all.1)

pub first_low : (s : PlainState) (n epoch : ℕ) → IsSound s → s.preset.slots_per_epoch ≡ n → epoch ≤ get_previous_epoch s → 0 < epoch → 8 ≤ n → epoch * n < s.slot
unfolding get_previous_epoch get_current_epoch
first_low s n epoch sound size low some wide =
    let at : s.slot / s.preset.slots_per_epoch ≡ s.slot / n = ap (λ (m : ℕ). s.slot / m) size in
    let parts : n * (s.slot / n) + s.slot % n ≡ s.slot = div-add-mod s.slot n in
    let more : n * (epoch + 1) ≤ n * (s.slot / n) = mul-le-mul_left {m = epoch + 1} {n = s.slot / n} n (omega arith) in
    let turned : epoch * n ≡ n * epoch = mul_comm epoch n in
    omega (arith, more)

final_there : (places : ℕ → List ℕ → Type 0) (root : List ℕ) (s : PlainState) → IsLinked places root s → 0 < s.finalized_checkpoint.epoch → places (s.finalized_checkpoint.epoch * s.preset.slots_per_epoch) s.finalized_checkpoint.root
unfolding justification_of
final_there places root s linked some = linked.checkpoints.finalized.there some

module _ (config : ConfigValues) (k : KeptBlock) (chain : List KeptBlock) (store : Store) (on : IsOnChain config k chain store) (at : Stepped) (votes : List Attestation) (m : MadeBlock)
    (slots : process_slots k.state at.state.slot config ≡ done at) (made : IsMade at.state k.root votes config m) (later : k.block.slot < at.state.slot) (linked : IsLinked (stands_on (k ∷ chain)) k.root at.state) (of : at.state.preset ≡ config.preset) (calm : IsCalm 0 at.state) (now : get_current_slot store ≡ at.state.slot) where
  abbrev n : ℕ
  n = config.preset.slots_per_epoch

  abbrev block : BeaconBlock
  block = m.block.message

  abbrev root : List ℕ
  root = block_codec.hash_tree_root block

  abbrev kept : KeptBlock
  kept = record { root = root; block = block; state = m.state }

  abbrev step : Stepped
  step = record at { state = m.state }

  top : block_of store.blocks k.root ≡ Some k
  top = on.has.found.0

  taken : state_transition k.state m.block config ≡ done step
  taken = made_is_taken config k.state at k.root votes m slots made

  start_is : start_slot_of store store.finalized_checkpoint ≡ store.finalized_checkpoint.epoch * n
  start_is = ap (λ (c : ConfigValues). store.finalized_checkpoint.epoch * c.preset.slots_per_epoch) on.has.config_is

  steps : block_step store m.block ≡ done step
  unfolding block_step kept_or
  steps =
      let slot_is = made.slot in
      let low = on.final_low in
      let start = start_is in
      let parent : kept_or ParentUnknown (block_of store.blocks block.parent_root) ≡ done k = ap (λ (r : List ℕ). kept_or ParentUnknown (block_of store.blocks r)) made.parent ∙ ap (kept_or ParentUnknown) top in
      let final : get_ancestor store block.parent_root (start_slot_of store store.finalized_checkpoint) ≡ store.finalized_checkpoint.root =
      ap (λ (r : List ℕ). get_ancestor store r (start_slot_of store store.finalized_checkpoint)) made.parent ∙ (ap (get_ancestor store k.root) start_is ∙ (ancestor_is config store k chain (store.finalized_checkpoint.epoch * n) on.has ∙ sym on.finalized)) in
      gives_is step _
      (gives_then (λ j. j ≡ k) (λ x. x ≡ step) (kept_or ParentUnknown (block_of store.blocks block.parent_root)) _ (is_gives k _ parent) (λ j j_is.
      gives_then (λ u. u ≡ tt) (λ x. x ≡ step) (check (leb block.slot (get_current_slot store)) FutureBlock) _ (is_gives tt _ (check_gives _ FutureBlock (le-leb _ _ (omega arith)))) (λ u h.
      gives_then (λ u. u ≡ tt) (λ x. x ≡ step) (check (nat_lt (start_slot_of store store.finalized_checkpoint) block.slot) BeforeFinalized) _ (is_gives tt _ (check_gives _ BeforeFinalized (lt-ltb _ _ (omega arith)))) (λ u h.
      gives_then (λ u. u ≡ tt) (λ x. x ≡ step) (check (same_root (get_ancestor store block.parent_root (start_slot_of store store.finalized_checkpoint)) store.finalized_checkpoint.root) NotOnFinalized) _ (is_gives tt _ (check_gives _ NotOnFinalized (root_is_same _ _ final))) (λ u h.
      is_gives step _ (ap (λ (c : ConfigValues). state_transition j.state m.block c) on.has.config_is ∙ (ap (λ (j : KeptBlock). state_transition j.state m.block config) j_is ∙ taken)))))))

  not_kept : is_another (option_map (λ kept. kept.block) (block_of store.blocks root)) block ≡ false → is_kept store.blocks root ≡ false
  unfolding is_kept
  not_kept same = fresh_of (block_of store.blocks root) block k.block.slot same (λ j e. on.only root j e) (let s = made.slot in omega arith)

  latest_of : IsLatest m.state block → header_root_of m.state ≡ root
  unfolding IsLatest
  latest_of h = h

  -- checkpoints that stood before the block stand with it
  checkpoints_low : at.state.preset.slots_per_epoch ≡ n → AllThree (Stands (stands_on (k ∷ chain)) at.state.preset.slots_per_epoch) (justification_of at.state) → IsCalm 0 at.state
      → AllThree (Stands (stands_on (kept ∷ k ∷ chain)) at.state.preset.slots_per_epoch) (justification_of at.state)
  unfolding justification_of
  checkpoints_low size all calm =
      let slot_is = made.slot in
      let bounds = preset_bounds at.state.preset calm.preset in
      let least = bounds.least_slots_per_epoch in
      let q : ℕ = at.state.preset.slots_per_epoch in
      let move : (c : Checkpoint) → c.epoch ≤ get_previous_epoch at.state → Stands (stands_on (k ∷ chain)) q c → Stands (stands_on (kept ∷ k ∷ chain)) q c = λ c low h. record { there = λ some. h.there some ∙ sym (root_before kept (k ∷ chain) (c.epoch * q) (let l = first_low at.state q c.epoch calm.sound refl low some least in omega arith)); root = h.root } in
      record { previous = move _ calm.sound.previous_justified all.previous; current = move _ calm.sound.current_justified all.current; finalized = move _ calm.sound.finalized all.finalized }

  -- the store behind it is on the longer chain
  longer : clash_of store.blocks root block.state_root block ≡ None → IsOnChain config kept (k ∷ chain) (with_accepted store kept) × (with_accepted store kept).time ≡ store.time
  longer none =
      let c = no_clash store.blocks root block.state_root block none in
      let slot_is = made.slot in
      let fresh : is_kept store.blocks root ≡ false = not_kept c.same in
      let a = accepted_is store kept fresh in
      let bounds = preset_bounds at.state.preset calm.preset in
      let sizes : at.state.preset.slots_per_epoch ≡ n = ap (λ (p : Preset). p.slots_per_epoch) of in
      let least = bounds.least_slots_per_epoch in
      let m_size : m.state.preset.slots_per_epoch ≡ n = ap (λ (p : Preset). p.slots_per_epoch) (made.preset ∙ of) in
      let m_slot = made.at in
      let sound = made.calm.sound in
      let filled : Filled (block_header_of m.state) = header_fills m.state (subst (λ (r : List ℕ). same_root r zero_root ≡ false) made.state_root c.state) in
      let latest : header_root_of m.state ≡ root = latest_of (block_is_latest k.state m.block config step taken) in
      let places : ℕ → List ℕ → Type 0 = stands_on (kept ∷ k ∷ chain) in
      let keeps : (t : ℕ) (r : List ℕ) → t < at.state.slot → stands_on (k ∷ chain) t r → places t r = λ t r less h. h ∙ sym (root_before kept (k ∷ chain) t (omega arith)) in
      let has_few = on.has.few in
      let more_blocks = ap length a.blocks ∙ length-append store.blocks (kept ∷ []) in
      let linked_too : IsLinked places root m.state =
      block_linked (stands_on (k ∷ chain)) places root config at.state m.state block made.processed keeps latest filled linked.told (checkpoints_low sizes linked.checkpoints calm) in
      let low = on.final_low in (
        record {
          has = record {
            config_is = a.config ∙ on.has.config_is;
            few = omega arith;
            found = subst (λ (bs : List KeptBlock). AllByRecursion (λ j. block_of bs j.root ≡ Some j) (kept ∷ k ∷ chain)) (sym a.blocks) (found_last store.blocks kept fresh, all_more store.blocks kept (k ∷ chain) on.has.found);
            joined = (made.parent, (let l = later in omega arith), on.has.joined);
            calm = (record { root = block_root_within block; calm = made.calm; slot = made.at ∙ sym made.slot; preset = made.preset ∙ of }, on.has.calm);
          };
          only = λ r j e. found_either (λ j. j.block.slot ≤ block.slot) store.blocks kept r j (ap (λ (bs : List KeptBlock). block_of bs r) (sym a.blocks) ∙ e) (λ e. let o = on.only r j e in omega arith) (omega arith);
          genesis_time = a.genesis_time ∙ on.genesis_time;
          finalized = elim a.finalized [
            | inl same ↦ subst (λ (f : Checkpoint). f.root ≡ root_at (kept ∷ k ∷ chain) (f.epoch * n)) (sym same) (on.finalized ∙ sym (root_before kept (k ∷ chain) (store.finalized_checkpoint.epoch * n) (omega arith)))
            | inr newer ↦ subst (λ (f : Checkpoint). f.root ≡ root_at (kept ∷ k ∷ chain) (f.epoch * n)) (sym newer.0)
                (subst (λ (q : ℕ). m.state.finalized_checkpoint.root ≡ root_at (kept ∷ k ∷ chain) (m.state.finalized_checkpoint.epoch * q)) m_size (final_there places root m.state linked_too (let l = newer.1 in omega arith)))
          ];
          final_low = elim a.finalized [
            | inl same ↦ let e = ap (λ (f : Checkpoint). f.epoch * n) same in omega arith
            | inr newer ↦ let e = ap (λ (f : Checkpoint). f.epoch * n) newer.0 in let l = first_low m.state n m.state.finalized_checkpoint.epoch sound m_size sound.finalized (let l = newer.1 in omega arith) (omega arith) in omega arith
          ];
          linked = linked_too;
        },
        a.time,
      )

  -- it clashes, or is accepted
  judged : (P : Store → Type 0) → ((new : Store) → IsOnChain config kept (k ∷ chain) new → new.time ≡ store.time → P new) → (clash : Option ClashKind) → clash_of store.blocks root block.state_root block ≡ clash
      → Takes (then_event (accept_block store block root step clash) (λ new. accepted (new.0, outcomes.block new.1))) P
  unfolding accept_block
  judged P later (Some kind) is = tt
  judged P later None is = let l = longer is in later (with_accepted store kept) l.0 l.1

  pub block_taken : (P : Store → Type 0) → ((new : Store) → IsOnChain config kept (k ∷ chain) new → new.time ≡ store.time → P new) → Takes (handled store (makes.block m.block)) P
  unfolding handled on_block
  block_taken P later =
      let step_of : Outcome Stepped → EventOutcome (Store × BlockIn) = λ o. on_the_way o (λ step. accept_block store block root step (clash_of store.blocks root block.state_root block)) in
      subst (λ (o : Outcome Stepped). Takes (then_event (step_of o) (λ new. accepted (new.0, outcomes.block new.1))) P) (sym steps)
      (judged P later (clash_of store.blocks root block.state_root block) refl)
