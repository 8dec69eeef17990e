-- The checks of a block and the step of its parent's state, one after another.
use Rattle.std.proofs.Common.{◌≡◌, ◌∙◌, ◌<◌, ◌^◌, ℕ, true, leb, nat_lt, List, Option, Some, None, Result, Ok, Err, IfOk, is_some, refl, sym, ap, subst}
use Rattle.bc_words.specs.Outcome.{Outcome, done, refused, bind, Stops, StopsExactly, Gives}
use Rattle.bc_words.specs.declared.stop.Stop.{Stop}
use Rattle.bc_words.specs.declared.store_stop.StoreStop.{StoreStop}
use Rattle.bc_words.specs.declared.refusal.Refusal.TheVariants.{ParentUnknown, FutureBlock, BeforeFinalized, NotOnFinalized}
use Rattle.bc_words.proofs.Outcomes.{stops_bound, stops_exactly}
use Rattle.bc_preset.specs.Presets.{IsPreset}
use Rattle.beacon_types.specs.Equality.{same_root}
use Rattle.beacon_types.specs.declared.signed_block.SignedBeaconBlock.{SignedBeaconBlock}
use Rattle.spec_state.specs.declared.plain.PlainState.{PlainState}
use Rattle.spec_blocks.specs.Checks.{check}
use Rattle.spec_transition.specs.ProcessSlots.{Stepped}
use Rattle.spec_transition.specs.StateTransition.{state_transition}
use Rattle.epoch_visitor.specs.Shown.{shown_all}
use Rattle.spec_fork_choice.specs.Store.{KeptBlock, Store, block_of, is_kept}
use Rattle.spec_fork_choice.specs.Slots.{get_current_slot, start_slot_of}
use Rattle.spec_fork_choice.specs.GetAncestor.{get_ancestor}
use Rattle.spec_fork_choice.specs.StoreTargetCheckpointState.{kept_or}
use Rattle.spec_fork_choice.specs.OnBlock.{BlockIn, block_step}
use Rattle.fork_store.specs.Arrays.{node_number}
use Rattle.fork_store.specs.inside.Accepted.{check_block}
use Rattle.fork_store.specs.inside.Chains.{IsChained, IsLinked}
use Rattle.fork_store.specs.inside.Keepers.{IsStateBehind, IsStepOn}
use Rattle.fork_store.specs.Stores.{IsStore}
use Rattle.fork_store.specs.Trees.{HasParent}
use Rattle.fork_store.proofs.Chains.{block_state_is_linked}
use Rattle.fork_store.proofs.Finds.{block_missed}
use Rattle.fork_store.proofs.Following.{number_kept}
use Rattle.fork_store.proofs.Keepers.{from_kept, is_step}
use Rattle.fork_store.proofs.Trees.{has_parent}
use Rattle.fork_store.proofs.Votes.{assoc, same_next}

found_kept : (o : Option KeptBlock) → is_some o ≡ true → (k : KeptBlock) × (o ≡ Some k)
found_kept (Some k) is = (k, refl)
found_kept None is = absurd cc

module _ (store : Store) (block : SignedBeaconBlock) where
  abbrev finalized_slot : ℕ
  finalized_slot = start_slot_of store store.finalized_checkpoint

  -- by a parent that is found
  pub on_parent : (kept : KeptBlock) → block_of store.blocks block.message.parent_root ≡ Some kept → bind (check_block store block.message) (λ _. state_transition kept.state block store.config) ≡ block_step store block
  unfolding check_block block_step kept_or
  on_parent kept is =
      let step : Unit {0} → Outcome Stepped = λ _. state_transition kept.state block store.config in
      let future : Outcome (Unit {0}) = check (leb block.message.slot (get_current_slot store)) FutureBlock in
      let before : Outcome (Unit {0}) = check (nat_lt finalized_slot block.message.slot) BeforeFinalized in
      let behind : Outcome (Unit {0}) = check (same_root (get_ancestor store block.message.parent_root finalized_slot) store.finalized_checkpoint.root) NotOnFinalized in
      assoc future (λ _. bind before (λ _. behind)) step
      ∙ same_next future (λ _. bind (bind before (λ _. behind)) step) (λ _. bind before (λ _. bind behind step)) (λ _. assoc before (λ _. behind) step)
      ∙ ap (λ (o : Option KeptBlock). bind (kept_or ParentUnknown o) (λ k. bind future (λ _. bind before (λ _. bind behind (λ _. state_transition k.state block store.config))))) (sym is)

  pub parent_unknown : None ≡ node_number store.blocks block.message.parent_root → block_step store block ≡ refused ParentUnknown
  unfolding block_step kept_or
  parent_unknown none =
      ap (λ (o : Option KeptBlock). bind (kept_or ParentUnknown o) (λ k. bind (check (leb block.message.slot (get_current_slot store)) FutureBlock) (λ _. bind (check (nat_lt finalized_slot block.message.slot) BeforeFinalized) (λ _. bind (check (same_root (get_ancestor store block.message.parent_root finalized_slot) store.finalized_checkpoint.root) NotOnFinalized) (λ _. state_transition k.state block store.config)))))
      (sym (block_missed store.blocks block.message.parent_root none))

  -- a check that stops
  pub check_stops : (stop : Stop) (parent : ℕ) → Some parent ≡ node_number store.blocks block.message.parent_root → StopsExactly stop (check_block store block.message) → Stops stop (block_step store block)
  unfolding is_kept
  check_stops stop parent at stops =
      let (kept, there) = found_kept (block_of store.blocks block.message.parent_root) (number_kept store.blocks block.message.parent_root parent (sym at)) in
      subst (Stops stop) (on_parent kept there) (stops_bound stop (check_block store block.message) (λ _. state_transition kept.state block store.config) (stops_exactly stop (check_block store block.message) stops))

  module _ (parent : PlainState) (behind : IsStateBehind store.blocks block.message.parent_root parent) (checked : Unit {0}) (passes : check_block store block.message ≡ done checked) where
    step_is : state_transition parent block store.config ≡ block_step store block
    step_is =
        ap (λ (s : PlainState). state_transition s block store.config) (sym behind.same)
        ∙ ap (λ (o : Outcome (Unit {0})). bind o (λ _. state_transition behind.kept.state block store.config)) (sym passes)
        ∙ on_parent behind.kept behind.found

    -- and the step behind them
    pub step_gives : (result : Result Stepped Stop) → Gives result (state_transition parent block store.config) → Gives result (block_step store block)
    step_gives result gives = subst (Gives result) step_is gives

    pub step_done : (step : Stepped) → state_transition parent block store.config ≡ done step → block_step store block ≡ done step
    step_done step is = sym step_is ∙ is

module _ (store : Store) (block : SignedBeaconBlock) (parent : PlainState) (step : Stepped) (behind : IsStateBehind store.blocks block.message.parent_root parent) (is : state_transition parent block store.config ≡ done step) where
  pub step_parent : HasParent store.blocks block.message
  step_parent = has_parent store.blocks behind.kept block store.config step (sym behind.found) behind.good (from_kept store.config store.blocks block parent step behind is)

  pub step_linked : IsChained store → IsPreset store.config.preset → block.message.slot < 2 ^ 64 → IsLinked store.config store.blocks step.state
  step_linked chained preset low = block_state_is_linked store behind.kept block step chained preset (sym behind.found) behind.good low (from_kept store.config store.blocks block parent step behind is)

  pub stepped_on : IsStore store → IsStepOn store.config store.blocks block step.state
  stepped_on sound = is_step store.config store.blocks block parent step behind is sound.presets

-- a visitor was shown what an accepted block leaves, where it was shown what the block's step entered
pub shown_by : {V : Type 0} (shown : V → PlainState → V) (old new : V) (entered : List PlainState) (result : Result BlockIn StoreStop) → IfOk result (λ given. given.entered ≡ entered) → new ≡ shown_all shown old entered
    → IfOk result (λ given. new ≡ shown_all shown old given.entered)
shown_by shown old new entered (Ok given) same is = is ∙ ap (shown_all shown old) (sym same)
shown_by shown old new entered (Err stop) same is = tt
