-- A kept block stands behind its parent by the step of the parent's state. Where it comes again, that step is done once more.
use Rattle.std.proofs.Common.{◌≡◌, ◌∙◌, ◌<◌, ℕ, List, [], Option, Some, None, option_map, slice_get, length, refl, sym, ap, subst, arith}
use Rattle.std.specs.List.{AllByRecursion}
use Rattle.std.proofs.lemmas.Option.{same_Some, slice_get_within}
use Rattle.bc_words.specs.Outcome.{Outcome, done, refused, limited, bind}
use Rattle.bc_words.specs.Events.{EventOutcome, accepted, event_refused, event_limited, event_clashes, on_the_way}
use Rattle.bc_words.specs.declared.store_stop.ClashKind.{ClashKind}
use Rattle.bc_preset.specs.declared.configuration.ConfigValues.{ConfigValues}
use Rattle.beacon_types.specs.Blocks.{block_codec}
use Rattle.beacon_types.specs.declared.block.BeaconBlock.{BeaconBlock}
use Rattle.beacon_types.specs.declared.signed_block.SignedBeaconBlock.{SignedBeaconBlock}
use Rattle.spec_state.specs.declared.plain.PlainState.{PlainState}
use Rattle.spec_state.specs.Soundness.{IsSound}
use Rattle.spec_transition.specs.ProcessSlots.{Stepped}
use Rattle.spec_transition.specs.StateTransition.{IsLatest, state_transition}
use Rattle.spec_fork_choice.specs.Clash.{clash_of}
use Rattle.spec_fork_choice.specs.OnBlock.{BlockIn, accept_block, block_step, on_block}
use Rattle.spec_fork_choice.specs.Store.{KeptBlock, Store, block_of}
use Rattle.state_keeper.specs.Chain.{ChainBlock, Kept, WasStep}
use Rattle.fork_store.specs.Arrays.{node_number}
use Rattle.fork_store.specs.ChainStep.{CanStep, chain_step}
use Rattle.fork_store.specs.KeptStates.{IsStepOfKept}
use Rattle.fork_store.specs.KeptSteps.{IsStepOfParent}
use Rattle.fork_store.specs.inside.Accepted.{check_block}
use Rattle.fork_store.specs.inside.Entered.{IsKeptAgain, entered_behind, entered_by_step, entered_from}
use Rattle.fork_store.specs.inside.Keepers.{IsStateBehind}
use Rattle.fork_store.specs.Keepers.{kept_block, kept_blocks, IsKeeperOf}
use Rattle.fork_store.specs.Stores.{IsKept}
use Rattle.fork_store.specs.Trees.{IsTree}
use Rattle.fork_store.proofs.ArraysNodes.{number_here}
use Rattle.fork_store.proofs.Finds.{block_found}
use Rattle.fork_store.proofs.Keepers.{in_keeper, length_held}
use Rattle.fork_store.proofs.Presets.{found}
use Rattle.fork_store.proofs.Stepping.{on_parent}

-- a step doesn't see the signature
pub unsigned : (config : ConfigValues) (s : PlainState) (x y : SignedBeaconBlock) → x.message ≡ y.message → state_transition s x config ≡ state_transition s y config
unfolding state_transition
unsigned config s x y same = ap (λ (m : BeaconBlock). state_transition s (record { message = m; signature = y.signature }) config) same

-- what a step gives, with the states that it entered
stepped_from : (outcome : Outcome Stepped) (state : PlainState) → bind outcome (λ s. done s.state) ≡ done state → (s : Stepped) × (outcome ≡ done s) × (state ≡ s.state)
stepped_from (done s) state is = (s, refl, (let same : s.state ≡ state = cc in sym same))
stepped_from (refused why) state is = absurd cc
stepped_from (limited bound) state is = absurd cc

-- what an accepted block leaves
accepted_by : {A : Type 0} (checks : Outcome (Unit {0})) (step : Stepped) (next : Stepped → EventOutcome A) (value : A) → on_the_way (bind checks (λ _. done step)) next ≡ accepted value → next step ≡ accepted value
accepted_by (done passed) step next value is = is
accepted_by (refused why) step next value is = absurd cc
accepted_by (limited bound) step next value is = absurd cc

entered_in : EventOutcome (Store × BlockIn) → List PlainState
entered_in (accepted made) = made.1.entered
entered_in (event_refused why) = []
entered_in (event_limited bound) = []
entered_in (event_clashes kind) = []

entered_by : (store new : Store) (block : BeaconBlock) (root : List ℕ) (step : Stepped) (clash : Option ClashKind) (left : BlockIn) → accept_block store block root step clash ≡ accepted (new, left) → left.entered ≡ step.entered
unfolding accept_block entered_in
entered_by store new block root step (Some kind) left is = absurd cc
entered_by store new block root step None left is = sym (ap entered_in is)

entered_again : (store new : Store) (block : SignedBeaconBlock) (parent : KeptBlock) (step : Stepped) (left : BlockIn) → block_of store.blocks block.message.parent_root ≡ Some parent → state_transition parent.state block store.config ≡ done step
    → on_block store block ≡ accepted (new, left) → left.entered ≡ step.entered
unfolding on_block
entered_again store new block parent step left found_is is accepts =
    let root : List ℕ = block_codec.hash_tree_root block.message in
    let next : Stepped → EventOutcome (Store × BlockIn) = λ s. accept_block store block.message root s (clash_of store.blocks root block.message.state_root block.message) in
    let way : bind (check_block store block.message) (λ _. done step) ≡ block_step store block =
    ap (λ (o : Outcome Stepped). bind (check_block store block.message) (λ _. o)) (sym is) ∙ on_parent store block parent found_is in
    entered_by store new block.message root step (clash_of store.blocks root block.message.state_root block.message) left
    (accepted_by (check_block store block.message) step next (new, left) (ap (λ (o : Outcome Stepped). on_the_way o next) way ∙ accepts))

-- the keeper's block of a number that is equal to one is kept under that number
pub kept_again : (ks : List (ChainBlock SignedBeaconBlock)) (blocks : List KeptBlock) → kept_blocks ks ≡ blocks → (n : ℕ) (signed : SignedBeaconBlock) (block : BeaconBlock) → 0 < n → option_map (λ b. b.block) (slice_get ks n) ≡ Some signed → signed.message ≡ block
    → IsKeptAgain blocks n block
kept_again ks blocks is n signed block some read same = by (slice_get ks n) refl read
  where
    by : (held : Option (ChainBlock SignedBeaconBlock)) → slice_get ks n ≡ held → option_map (λ b. b.block) held ≡ Some signed → IsKeptAgain blocks n block
    by None at none = absurd cc
    by (Some held) at is_signed = record {
      some = some;
      kept = kept_block held;
      there = sym (in_keeper ks blocks is n) ∙ ap (option_map kept_block) at;
      same = ap (λ (s : SignedBeaconBlock). s.message) (same_Some held.block signed is_signed) ∙ same;
    }

module _ (store : Store) (keeper : Kept ConfigValues SignedBeaconBlock) (is : IsKeeperOf store keeper) (good : AllByRecursion IsKept store.blocks) (tree : IsTree store.blocks) where
  kept_here : (n : ℕ) (b : ChainBlock SignedBeaconBlock) → slice_get keeper.blocks n ≡ Some b → slice_get store.blocks n ≡ Some (kept_block b)
  kept_here n b there = sym (in_keeper keeper.blocks store.blocks is.blocks n) ∙ ap (λ (o : Option (ChainBlock SignedBeaconBlock)). option_map kept_block o) there

  found_here : (n : ℕ) (b : ChainBlock SignedBeaconBlock) → slice_get keeper.blocks n ≡ Some b → block_of store.blocks (kept_block b).root ≡ Some (kept_block b)
  found_here n b there =
      let here = kept_here n b there in
      sym (block_found store.blocks (kept_block b).root n (sym (number_here store.blocks tree n (kept_block b) here))) ∙ here

  step_of_parent : (n : ℕ) → WasStep (λ s x. CanStep keeper.stepper s x) (λ s x. chain_step keeper.stepper s x) keeper.blocks n → IsStepOfParent store keeper n
  unfolding IsLatest chain_step
  step_of_parent n was =
      let parent_here = found_here was.block.parent was.parent was.behind in
      let parent_good : IsKept (kept_block was.parent) = found IsKept store.blocks (kept_block was.parent).root (kept_block was.parent) good (sym parent_here) in
      let root : (kept_block was.parent).root ≡ was.block.block.message.parent_root = sym parent_good.latest ∙ was.can_step.parent in
      let parent_is : block_of store.blocks was.block.block.message.parent_root ≡ Some (kept_block was.parent) = ap (λ (r : List ℕ). block_of store.blocks r) (sym root) ∙ parent_here in
      let (step, done_is, state) = stepped_from (state_transition was.parent.state was.block.block keeper.stepper) was.block.state was.done_step in
      let steps : (block : SignedBeaconBlock) → block.message ≡ was.block.block.message → state_transition was.parent.state block store.config ≡ done step = λ block same.
      ap (λ (c : ConfigValues). state_transition was.parent.state block c) (sym is.stepper) ∙ unsigned keeper.stepper was.parent.state block was.block.block same ∙ done_is in
      record {
        kept = kept_block was.block;
        kept_there = kept_here n was.block was.there;
        held = was.block;
        held_there = was.there;
        block = refl;
        state = refl;
        parent = kept_block was.parent;
        parent_there = kept_here was.block.parent was.parent was.behind;
        before = was.before;
        parent_found = parent_is;
        step = step;
        stepped = steps;
        state_is = state;
        again = λ block new left same accepts.
            entered_again store new block (kept_block was.parent) step left (ap (λ (m : BeaconBlock). block_of store.blocks m.parent_root) same ∙ parent_is) (steps block same) accepts;
      }

  -- of each block but that of genesis
  pub steps_of_parents : ((n : ℕ) → 0 < n → n < length keeper.blocks → WasStep (λ s x. CanStep keeper.stepper s x) (λ s x. chain_step keeper.stepper s x) keeper.blocks n) → (n : ℕ) → 0 < n → n < length store.blocks → IsStepOfParent store keeper n
  steps_of_parents were n some inside = step_of_parent n (were n some (let long = length_held keeper.blocks store.blocks is.blocks in omega (arith, inside, long)))

  -- so that of a kept block that comes again needn't be made once more
  pub made_again : ((n : ℕ) → 0 < n → n < length keeper.blocks → WasStep (λ s x. CanStep keeper.stepper s x) (λ s x. chain_step keeper.stepper s x) keeper.blocks n) → (n : ℕ) (block : SignedBeaconBlock) (state : PlainState)
      → IsKeptAgain store.blocks n block.message → ((root : List ℕ) → Some n ≡ node_number store.blocks root → IsStateBehind store.blocks root state) → IsStepOfKept store block.message (record { state = state; entered = entered_behind store block })
  unfolding entered_behind entered_from entered_by_step
  made_again were n block state again at =
      let of = steps_of_parents were n again.some (slice_get_within store.blocks n again.kept again.there) in
      let held : again.kept ≡ of.kept = same_Some again.kept of.kept (sym again.there ∙ of.kept_there) in
      let message : block.message ≡ of.kept.block = sym again.same ∙ ap (λ (k : KeptBlock). k.block) held in
      let parent : block_of store.blocks block.message.parent_root ≡ Some of.parent = ap (λ (b : BeaconBlock). block_of store.blocks b.parent_root) message ∙ of.parent_found in
      let behind = at again.kept.root (sym (number_here store.blocks tree n again.kept again.there)) in
      let found_is : Some behind.kept ≡ Some again.kept =
      sym behind.found ∙ sym (block_found store.blocks again.kept.root n (sym (number_here store.blocks tree n again.kept again.there))) ∙ again.there in
      let kept : behind.kept ≡ again.kept = same_Some behind.kept again.kept found_is in
      let entered : entered_behind store block ≡ of.step.entered =
      ap (entered_from store.config block) parent ∙ ap entered_by_step (of.stepped block message) in
      let state_is : state ≡ of.step.state = sym behind.same ∙ ap (λ (k : KeptBlock). k.state) (kept ∙ held) ∙ of.state_is in
      let made : Stepped = record { state = state; entered = entered_behind store block } in
      let step : made ≡ of.step = λ i. record { state = state_is i; entered = entered i } in
      record {
        parent = of.parent.state;
        kept = record { kept = of.parent; found = parent; same = refl };
        steps = λ signed same. of.stepped signed (same ∙ message) ∙ ap done (sym step);
        sound = subst IsSound behind.same behind.good.sound;
        slot = ap (λ (s : PlainState). s.slot) (sym behind.same) ∙ behind.good.slot ∙ ap (λ (k : KeptBlock). k.block.slot) kept ∙ ap (λ (b : BeaconBlock). b.slot) again.same;
      }
