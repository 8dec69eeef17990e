-- An accepted block, by its parts: what the store's answer says of its parent, of the state behind it and of its root.
use Rattle.std.proofs.Common.{◌≡◌, ◌∙◌, ℕ, List, Option, Some, None, nat_lt, leb, refl, sym, ap}
use Rattle.bc_words.specs.Outcome.{Outcome, done, refused, limited}
use Rattle.bc_words.specs.Events.{EventOutcome, accepted, event_refused, event_limited, event_clashes}
use Rattle.bc_words.specs.Events as events
use Rattle.bc_words.specs.declared.refusal.Refusal.{Refusal}
use Rattle.bc_words.specs.declared.refusal.Refusal.TheVariants.{ParentUnknown, FutureBlock, BeforeFinalized, NotOnFinalized}
use Rattle.bc_words.specs.declared.store_stop.ClashKind.{ClashKind}
use Rattle.beacon_types.specs.Equality.{same_root}
use Rattle.beacon_types.specs.Blocks.{block_codec}
use Rattle.beacon_types.specs.declared.block.BeaconBlock.{BeaconBlock}
use Rattle.beacon_types.specs.declared.signed_block.SignedBeaconBlock.{SignedBeaconBlock}
use Rattle.spec_blocks.specs.Checks.{check}
use Rattle.spec_blocks.proofs.Done.{on_the_way, same_value}
use Rattle.spec_transition.specs.ProcessSlots.{Stepped}
use Rattle.spec_transition.specs.StateTransition.{state_transition}
use Rattle.spec_fork_choice.specs.Store.{KeptBlock, Store, block_of}
use Rattle.spec_fork_choice.specs.Slots.{get_current_slot, start_slot_of}
use Rattle.spec_fork_choice.specs.GetAncestor.{get_ancestor}
use Rattle.spec_fork_choice.specs.StoreTargetCheckpointState.{kept_or}
use Rattle.spec_fork_choice.specs.Clash.{clash_of}
use Rattle.spec_fork_choice.specs.OnBlock.{BlockIn, with_accepted, block_step, accept_block, on_block}

-- ---- what was done on the way to an accepted event

-- a step on the way, and what came behind it
record Way {A B : Type 0} (outcome : Outcome A) (next : A → EventOutcome B) (y : B) : Type 0 where
  value : A
  first : outcome ≡ done value
  then_accepted : next value ≡ accepted y

way : {A B : Type 0} (outcome : Outcome A) (next : A → EventOutcome B) (y : B) → events.on_the_way outcome next ≡ accepted y → Way outcome next y
way (done x) next y is = record { value = x; first = refl; then_accepted = is }
way (refused why) next y is = absurd cc
way (limited bound) next y is = absurd cc

abbrev given_or : {A : Type 0} → A → EventOutcome A → A
given_or x (accepted y) = y
given_or x (event_refused why) = x
given_or x (event_limited bound) = x
given_or x (event_clashes kind) = x

same_given : {A : Type 0} (x y : A) → accepted x ≡ accepted y → x ≡ y
same_given x y is = ap (given_or x) is

found_is : (why : Refusal) (found : Option KeptBlock) (kept : KeptBlock) → kept_or why found ≡ done kept → found ≡ Some kept
unfolding kept_or
found_is why (Some x) kept is = ap Some (same_value x kept is)
found_is why None kept is = absurd cc

-- ---- the block

-- What holds where a store accepted a block: it keeps the parent, whose state steps to the one behind the block, nothing clashes,
-- and the block stands in the new store with that state
pub record Took (store new : Store) (signed_block : SignedBeaconBlock) (given : BlockIn) : Type 0 where
  pub parent : KeptBlock
  pub found : block_of store.blocks signed_block.message.parent_root ≡ Some parent
  pub step : Stepped
  pub moves : state_transition parent.state signed_block store.config ≡ done step
  pub root : given.root ≡ block_codec.hash_tree_root signed_block.message
  pub entered : given.entered ≡ step.entered
  pub clear : clash_of store.blocks (block_codec.hash_tree_root signed_block.message) signed_block.message.state_root signed_block.message ≡ None
  pub new_is : new ≡ with_accepted store (record { root = given.root; block = signed_block.message; state = step.state })

record Clear (store new : Store) (block : BeaconBlock) (root : List ℕ) (step : Stepped) (clash : Option ClashKind) (given : BlockIn) : Type 0 where
  none : clash ≡ None
  new_is : with_accepted store (record { root = root; block = block; state = step.state }) ≡ new
  root_is : root ≡ given.root
  entered_is : step.entered ≡ given.entered

clear_of : (store new : Store) (block : BeaconBlock) (root : List ℕ) (step : Stepped) (clash : Option ClashKind) (given : BlockIn) → accept_block store block root step clash ≡ accepted (new, given)
    → Clear store new block root step clash given
unfolding accept_block
clear_of store new block root step (Some kind) given is = absurd cc
clear_of store new block root step None given is =
    let made : Store × BlockIn = (with_accepted store (record { root = root; block = block; state = step.state }), record { root = root; state_root = block.state_root; entered = step.entered }) in
    let same : made ≡ (new, given) = same_given made (new, given) is in
    record {
      none = refl;
      new_is = ap (λ (pair : Store × BlockIn). pair.0) same;
      root_is = ap (λ (pair : Store × BlockIn). pair.1.root) same;
      entered_is = ap (λ (pair : Store × BlockIn). pair.1.entered) same;
    }

pub took : (store new : Store) (signed_block : SignedBeaconBlock) (given : BlockIn) → on_block store signed_block ≡ accepted (new, given) → Took store new signed_block given
unfolding on_block block_step
took store new signed_block given is =
    let block = signed_block.message in
    let root : List ℕ = block_codec.hash_tree_root block in
    let stepped = way (block_step store signed_block) _ (new, given) is in
    let step = stepped.value in
    let finalized_slot = start_slot_of store store.finalized_checkpoint in
    let parent = on_the_way (kept_or ParentUnknown (block_of store.blocks block.parent_root)) _ step stepped.first in
    let future = on_the_way (check (leb block.slot (get_current_slot store)) FutureBlock) _ step parent.then_done in
    let later = on_the_way (check (nat_lt finalized_slot block.slot) BeforeFinalized) _ step future.then_done in
    let behind = on_the_way (check (same_root (get_ancestor store block.parent_root finalized_slot) store.finalized_checkpoint.root) NotOnFinalized) _ step later.then_done in
    let clear = clear_of store new block root step (clash_of store.blocks root block.state_root block) given stepped.then_accepted in
    record {
      parent = parent.value;
      found = found_is ParentUnknown (block_of store.blocks block.parent_root) parent.value parent.first;
      step = step;
      moves = behind.then_done;
      root = sym clear.root_is;
      entered = sym clear.entered_is;
      clear = clear.none;
      new_is = sym clear.new_is ∙ ap (λ (r : List ℕ). with_accepted store (record { root = r; block = block; state = step.state })) clear.root_is;
    }
