-- A store follows its history from genesis on, over each event that it accepts; an accepted block is a step of the history.
use Rattle.std.proofs.Common.{◌≡◌, ◌∙◌, ◌<◌, ◌^◌, inl, inr, ℕ, Bool, true, false, if◌then◌else◌, List, [], ◌∷◌, ◌++◌, map, Option, Some, None, is_some, refl, sym, ap, subst, ◌/◌}
use Rattle.std.specs.List.{Contains}
use Rattle.std.specs.Option.{option_map, option_map_or}
use Rattle.std.specs.Cmp.Lexicographic.{bytes_decides}
use Rattle.std.proofs.lemmas.Bool.{false≢true}
use Rattle.std.proofs.Math.Nat.{zero-div}
use Rattle.bc_words.specs.Outcome.{done}
use Rattle.bc_words.specs.Events.{accepted}
use Rattle.bc_words.specs.declared.refusal.Refusal.TheVariants.{StateRoot}
use Rattle.bc_preset.specs.declared.configuration.ConfigValues.{ConfigValues}
use Rattle.ssz_codec.specs.Lawful.{IsBytes}
use Rattle.beacon_types.specs.Equality.{same_root}
use Rattle.beacon_types.specs.declared.checkpoint.Checkpoint.{Checkpoint}
use Rattle.beacon_types.specs.Blocks.{block_codec}
use Rattle.beacon_types.specs.declared.block.BeaconBlock.{BeaconBlock}
use Rattle.beacon_types.specs.declared.signed_block.SignedBeaconBlock.{SignedBeaconBlock}
use Rattle.spec_state.specs.declared.plain.PlainState.{PlainState}
use Rattle.spec_state.specs.Accessors.{get_current_epoch}
use Rattle.spec_state.specs.Genesis.{zero_root}
use Rattle.spec_state.specs.States.{state_codec}
use Rattle.spec_blocks.specs.Checks.{check}
use Rattle.spec_blocks.specs.ProcessBlock.{process_block}
use Rattle.spec_blocks.proofs.Done.{on_the_way, check_holds, chosen, same_value}
use Rattle.spec_transition.specs.ProcessSlots.{Stepped, process_slots}
use Rattle.spec_transition.specs.StateTransition.{state_transition}
use Rattle.spec_fork_choice.specs.Store.{KeptBlock, Store, block_of, is_kept}
use Rattle.spec_fork_choice.specs.GetForkchoiceStore.{get_forkchoice_store, genesis_block, genesis_store}
use Rattle.spec_fork_choice.specs.Clash.{clash_of, clash_with, is_another}
use Rattle.spec_fork_choice.specs.OnBlock.{BlockIn, with_block, with_accepted}
use Rattle.spec_fork_choice.specs.OnEvent.{Accepted, block, other, on_event}
use Rattle.spec_fork_choice.proofs.Blocks.{accepted_blocks}
use Rattle.spec_fork_choice.proofs.Took.{Took, took}
use Rattle.spec_forensics.specs.Histories.{AcceptedBlock, with_event, chain_to, state_behind, IsStepOn}
use Rattle.spec_forensics.specs.Clash.{kept_block, first_accepted, clash_among}
use Rattle.safety_law.specs.Histories.{Begins}
use Rattle.safety_law.specs.Finals.{IsFinalOf}
use Rattle.safety_law.specs.Follows.{Follows, IsAdded}
use Rattle.safety_law.proofs.Lists.{first_of, later_of, none_of_none, image_of}
use Rattle.safety_law.proofs.Chains.{IsKnown, behind_block}
use Rattle.safety_law.proofs.Contents.{found_of, covered, kept_behind}
use Rattle.safety_law.proofs.Growing.{one_content, one_other}
use Rattle.safety_law.proofs.Leaves.{accepted_finalizes}
use Rattle.safety_law.proofs.Events.{event_is, slot_fits}

-- ---- at genesis

first_epoch : (genesis : PlainState) → Begins genesis → get_current_epoch genesis ≡ 0
unfolding get_current_epoch
first_epoch genesis begins = ap (λ (slot : ℕ). slot / genesis.preset.slots_per_epoch) begins.slot ∙ zero-div genesis.preset.slots_per_epoch

pub begins_followed : (config : ConfigValues) (genesis : PlainState) → Begins genesis → Follows config genesis [] (genesis_store config genesis)
unfolding genesis_store get_forkchoice_store first_accepted
begins_followed config genesis begins = record {
  config_is = refl;
  blocks = ap (λ (root : List ℕ). record { root = root; block = genesis_block genesis; state = genesis } ∷ []) (sym begins.latest);
  begins = begins;
  is_history = tt;
  content = λ a b one other same. absurd (none_of_none a one);
  others = λ b one is. none_of_none b one;
  finalized = inl (ap (λ (epoch : ℕ). record { epoch = epoch; root = block_codec.hash_tree_root (genesis_block genesis) }) (first_epoch genesis begins)
      ∙ ap (λ (root : List ℕ). record { epoch = 0; root = root }) (sym begins.latest));
}

-- ---- an accepted block

-- where a block doesn't clash, its root and its state root aren't zero, and the kept block of its root is the block
record IsClear (kept : List KeptBlock) (root state_root : List ℕ) (b : BeaconBlock) : Type 0 where
  root_is_set : same_root root zero_root ≡ false
  state_root_is_set : same_root state_root zero_root ≡ false
  same : clash_among kept root b ≡ None

is_clear : (kept : List KeptBlock) (root state_root : List ℕ) (b : BeaconBlock) → clash_of kept root state_root b ≡ None → IsClear kept root state_root b
unfolding clash_of clash_with clash_among
is_clear kept root state_root b is = elim (chosen (same_root root zero_root) _ _ _ is) [
  | inl zero ↦ absurd (false≢true (sym (ap is_some zero.1)))
  | inr some ↦ elim (chosen (same_root state_root zero_root) _ _ _ some.1) [
    | inl zero ↦ absurd (false≢true (sym (ap is_some zero.1)))
    | inr set ↦ elim (chosen (is_another (option_map (λ (k : KeptBlock). k.block) (block_of kept root)) b) _ _ _ set.1) [
      | inl clashes ↦ absurd (false≢true (sym (ap is_some clashes.1)))
      | inr clear ↦ record { root_is_set = some.0; state_root_is_set = set.0; same = rw clear.0 refl }
    ]
  ]
]

-- the block has its state's root
state_root_is : (config : ConfigValues) (s : PlainState) (signed : SignedBeaconBlock) (t : Stepped) → state_transition s signed config ≡ done t → signed.message.state_root ≡ (state_codec t.state.preset).hash_tree_root t.state
unfolding state_transition
state_root_is config s signed t is =
    let at_slot = on_the_way (process_slots s signed.message.slot config) _ t is in
    let processed = on_the_way (process_block at_slot.value.state signed.message config) _ t at_slot.then_done in
    let x = processed.value in
    let checked = on_the_way (check (same_root signed.message.state_root ((state_codec x.preset).hash_tree_root x)) StateRoot) _ t processed.then_done in
    let same = (bytes_decides signed.message.state_root ((state_codec x.preset).hash_tree_root x)).0 (check_holds _ StateRoot _ checked.first) in
    subst (λ (y : Stepped). signed.message.state_root ≡ (state_codec y.state.preset).hash_tree_root y.state) (same_value _ t checked.then_done) same

-- the block of an accepted event
abbrev block_in : ℕ → SignedBeaconBlock → Stepped → BlockIn → AcceptedBlock
block_in event signed step given = record { event = event; root = given.root; block = signed.message; state = step.state; entered = given.entered }

known_of : (genesis : PlainState) (history : List AcceptedBlock) (root : List ℕ) (k : KeptBlock) → block_of (first_accepted genesis history) root ≡ Some k → IsKnown genesis history root
known_of genesis history root k found = elim (found_of genesis history root k found) [
  | inl first ↦ inl (sym first.0)
  | inr one ↦ inr (subst (Contains (map (λ (b : AcceptedBlock). b.root) history)) one.root_is (image_of (λ (b : AcceptedBlock). b.root) history one.it one.listed))
]

-- what an accepted block is: a step of the history, that clashes with no block of it, and the store keeps it
record IsTaken (config : ConfigValues) (genesis : PlainState) (history : List AcceptedBlock) (new : Store) (x : AcceptedBlock) : Type 0 where
  step : IsStepOn config genesis history x
  clear : clash_among (first_accepted genesis history) x.root x.block ≡ None
  follows : Follows config genesis (x ∷ history) new

is_step : (config : ConfigValues) (genesis : PlainState) (history : List AcceptedBlock) (store new : Store) (signed : SignedBeaconBlock) (given : BlockIn) (event : ℕ) → Follows config genesis history store → signed.message.slot < 2 ^ 64
    → (t : Took store new signed given) → IsStepOn config genesis history (block_in event signed t.step given)
is_step config genesis history store new signed given event follows low t =
    let parent : List ℕ = signed.message.parent_root in
    let found : block_of (first_accepted genesis history) parent ≡ Some t.parent = ap (λ (blocks : List KeptBlock). block_of blocks parent) (sym follows.blocks) ∙ t.found in
    let behind : t.parent.state ≡ state_behind genesis (chain_to history parent) = kept_behind config genesis history parent t.parent follows.is_history follows.content follows.others found in
    let moves : state_transition (state_behind genesis (chain_to history parent)) signed config ≡ done t.step =
    subst (λ (c : ConfigValues). state_transition (state_behind genesis (chain_to history parent)) signed c ≡ done t.step) follows.config_is
    (subst (λ (s : PlainState). state_transition s signed store.config ≡ done t.step) behind t.moves) in
    let clear = is_clear store.blocks (block_codec.hash_tree_root signed.message) signed.message.state_root signed.message t.clear in
    record {
      signed = signed;
      message = refl;
      root = t.root;
      parent = known_of genesis history parent t.parent found;
      step = moves ∙ ap (λ (e : List PlainState). done (record { state = t.step.state; entered = e })) (sym t.entered);
      slot = low;
      root_is_set = subst (λ (r : List ℕ). same_root r zero_root ≡ false) (sym t.root) clear.root_is_set;
      state_root_is_set = subst (λ (r : List ℕ). same_root r zero_root ≡ false) (state_root_is store.config t.parent.state signed t.step t.moves) clear.state_root_is_set;
    }

-- the blocks of the store with one more are those of the history with it
blocks_of : (genesis : PlainState) (history : List AcceptedBlock) (store : Store) (x : AcceptedBlock) (here : Bool) → is_kept (first_accepted genesis history) x.root ≡ here → store.blocks ≡ first_accepted genesis history
    → (if is_kept store.blocks x.root then store else record store { blocks = store.blocks ++ kept_block x ∷ [] }).blocks ≡ first_accepted genesis (x ∷ history)
unfolding first_accepted
blocks_of genesis history store x true here is =
    ap (λ (blocks : List KeptBlock). (if is_kept blocks x.root then store else record store { blocks = blocks ++ kept_block x ∷ [] }).blocks) is
    ∙ rw here is
blocks_of genesis history store x false here is =
    ap (λ (blocks : List KeptBlock). (if is_kept blocks x.root then store else record store { blocks = blocks ++ kept_block x ∷ [] }).blocks) is
    ∙ rw here refl

more_blocks : (genesis : PlainState) (history : List AcceptedBlock) (store : Store) (x : AcceptedBlock) → store.blocks ≡ first_accepted genesis history → (with_block store (kept_block x)).blocks ≡ first_accepted genesis (x ∷ history)
unfolding with_block
more_blocks genesis history store x is = blocks_of genesis history store x (is_kept (first_accepted genesis history) x.root) refl is

final_grows : (genesis : PlainState) (history : List AcceptedBlock) (x : AcceptedBlock) (finalized : Checkpoint) → IsFinalOf genesis history finalized → IsFinalOf genesis (x ∷ history) finalized
final_grows genesis history x finalized (inl first) = inl first
final_grows genesis history x finalized (inr by) = inr (record { by = by.by; listed = later_of x history by.by by.listed; is = by.is })

is_taken : (config : ConfigValues) (genesis : PlainState) (history : List AcceptedBlock) (store new : Store) (signed : SignedBeaconBlock) (given : BlockIn) (event : ℕ) → Follows config genesis history store → signed.message.slot < 2 ^ 64
    → (t : Took store new signed given) → IsTaken config genesis history new (block_in event signed t.step given)
is_taken config genesis history store new signed given event follows low t =
    let x : AcceptedBlock = block_in event signed t.step given in
    let step = is_step config genesis history store new signed given event follows low t in
    let clear : clash_among (first_accepted genesis history) x.root x.block ≡ None =
    subst (λ (r : List ℕ). clash_among (first_accepted genesis history) r signed.message ≡ None) (sym t.root)
    (subst (λ (blocks : List KeptBlock). clash_among blocks (block_codec.hash_tree_root signed.message) signed.message ≡ None) follows.blocks
    (is_clear store.blocks (block_codec.hash_tree_root signed.message) signed.message.state_root signed.message t.clear).same) in
    let kept : KeptBlock = kept_block x in
    let finalizes = accepted_finalizes store kept in
    let new_is : new ≡ with_accepted store kept = t.new_is in
    record {
      step = step;
      clear = clear;
      follows = record {
        config_is = ap (λ (s : Store). s.config) new_is ∙ (finalizes.config ∙ follows.config_is);
        blocks = ap (λ (s : Store). s.blocks) new_is ∙ (accepted_blocks store kept ∙ more_blocks genesis history store x follows.blocks);
        begins = follows.begins;
        is_history = (step, follows.is_history);
        content = one_content genesis history x follows.content follows.others clear;
        others = one_other config genesis history x step follows.others clear;
        finalized = subst (λ (s : Store). IsFinalOf genesis (x ∷ history) s.finalized_checkpoint) (sym new_is) (elim finalizes.finalized [
          | inl same ↦ subst (IsFinalOf genesis (x ∷ history)) (sym same) (final_grows genesis history x store.finalized_checkpoint follows.finalized)
          | inr its ↦ inr (record { by = x; listed = first_of x history; is = its })
        ]);
      };
    }

-- the store keeps the latest block of its history as it stands there, also where it was accepted before
pub latest_found : (config : ConfigValues) (genesis : PlainState) (history : List AcceptedBlock) (x : AcceptedBlock) (store : Store) → Follows config genesis (x ∷ history) store → block_of store.blocks x.root ≡ Some (kept_block x)
latest_found config genesis history x store follows =
    let all : List AcceptedBlock = x ∷ history in
    let listed : Contains all x = first_of x history in
    let c = covered genesis all x follows.others listed in
    let y : AcceptedBlock = c.it in
    let same_block_as : y.block ≡ x.block = follows.content y x c.listed listed c.root_is in
    let same_state : y.state ≡ x.state =
    sym (behind_block config genesis all y follows.is_history follows.content follows.others c.listed)
    ∙ (ap (λ (r : List ℕ). state_behind genesis (chain_to all r)) c.root_is
    ∙ behind_block config genesis all x follows.is_history follows.content follows.others listed) in
    let root_is : y.root ≡ x.root = c.root_is in
    let kept_is : kept_block y ≡ kept_block x = λ i. record { root = root_is i; block = same_block_as i; state = same_state i } in
    ap (λ (blocks : List KeptBlock). block_of blocks x.root) follows.blocks ∙ (c.found ∙ ap Some kept_is)

-- ---- events

block_or : BlockIn → Accepted → BlockIn
block_or x (block y) = y
block_or x other = x

same_left : (a b : BlockIn) → block a ≡ block b → a ≡ b
unfolding block_or
same_left a b is = ap (block_or a) is

-- the store behind an accepted event that is no block follows the history still
still_follows : (config : ConfigValues) (genesis : PlainState) (history : List AcceptedBlock) (store new : Store) → Follows config genesis history store → new.blocks ≡ store.blocks → new.config ≡ store.config → new.finalized_checkpoint ≡ store.finalized_checkpoint
    → Follows config genesis history new
still_follows config genesis history store new follows blocks same_config finalized = record {
  config_is = same_config ∙ follows.config_is;
  blocks = blocks ∙ follows.blocks;
  begins = follows.begins;
  is_history = follows.is_history;
  content = follows.content;
  others = follows.others;
  finalized = subst (IsFinalOf genesis history) (sym finalized) follows.finalized;
}

with_found : (event : ℕ) (history : List AcceptedBlock) (store : Store) (given : BlockIn) (k : KeptBlock) → block_of store.blocks given.root ≡ Some k
    → with_event event history store (block given) ≡ record { event = event; root = given.root; block = k.block; state = k.state; entered = given.entered } ∷ history
unfolding with_event
with_found event history store given k found =
    ap (λ (o : Option KeptBlock). option_map_or (λ (kept : KeptBlock). record { event = event; root = given.root; block = kept.block; state = kept.state; entered = given.entered } ∷ history) o history) found

pub event_followed : (config : ConfigValues) (genesis : PlainState) (history : List AcceptedBlock) (store new : Store) (kind : ℕ) (payload : List ℕ) (given : Accepted) (event : ℕ)
    → Follows config genesis history store → IsBytes payload → on_event store kind payload ≡ accepted (new, given) → Follows config genesis (with_event event history new given) new
unfolding with_event
event_followed config genesis history store new kind payload given event follows bytes is = elim (event_is store new kind payload given is) [
  | inl none ↦ subst (λ (g : Accepted). Follows config genesis (with_event event history new g) new) (sym none.given_is) (still_follows config genesis history store new follows none.blocks none.leaves.config none.leaves.finalized)
  | inr one ↦
      let t = took store new one.signed one.left one.taken in
      let taken = is_taken config genesis history store new one.signed one.left event follows (slot_fits payload one.signed bytes one.read) t in
      let x : AcceptedBlock = block_in event one.signed t.step one.left in
      let grown : with_event event history new (block one.left) ≡ x ∷ history = with_found event history new one.left (kept_block x) (latest_found config genesis history x new taken.follows) in
      subst (λ (g : Accepted). Follows config genesis (with_event event history new g) new) (sym one.given_is)
      (subst (λ (h : List AcceptedBlock). Follows config genesis h new) (sym grown) taken.follows)
]

pub block_is_added : (config : ConfigValues) (genesis : PlainState) (history : List AcceptedBlock) (store new : Store) (kind : ℕ) (payload : List ℕ) (given : BlockIn) (event : ℕ)
    → Follows config genesis history store → IsBytes payload → on_event store kind payload ≡ accepted (new, block given) → IsAdded config genesis history new event given
block_is_added config genesis history store new kind payload given event follows bytes is = elim (event_is store new kind payload (block given) is) [
  | inl none ↦ absurd (let no = none.given_is in cc)
  | inr one ↦
      let left_is : one.left ≡ given = same_left one.left given (sym one.given_is) in
      let t = took store new one.signed one.left one.taken in
      let taken = is_taken config genesis history store new one.signed one.left event follows (slot_fits payload one.signed bytes one.read) t in
      let x : AcceptedBlock = block_in event one.signed t.step one.left in
      subst (IsAdded config genesis history new event) left_is (record { kept = kept_block x; found = latest_found config genesis history x new taken.follows; step = taken.step; clear = taken.clear })
]

-- the history with the block that was added
pub added_event : (config : ConfigValues) (genesis : PlainState) (history : List AcceptedBlock) (store : Store) (given : BlockIn) (event : ℕ) → (a : IsAdded config genesis history store event given)
    → with_event event history store (block given) ≡ record { event = event; root = given.root; block = a.kept.block; state = a.kept.state; entered = given.entered } ∷ history
added_event config genesis history store given event a = with_found event history store given a.kept a.found
