-- What the states of kept blocks have.
use Rattle.std.proofs.Common.{◌≡◌, ◌<◌, ◌^◌, ℕ, Bool, true, false, cond, List, Option, Some, None, if◌then◌else◌, refl, ap, subst}
use Rattle.std.specs.Cmp.Lexicographic.{bytes_decides}
use Rattle.std.proofs.lemmas.Bool.{and_parts, eqb-true}
use Rattle.bc_words.specs.Outcome.{done}
use Rattle.bc_words.specs.declared.refusal.Refusal.TheVariants.{StateRoot}
use Rattle.bc_preset.specs.declared.configuration.ConfigValues.{ConfigValues}
use Rattle.beacon_types.specs.Equality.{same_root}
use Rattle.beacon_types.specs.Containers.{block_header_codec}
use Rattle.beacon_types.specs.declared.block_header.BeaconBlockHeader.{BeaconBlockHeader}
use Rattle.beacon_types.specs.Blocks.{block_body_codec, default_block_body, empty_body_root}
use Rattle.beacon_types.specs.declared.block.BeaconBlock.{BeaconBlock}
use Rattle.beacon_types.specs.declared.signed_block.SignedBeaconBlock.{SignedBeaconBlock}
use Rattle.spec_state.specs.declared.plain.PlainState.{PlainState}
use Rattle.spec_state.specs.States.{state_codec}
use Rattle.spec_state.specs.Genesis.{block_header_of, header_root_of, is_genesis_header, zero_root}
use Rattle.spec_blocks.specs.Checks.{check}
use Rattle.spec_blocks.specs.ProcessBlockHeader.{header_of}
use Rattle.spec_blocks.specs.ProcessBlock.{process_block}
use Rattle.spec_blocks.proofs.Done.{on_the_way, check_holds, same_value}
use Rattle.spec_transition.specs.ProcessSlots.{Stepped, process_slots}
use Rattle.spec_transition.specs.StateTransition.{IsLatest, state_transition}
use Rattle.spec_fork_choice.specs.Store.{KeptBlock}
use Rattle.spec_fork_choice.specs.Clash.{clash_with, clash_of}
use Rattle.spec_fork_choice.specs.GetForkchoiceStore.{genesis_block}
use Rattle.fork_store.specs.Stores.{IsRootOf, IsBehind, IsKept}

-- a state that a block was taken to has the block's state root
pub state_root_is : (s : PlainState) (block : SignedBeaconBlock) (config : ConfigValues) (t : Stepped) → state_transition s block config ≡ done t → same_root block.message.state_root ((state_codec t.state.preset).hash_tree_root t.state) ≡ true
unfolding state_transition
state_root_is s block config t is =
    let at_slot = on_the_way (process_slots s block.message.slot config) _ t is in
    let processed = on_the_way (process_block at_slot.value.state block.message config) _ t at_slot.then_done in
    let x = processed.value in
    let root : List ℕ = (state_codec x.preset).hash_tree_root x in
    let checked = on_the_way (check (same_root block.message.state_root root) StateRoot) _ t processed.then_done in
    subst (λ (y : Stepped). same_root block.message.state_root ((state_codec y.state.preset).hash_tree_root y.state) ≡ true) (same_value _ t checked.then_done)
    (check_holds _ StateRoot _ checked.first)

-- no first answer: what is behind it is the answer, and there is none
other : {A : Type 0} (b : Bool) (first : A) (rest : Option A) → cond b (Some first) rest ≡ None → (b ≡ false) × (rest ≡ None)
other true first rest h = absurd cc
other false first rest h = (refl, h)

-- where nothing clashes, the state root isn't zero
pub no_clash : (blocks : List KeptBlock) (root state_root : List ℕ) (block : BeaconBlock) → clash_of blocks root state_root block ≡ None → same_root state_root zero_root ≡ false
unfolding clash_of clash_with
no_clash blocks root state_root block none = (other (same_root state_root zero_root) _ _ (other (same_root root zero_root) _ _ none).1).0

-- so that the state behind a block may be kept with it
pub is_kept : (blocks : List KeptBlock) (root : List ℕ) (block : BeaconBlock) (state : PlainState) → IsBehind block state → IsRootOf root block → block.slot < 2 ^ 64 → clash_of blocks root block.state_root block ≡ None → IsKept (record { root = root; block = block; state = state })
is_kept blocks root block state behind is low none = record {
  root = is;
  sound = behind.sound;
  slot = behind.slot;
  latest = behind.latest;
  low = low;
  some = subst (λ (r : List ℕ). same_root r zero_root ≡ false) {x = block.state_root} {y = (state_codec state.preset).hash_tree_root state} ((bytes_decides _ _).0 behind.state_root) (no_clash blocks root block.state_root block none);
}

-- ---- at genesis

-- the header of genesis is that of the genesis block
pub genesis_header : (s : PlainState) → is_genesis_header s.latest_block_header ≡ true → s.latest_block_header ≡ header_of (genesis_block s)
unfolding genesis_block empty_body_root
genesis_header s is =
    let slot = and_parts _ _ is in
    let proposer = and_parts _ _ slot.1 in
    let parent = and_parts _ _ proposer.1 in
    let state = and_parts _ _ parent.1 in
    let h = s.latest_block_header in
    let a : h.slot ≡ 0 = eqb-true _ _ slot.0 in
    let b : h.proposer_index ≡ 0 = eqb-true _ _ proposer.0 in
    let c : h.parent_root ≡ zero_root = (bytes_decides _ _).0 parent.0 in
    let d : h.state_root ≡ zero_root = (bytes_decides _ _).0 state.0 in
    let e : h.body_root ≡ block_body_codec.hash_tree_root default_block_body = (bytes_decides _ _).0 state.1 in
    λ i. record { slot = a i; proposer_index = b i; parent_root = c i; state_root = d i; body_root = e i }

-- a header without a state root takes the state's
filled : (s : PlainState) → s.latest_block_header ≡ header_of (genesis_block s) → block_header_of s ≡ record (header_of (genesis_block s)) { state_root = (state_codec s.preset).hash_tree_root s }
unfolding block_header_of
filled s is = ap (λ (h : BeaconBlockHeader). if same_root h.state_root zero_root then record h { state_root = (state_codec s.preset).hash_tree_root s } else h) is

pub genesis_latest : (s : PlainState) → s.latest_block_header ≡ header_of (genesis_block s) → IsLatest s (genesis_block s)
unfolding IsLatest header_root_of genesis_block
genesis_latest s is = ap block_header_codec.hash_tree_root (filled s is)
