-- The latest block of a state that a block was taken to is that block: the header root is the block's root.
use Rattle.std.proofs.Common.{◌≡◌, ◌∙◌, ℕ, List, if◌then◌else◌, refl, sym, ap, subst}
use Rattle.std.specs.Cmp.{unsigned_Decides}
use Rattle.std.specs.Cmp.Lexicographic.{pointwise_decides}
use Rattle.bc_words.specs.Outcome.{done}
use Rattle.bc_words.specs.declared.refusal.Refusal.TheVariants.{StateRoot}
use Rattle.bc_preset.specs.declared.configuration.ConfigValues.{ConfigValues}
use Rattle.beacon_types.specs.Equality.{same_root}
use Rattle.beacon_types.specs.Containers.{block_header_codec}
use Rattle.beacon_types.specs.declared.block_header.BeaconBlockHeader.{BeaconBlockHeader}
use Rattle.beacon_types.specs.Blocks.{block_codec}
use Rattle.beacon_types.specs.declared.block.BeaconBlock.{BeaconBlock}
use Rattle.beacon_types.specs.declared.signed_block.SignedBeaconBlock.{SignedBeaconBlock}
use Rattle.spec_state.specs.declared.plain.PlainState.{PlainState}
use Rattle.spec_state.specs.States.{state_codec}
use Rattle.spec_state.specs.Genesis.{block_header_of, header_root_of, zero_root}
use Rattle.spec_blocks.specs.Checks.{check}
use Rattle.spec_blocks.specs.ProcessBlockHeader.{header_of}
use Rattle.spec_blocks.specs.ProcessBlock.{process_block}
use Rattle.spec_blocks.proofs.Done.{on_the_way, check_holds, same_value}
use Rattle.spec_transition.specs.ProcessSlots.{Stepped, process_slots}
use Rattle.spec_transition.specs.StateTransition.{IsLatest, state_transition}
use Rattle.spec_transition.proofs.BlockStays.{block_stays}

-- the header of a block with a state root
abbrev closed : BeaconBlock → List ℕ → BeaconBlockHeader
closed block root = record (header_of block) { state_root = root }

-- a header without a state root takes the state's
filled : (t : PlainState) (block : BeaconBlock) → t.latest_block_header ≡ header_of block → block_header_of t ≡ closed block ((state_codec t.preset).hash_tree_root t)
unfolding block_header_of
filled t block header = ap (λ (h : BeaconBlockHeader). if same_root h.state_root zero_root then record h { state_root = (state_codec t.preset).hash_tree_root t } else h) header

-- the root of a block is that of its header
same_roots : (block : BeaconBlock) → block_header_codec.hash_tree_root (closed block block.state_root) ≡ block_codec.hash_tree_root block
same_roots block = refl

of_block : (t : PlainState) (block : BeaconBlock) → t.latest_block_header ≡ header_of block → block.state_root ≡ (state_codec t.preset).hash_tree_root t → header_root_of t ≡ block_codec.hash_tree_root block
unfolding header_root_of
of_block t block header root =
    ap block_header_codec.hash_tree_root (filled t block header ∙ ap (closed block) (sym root)) ∙ same_roots block

-- state_transition
pub block_is_latest : (s : PlainState) (block : SignedBeaconBlock) (config : ConfigValues) (t : Stepped) → state_transition s block config ≡ done t → IsLatest t.state block.message
unfolding state_transition IsLatest
block_is_latest s block config t is =
    let at_slot = on_the_way (process_slots s block.message.slot config) _ t is in
    let processed = on_the_way (process_block at_slot.value.state block.message config) _ t at_slot.then_done in
    let x = processed.value in
    let root : List ℕ = (state_codec x.preset).hash_tree_root x in
    let checked = on_the_way (check (same_root block.message.state_root root) StateRoot) _ t processed.then_done in
    let same = (pointwise_decides unsigned_Decides block.message.state_root root).0 (check_holds _ StateRoot _ checked.first) in
    subst (λ (y : Stepped). IsLatest y.state block.message) (same_value _ t checked.then_done)
    (of_block x block.message (block_stays at_slot.value.state x block.message config processed.first).header same)
