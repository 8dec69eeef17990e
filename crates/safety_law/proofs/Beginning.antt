-- A genesis that the check of a genesis takes begins histories, where its root isn't zero.
use Rattle.std.proofs.Common.{◌≡◌, Bool, true, false, not, ◌&&◌, ◌==◌, cond, List, [], ◌∷◌, length, Option, Some, None, if◌then◌else◌, refl, ap, arith}
use Rattle.std.specs.List.{list_all}
use Rattle.std.specs.Cmp.Lexicographic.{bytes_decides}
use Rattle.std.proofs.lemmas.Bool.{and_parts, eqb-true}
use Rattle.bc_preset.specs.Presets.{IsPreset}
use Rattle.bc_preset.proofs.Bounds.{preset_bounds}
use Rattle.beacon_types.specs.Equality.{same_root}
use Rattle.beacon_types.specs.Containers.{block_header_codec}
use Rattle.beacon_types.specs.declared.block_header.BeaconBlockHeader.{BeaconBlockHeader}
use Rattle.beacon_types.specs.declared.checkpoint.Checkpoint.{Checkpoint}
use Rattle.beacon_types.specs.declared.pending_attestation.PendingAttestation.{PendingAttestation}
use Rattle.beacon_types.specs.Blocks.{block_codec, block_body_codec, default_block_body, empty_body_root}
use Rattle.spec_state.specs.declared.plain.PlainState.{PlainState}
use Rattle.spec_state.specs.States.{state_codec}
use Rattle.spec_state.specs.Limits.{IsState, IsInRange}
use Rattle.spec_state.specs.Genesis.{genesis_fault, is_genesis_header, is_zero_checkpoint, zero_root, block_header_of, header_root_of}
use Rattle.spec_blocks.specs.ProcessBlockHeader.{header_of}
use Rattle.spec_epochs.specs.WeighJustificationAndFinalization.{justification_of}
use Rattle.spec_fork_choice.specs.GetForkchoiceStore.{genesis_block}
use Rattle.ffg_law.specs.Histories.{genesis_checkpoint}
use Rattle.safety_law.specs.Histories.{Begins}

-- no fault: the test holds, and there is none behind it
passed : {A : Type 0} (b : Bool) (fault : A) (rest : Option A) → cond (not b) (Some fault) rest ≡ None → (b ≡ true) × (rest ≡ None)
passed true fault rest h = (refl, h)
passed false fault rest h = absurd cc

empty_is : (items : List PendingAttestation) → length items ≡ 0 → items ≡ []
empty_is [] is = refl
empty_is (a ∷ items) is = absurd (omega arith)

zero_is : (c : Checkpoint) → is_zero_checkpoint c ≡ true → c ≡ genesis_checkpoint
zero_is c is =
    let parts = and_parts (c.epoch == 0) (same_root c.root zero_root) is in
    let epoch : c.epoch ≡ 0 = eqb-true c.epoch 0 parts.0 in
    let root : c.root ≡ zero_root = (bytes_decides c.root zero_root).0 parts.1 in
    λ i. record { epoch = epoch i; root = root i }

none_set : (b : Bool) → not b ≡ true → b ≡ false
none_set true is = absurd cc
none_set false is = refl

four_clear : (bits : List Bool) → length bits ≡ 4 → list_all not bits ≡ true → bits ≡ false ∷ false ∷ false ∷ false ∷ []
four_clear (a ∷ b ∷ c ∷ d ∷ []) is all =
    let one = and_parts (not a) _ all in
    let two = and_parts (not b) _ one.1 in
    let three = and_parts (not c) _ two.1 in
    let four = and_parts (not d) _ three.1 in
    λ i. none_set a one.0 i ∷ none_set b two.0 i ∷ none_set c three.0 i ∷ none_set d four.0 i ∷ []
four_clear [] is all = absurd (omega arith)
four_clear (a ∷ []) is all = absurd (omega arith)
four_clear (a ∷ b ∷ []) is all = absurd (omega arith)
four_clear (a ∷ b ∷ c ∷ []) is all = absurd (omega arith)
four_clear (a ∷ b ∷ c ∷ d ∷ e ∷ bits) is all = absurd (omega arith)

-- ---- the genesis block is the latest one

header_is : (s : PlainState) → is_genesis_header s.latest_block_header ≡ true → s.latest_block_header ≡ record (header_of (genesis_block s)) { state_root = zero_root }
unfolding genesis_block empty_body_root
header_is s is =
    let slot = and_parts _ _ is in
    let proposer = and_parts _ _ slot.1 in
    let parent = and_parts _ _ proposer.1 in
    let state = and_parts _ _ parent.1 in
    let h = s.latest_block_header in
    let a : h.slot ≡ 0 = eqb-true _ _ slot.0 in
    let b : h.proposer_index ≡ 0 = eqb-true _ _ proposer.0 in
    let c : h.parent_root ≡ zero_root = (bytes_decides _ _).0 parent.0 in
    let d : h.state_root ≡ zero_root = (bytes_decides _ _).0 state.0 in
    let e : h.body_root ≡ block_body_codec.hash_tree_root default_block_body = (bytes_decides _ _).0 state.1 in
    λ i. record { slot = a i; proposer_index = b i; parent_root = c i; state_root = d i; body_root = e i }

-- a header without a state root takes the state's
filled : (s : PlainState) → s.latest_block_header ≡ record (header_of (genesis_block s)) { state_root = zero_root } → block_header_of s ≡ record (header_of (genesis_block s)) { state_root = (state_codec s.preset).hash_tree_root s }
unfolding block_header_of
filled s is = ap (λ (h : BeaconBlockHeader). if same_root h.state_root zero_root then record h { state_root = (state_codec s.preset).hash_tree_root s } else h) is

latest_is : (s : PlainState) → is_genesis_header s.latest_block_header ≡ true → header_root_of s ≡ block_codec.hash_tree_root (genesis_block s)
unfolding header_root_of genesis_block
latest_is s is = ap block_header_codec.hash_tree_root (filled s (header_is s is))

pub begins_by : (s : PlainState) → genesis_fault s ≡ None → IsPreset s.preset → length s.block_roots ≡ s.preset.slots_per_historical_root → length s.justification_bits ≡ 4
    → same_root ((state_codec s.preset).hash_tree_root s) zero_root ≡ false → Begins s
unfolding genesis_fault justification_of
begins_by s good preset roots few some =
    let slot = passed (s.slot == 0) _ _ good in
    let header = passed (is_genesis_header s.latest_block_header) _ _ slot.1 in
    let checkpoints = passed (is_zero_checkpoint s.previous_justified_checkpoint && (is_zero_checkpoint s.current_justified_checkpoint && is_zero_checkpoint s.finalized_checkpoint)) _ _ header.1 in
    let bits = passed (list_all not s.justification_bits) _ _ checkpoints.1 in
    let slashings = passed (list_all (λ n. n == 0) s.slashings) _ _ bits.1 in
    let lists = passed ((length s.previous_epoch_attestations == 0) && ((length s.current_epoch_attestations == 0) && ((length s.eth1_data_votes == 0) && (length s.historical_roots == 0)))) _ _ slashings.1 in
    let three = and_parts _ _ checkpoints.0 in
    let two = and_parts _ _ three.1 in
    let clear : s.justification_bits ≡ false ∷ false ∷ false ∷ false ∷ [] = four_clear s.justification_bits few bits.0 in
    let previous : s.previous_justified_checkpoint ≡ genesis_checkpoint = zero_is s.previous_justified_checkpoint three.0 in
    let current : s.current_justified_checkpoint ≡ genesis_checkpoint = zero_is s.current_justified_checkpoint two.0 in
    let finalized : s.finalized_checkpoint ≡ genesis_checkpoint = zero_is s.finalized_checkpoint two.1 in
    record {
      bounds = preset_bounds s.preset preset;
      slot = eqb-true s.slot 0 slot.0;
      roots = roots;
      nothing = λ i. record { bits = clear i; previous = previous i; current = current i; finalized = finalized i };
      previous = empty_is s.previous_epoch_attestations (eqb-true _ _ (and_parts _ _ lists.0).0);
      current = empty_is s.current_epoch_attestations (eqb-true _ _ (and_parts _ _ (and_parts _ _ lists.0).1).0);
      latest = latest_is s header.0;
      state_root_is_set = some;
    }

pub genesis_begins : (s : PlainState) → genesis_fault s ≡ None → IsState s → IsInRange s → same_root ((state_codec s.preset).hash_tree_root s) zero_root ≡ false → Begins s
genesis_begins s good is range some = begins_by s good is.preset_is is.block_roots_len range.justification_bits some
