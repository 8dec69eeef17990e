-- A tree of kept blocks, and one block more.
use Rattle.std.proofs.Common.{◌≡◌, ◌∙◌, ◌<◌, ℕ, Bool, true, false, not, nat_lt, List, [], ◌∷◌, ◌++◌, length, Some, Result, Ok, Err, refl, sym, subst, ap, arith, inl, inr}
use Rattle.std.proofs.lemmas.List.{append-nil, append_assoc}
use Rattle.std.proofs.lemmas.Bool.{ltb-true, not-false, false≢true}
use Rattle.bc_words.specs.Outcome.{Outcome, done, refused, limited, Becomes}
use Rattle.bc_words.specs.declared.stop.NoMemory.{NoMemory}
use Rattle.state_parts.proofs.Within.{all_push}
use Rattle.bc_preset.specs.declared.configuration.ConfigValues.{ConfigValues}
use Rattle.beacon_types.specs.declared.signed_block.SignedBeaconBlock.{SignedBeaconBlock}
use Rattle.spec_state.specs.declared.plain.PlainState.{PlainState}
use Rattle.spec_state.specs.Misc.{compute_start_slot_at_epoch}
use Rattle.spec_blocks.proofs.Done.{on_the_way, chosen}
use Rattle.spec_transition.specs.ProcessSlots.{Stepped, process_slots}
use Rattle.spec_transition.specs.StateTransition.{state_transition}
use Rattle.beacon_types.specs.declared.block.BeaconBlock.{BeaconBlock}
use Rattle.spec_fork_choice.specs.Store.{KeptBlock, Store, block_of, is_kept}
use Rattle.fork_store.specs.Stores.{IsKept, HasPreset, IsStore, first_epoch}
use Rattle.fork_store.specs.Trees.{HasParent, Follows, IsTreeBehind, IsTree}
use Rattle.fork_store.proofs.FirstSlots.{first_stays, epoch_stays}

push_behind : (before blocks : List KeptBlock) (kept : KeptBlock) → IsTreeBehind before blocks → Follows (before ++ blocks) kept → IsTreeBehind before (blocks ++ kept ∷ [])
unfolding IsTreeBehind
push_behind before [] kept tree follows = (subst (λ (b : List KeptBlock). Follows b kept) (append-nil before) follows, tt)
push_behind before (first ∷ blocks) kept tree follows = (tree.0, push_behind (before ++ first ∷ []) blocks kept tree.1 (subst (λ (b : List KeptBlock). Follows b kept) (sym (append_assoc before (first ∷ []) blocks)) follows))

-- a block that follows a tree makes a tree
pub tree_push : (blocks : List KeptBlock) (kept : KeptBlock) → IsTree blocks → Follows blocks kept → IsTree (blocks ++ kept ∷ [])
tree_push blocks kept tree follows = push_behind [] blocks kept tree follows

-- so does the first one
pub tree_of_one : (kept : KeptBlock) → IsTree (kept ∷ [])
unfolding IsTreeBehind is_kept block_of
tree_of_one kept = (record { fresh = refl; parent = inl refl }, tt)

is_done : {A : Type 0} → Outcome A → Bool
is_done (done x) = true
is_done (refused why) = false
is_done (limited bound) = false

slots_later : (s : PlainState) (slot : ℕ) (config : ConfigValues) (t : Stepped) → process_slots s slot config ≡ done t → s.slot < slot
unfolding process_slots is_done
slots_later s slot config t is = elim (chosen (not (nat_lt s.slot slot)) _ _ _ is) [
  | inl behind ↦ absurd (false≢true (ap is_done behind.1))
  | inr later ↦ ltb-true s.slot slot (not-false _ later.0)
]

-- a block is later than the state that it is taken to
pub block_later : (s : PlainState) (block : SignedBeaconBlock) (config : ConfigValues) (t : Stepped) → state_transition s block config ≡ done t → s.slot < block.message.slot
unfolding state_transition
block_later s block config t is =
    let at_slot = on_the_way (process_slots s block.message.slot config) _ t is in
    slots_later s block.message.slot config at_slot.value at_slot.first

-- so its parent is an earlier one
pub has_parent : (blocks : List KeptBlock) (kept : KeptBlock) (block : SignedBeaconBlock) (config : ConfigValues) (t : Stepped) → Some kept ≡ block_of blocks block.message.parent_root → IsKept kept → state_transition kept.state block config ≡ done t → HasParent blocks block.message
has_parent blocks kept block config t is good done_is = record {
  parent = kept;
  found = sym is;
  earlier = subst (λ n. n < block.message.slot) good.slot (block_later kept.state block config t done_is);
}

-- and a fresh block follows
pub follows : (blocks : List KeptBlock) (root : List ℕ) (block : BeaconBlock) (state : PlainState) → is_kept blocks root ≡ false → HasParent blocks block → Follows blocks (record { root = root; block = block; state = state })
follows blocks root block state fresh parent = record { fresh = fresh; parent = inr parent }

-- the store that a block was added to, or wasn't for want of memory
pub kept_store : {U : Type 0} (result : Result U NoMemory) (s : Store) (new : List KeptBlock) (kept : KeptBlock) → Becomes result s.blocks new (s.blocks ++ kept ∷ []) → IsStore s → kept.state.preset ≡ s.config.preset → Follows s.blocks kept → 0 < length s.blocks → IsStore (record s { blocks = new })
kept_store (Ok x) s new kept is good preset next some =
    let epoch : first_epoch s.config.preset (s.blocks ++ kept ∷ []) ≡ first_epoch s.config.preset s.blocks = epoch_stays s.config.preset s.blocks (kept ∷ []) some in
    subst (λ (l : List KeptBlock). IsStore (record s { blocks = l })) (sym is) (record {
      time = good.time;
      presets = all_push (HasPreset s.config.preset) s.blocks kept good.presets preset;
      tree = tree_push s.blocks kept good.tree next;
      justified = good.justified;
      best_justified = good.best_justified;
      begins = ap (compute_start_slot_at_epoch s.config.preset) epoch ∙ good.begins ∙ sym (first_stays s.blocks (kept ∷ []) some);
      justified_late = omega (arith, good.justified_late, epoch);
      best_justified_late = omega (arith, good.best_justified_late, epoch);
      finalized_late = omega (arith, good.finalized_late, epoch);
    })
kept_store (Err stop) s new kept is good preset next some = subst (λ (l : List KeptBlock). IsStore (record s { blocks = l })) (sym is) good
