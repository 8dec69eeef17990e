-- What each handler makes of the blocks that a store keeps: a tick, an attestation and an attester slashing leave them, and an
-- accepted block adds itself at most.
use Rattle.std.proofs.Common.{◌≡◌, ◌∙◌, ℕ, Bool, true, false, List, [], ◌∷◌, length, fold, if◌then◌else◌, nat_lt, not, ◌==◌, refl, sym, ap, inl, inr}
use Rattle.bc_words.specs.Outcome.{done, refused}
use Rattle.bc_words.specs.declared.refusal.Refusal.TheVariants.{TickBack, FcEmpty, AsData, IndexRange}
use Rattle.beacon_types.specs.declared.checkpoint.Checkpoint.{Checkpoint}
use Rattle.beacon_types.specs.Slashable.{is_slashable_attestation_data}
use Rattle.beacon_types.specs.declared.attestation.Attestation.{Attestation}
use Rattle.beacon_types.specs.declared.attester_slashing.AttesterSlashing.{AttesterSlashing}
use Rattle.spec_state.specs.declared.plain.PlainState.{PlainState}
use Rattle.spec_state.specs.Accessors.{get_attesting_indices}
use Rattle.spec_blocks.specs.Checks.{check}
use Rattle.spec_blocks.specs.IsValidIndexedAttestation.{is_valid_indexed_attestation}
use Rattle.spec_blocks.specs.ProcessAttesterSlashing.{in_both}
use Rattle.spec_blocks.proofs.Done.{on_the_way, chosen, same_value}
use Rattle.spec_fork_choice.specs.Store.{KeptBlock, LatestMessage, Store, block_of, is_equivocating}
use Rattle.spec_fork_choice.specs.Slots.{get_current_slot}
use Rattle.spec_fork_choice.specs.ShouldUpdateJustifiedCheckpoint.{should_update_justified_checkpoint}
use Rattle.spec_fork_choice.specs.OnTick.{on_tick, in_new_slot, in_new_epoch}
use Rattle.spec_fork_choice.specs.OnBlock.{with_accepted, with_block, with_boost, with_justified, with_better_justified, with_best_justified, with_finalized}
use Rattle.spec_fork_choice.specs.UpdateLatestMessages.{update_latest_message, update_latest_messages}
use Rattle.spec_fork_choice.specs.StoreTargetCheckpointState.{store_target_checkpoint_state, kept_or}
use Rattle.spec_fork_choice.specs.ValidateOnAttestation.{validate_on_attestation}
use Rattle.spec_fork_choice.specs.OnAttestation.{check_target_committee, on_attestation}
use Rattle.spec_fork_choice.specs.OnAttesterSlashing.{with_equivocating, on_attester_slashing}

-- both of a choice have these blocks
either_blocks : (choice : Bool) (x y : Store) (blocks : List KeptBlock) → x.blocks ≡ blocks → y.blocks ≡ blocks → (if choice then x else y).blocks ≡ blocks
either_blocks true x y blocks h k = h
either_blocks false x y blocks h k = k

-- ---- a tick

new_epoch_blocks : (store : Store) → (in_new_epoch store).blocks ≡ store.blocks
unfolding in_new_epoch
new_epoch_blocks store = either_blocks _ _ _ store.blocks refl refl

new_slot_blocks : (store : Store) → (in_new_slot store).blocks ≡ store.blocks
unfolding in_new_slot
new_slot_blocks store = either_blocks _ _ _ store.blocks (new_epoch_blocks _) refl

pub tick_blocks : (old new : Store) (time : ℕ) → on_tick old time ≡ done new → new.blocks ≡ old.blocks
unfolding on_tick
tick_blocks old new time is =
    let at_time : Store = record old { time = time } in
    elim (chosen (nat_lt time old.time) (refused TickBack) (done (if nat_lt (get_current_slot old) (get_current_slot at_time) then in_new_slot at_time else at_time)) (done new) is) [
      | inl back ↦ let no = back.1 in cc
      | inr on ↦
          ap (λ (s : Store). s.blocks) (sym (same_value (if nat_lt (get_current_slot old) (get_current_slot at_time) then in_new_slot at_time else at_time) new on.1))
          ∙ either_blocks (nat_lt (get_current_slot old) (get_current_slot at_time)) (in_new_slot at_time) at_time old.blocks (new_slot_blocks at_time) refl
    ]

-- ---- a block

pub best_justified_blocks : (store : Store) (checkpoint : Checkpoint) → (with_best_justified store checkpoint).blocks ≡ store.blocks
unfolding with_best_justified
best_justified_blocks store checkpoint = either_blocks _ _ _ store.blocks refl refl

pub better_justified_blocks : (store : Store) (checkpoint : Checkpoint) → (with_better_justified store checkpoint).blocks ≡ store.blocks
unfolding with_better_justified
better_justified_blocks store checkpoint =
    let best_store : Store = with_best_justified store checkpoint in
    either_blocks (should_update_justified_checkpoint best_store checkpoint) (record best_store { justified_checkpoint = checkpoint }) best_store store.blocks
    (best_justified_blocks store checkpoint) (best_justified_blocks store checkpoint)

pub justified_blocks : (store : Store) (state : PlainState) → (with_justified store state).blocks ≡ store.blocks
unfolding with_justified
justified_blocks store state = either_blocks _ _ _ store.blocks (better_justified_blocks store _) refl

pub finalized_blocks : (store : Store) (state : PlainState) → (with_finalized store state).blocks ≡ store.blocks
unfolding with_finalized
finalized_blocks store state = either_blocks _ _ _ store.blocks refl refl

pub boosted_blocks : (store : Store) (kept : KeptBlock) → (with_boost store kept).blocks ≡ store.blocks
unfolding with_boost
boosted_blocks store kept = either_blocks _ _ _ store.blocks refl refl

-- what an accepted block leaves as it is
pub accepted_blocks : (store : Store) (kept : KeptBlock) → (with_accepted store kept).blocks ≡ (with_block store kept).blocks
unfolding with_accepted
accepted_blocks store kept =
    finalized_blocks (with_justified (with_boost (with_block store kept) kept) kept.state) kept.state
    ∙ (justified_blocks (with_boost (with_block store kept) kept) kept.state ∙ boosted_blocks (with_block store kept) kept)

-- ---- an attestation

message_blocks : (old : Store) (latest : LatestMessage) (validator : ℕ) → (update_latest_message old latest validator).blocks ≡ old.blocks
unfolding update_latest_message
message_blocks old latest validator = either_blocks _ _ _ old.blocks refl refl

messages_blocks : (old : Store) (latest : LatestMessage) (validators : List ℕ) → (fold (λ store validator. update_latest_message store latest validator) old validators).blocks ≡ old.blocks
messages_blocks old latest [] = refl
messages_blocks old latest (validator ∷ validators) = messages_blocks (update_latest_message old latest validator) latest validators ∙ message_blocks old latest validator

pub vote_blocks : (old new : Store) (attestation : Attestation) (from_block : Bool) → on_attestation old attestation from_block ≡ done new → new.blocks ≡ old.blocks
unfolding on_attestation update_latest_messages
vote_blocks old new attestation from_block is =
    let valid = on_the_way (validate_on_attestation old attestation from_block) _ new is in
    let target = on_the_way (store_target_checkpoint_state old attestation.content.target) _ new valid.then_done in
    let committee = on_the_way (check_target_committee target.value attestation) _ new target.then_done in
    let attesting = get_attesting_indices target.value attestation.content attestation.aggregation_bits in
    let somebody = on_the_way (check (not (length attesting == 0)) FcEmpty) _ new committee.then_done in
    ap (λ (s : Store). s.blocks) (sym (same_value (update_latest_messages old attesting attestation) new somebody.then_done))
    ∙ messages_blocks old (record { epoch = attestation.content.target.epoch; root = attestation.content.beacon_block_root }) attesting

-- ---- an attester slashing

equivocating_blocks : (old : Store) (indices : List ℕ) → (fold with_equivocating old indices).blocks ≡ old.blocks
unfolding with_equivocating
equivocating_blocks old [] = refl
equivocating_blocks old (index ∷ indices) = equivocating_blocks (with_equivocating old index) indices ∙ either_blocks (is_equivocating old index) old _ old.blocks refl refl

pub slashing_blocks : (old new : Store) (slashing : AttesterSlashing) → on_attester_slashing old slashing ≡ done new → new.blocks ≡ old.blocks
unfolding on_attester_slashing
slashing_blocks old new slashing is =
    let slashable = on_the_way (check (is_slashable_attestation_data slashing.attestation_1.content slashing.attestation_2.content) AsData) _ new is in
    let justified = on_the_way (kept_or IndexRange (block_of old.blocks old.justified_checkpoint.root)) _ new slashable.then_done in
    let first = on_the_way (is_valid_indexed_attestation justified.value.state slashing.attestation_1) _ new justified.then_done in
    let second = on_the_way (is_valid_indexed_attestation justified.value.state slashing.attestation_2) _ new first.then_done in
    let both = in_both slashing.attestation_1.attesting_indices slashing.attestation_2.attesting_indices in
    ap (λ (s : Store). s.blocks) (sym (same_value (fold with_equivocating old both) new second.then_done)) ∙ equivocating_blocks old both
