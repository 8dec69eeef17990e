-- What the handlers of fork choice leave of a store beside its blocks: its configuration, and the finalized checkpoint but for that of
-- an accepted block's state.
use Rattle.std.proofs.Common.{◌≡◌, ◌∙◌, ◌⊎◌, inl, inr, ℕ, Bool, true, false, not, ◌==◌, nat_lt, if◌then◌else◌, List, [], ◌∷◌, ◌++◌, fold, length, refl, subst}
use Rattle.bc_words.specs.Outcome.{done, refused}
use Rattle.bc_words.specs.declared.refusal.Refusal.TheVariants.{TickBack, FcEmpty, AsData, IndexRange}
use Rattle.beacon_types.specs.declared.checkpoint.Checkpoint.{Checkpoint}
use Rattle.beacon_types.specs.Slashable.{is_slashable_attestation_data}
use Rattle.beacon_types.specs.declared.attestation.Attestation.{Attestation}
use Rattle.beacon_types.specs.declared.attester_slashing.AttesterSlashing.{AttesterSlashing}
use Rattle.spec_state.specs.declared.plain.PlainState.{PlainState}
use Rattle.spec_state.specs.Accessors.{get_attesting_indices}
use Rattle.spec_blocks.specs.Checks.{check}
use Rattle.spec_blocks.specs.IsValidIndexedAttestation.{is_valid_indexed_attestation}
use Rattle.spec_blocks.specs.ProcessAttesterSlashing.{in_both}
use Rattle.spec_blocks.proofs.Done.{on_the_way, chosen, same_value}
use Rattle.spec_fork_choice.specs.Store.{KeptBlock, LatestMessage, Store, block_of, is_kept, is_equivocating}
use Rattle.spec_fork_choice.specs.Slots.{get_current_slot}
use Rattle.spec_fork_choice.specs.ShouldUpdateJustifiedCheckpoint.{should_update_justified_checkpoint}
use Rattle.spec_fork_choice.specs.OnTick.{on_tick, in_new_slot, in_new_epoch}
use Rattle.spec_fork_choice.specs.OnBlock.{with_accepted, with_block, with_boost, with_justified, with_better_justified, with_best_justified, with_finalized}
use Rattle.spec_fork_choice.specs.UpdateLatestMessages.{update_latest_message, update_latest_messages}
use Rattle.spec_fork_choice.specs.StoreTargetCheckpointState.{store_target_checkpoint_state, kept_or}
use Rattle.spec_fork_choice.specs.ValidateOnAttestation.{validate_on_attestation}
use Rattle.spec_fork_choice.specs.OnAttestation.{check_target_committee, on_attestation}
use Rattle.spec_fork_choice.specs.OnAttesterSlashing.{with_equivocating, on_attester_slashing}

-- a store has the configuration and the finalized checkpoint of another
pub record Leaves (old new : Store) : Type 0 where
  pub config : new.config ≡ old.config
  pub finalized : new.finalized_checkpoint ≡ old.finalized_checkpoint

behind : (old middle new : Store) → Leaves middle new → Leaves old middle → Leaves old new
behind old middle new second first = record { config = second.config ∙ first.config; finalized = second.finalized ∙ first.finalized }

either : (choice : Bool) (old x y : Store) → Leaves old x → Leaves old y → Leaves old (if choice then x else y)
either true old x y h k = h
either false old x y h k = k

unchanged : (old : Store) → Leaves old old
unchanged old = record { config = refl; finalized = refl }

-- ---- a tick

new_epoch : (store : Store) → Leaves store (in_new_epoch store)
unfolding in_new_epoch
new_epoch store = either _ store (record store { justified_checkpoint = store.best_justified_checkpoint }) store (record { config = refl; finalized = refl }) (unchanged store)

new_slot : (store : Store) → Leaves store (in_new_slot store)
unfolding in_new_slot
new_slot store =
    let without_boost : Store = record store { proposer_boost_root = _ } in
    let first : Leaves store without_boost = record { config = refl; finalized = refl } in
    either _ store (in_new_epoch without_boost) without_boost (behind store without_boost (in_new_epoch without_boost) (new_epoch without_boost) first) first

pub tick_leaves : (old new : Store) (time : ℕ) → on_tick old time ≡ done new → Leaves old new
unfolding on_tick
tick_leaves old new time is =
    let at_time : Store = record old { time = time } in
    let first : Leaves old at_time = record { config = refl; finalized = refl } in
    let later : Bool = nat_lt (get_current_slot old) (get_current_slot at_time) in
    elim (chosen (nat_lt time old.time) (refused TickBack) (done (if later then in_new_slot at_time else at_time)) (done new) is) [
      | inl back ↦ absurd (let no = back.1 in cc)
      | inr on ↦
          subst (Leaves old) (same_value (if later then in_new_slot at_time else at_time) new on.1)
          (either later old (in_new_slot at_time) at_time (behind old at_time (in_new_slot at_time) (new_slot at_time) first) first)
    ]

-- ---- an attestation

message_leaves : (old : Store) (latest : LatestMessage) (validator : ℕ) → Leaves old (update_latest_message old latest validator)
unfolding update_latest_message
message_leaves old latest validator = either _ old (record old { latest_messages = _ }) old (record { config = refl; finalized = refl }) (unchanged old)

messages_leave : (old : Store) (latest : LatestMessage) (validators : List ℕ) → Leaves old (fold (λ store validator. update_latest_message store latest validator) old validators)
messages_leave old latest [] = unchanged old
messages_leave old latest (validator ∷ validators) =
    let first : Store = update_latest_message old latest validator in
    behind old first (fold (λ store v. update_latest_message store latest v) first validators) (messages_leave first latest validators) (message_leaves old latest validator)

pub vote_leaves : (old new : Store) (attestation : Attestation) (from_block : Bool) → on_attestation old attestation from_block ≡ done new → Leaves old new
unfolding on_attestation update_latest_messages
vote_leaves old new attestation from_block is =
    let valid = on_the_way (validate_on_attestation old attestation from_block) _ new is in
    let target = on_the_way (store_target_checkpoint_state old attestation.content.target) _ new valid.then_done in
    let committee = on_the_way (check_target_committee target.value attestation) _ new target.then_done in
    let attesting = get_attesting_indices target.value attestation.content attestation.aggregation_bits in
    let somebody = on_the_way (check (not (length attesting == 0)) FcEmpty) _ new committee.then_done in
    subst (Leaves old) (same_value (update_latest_messages old attesting attestation) new somebody.then_done)
    (messages_leave old (record { epoch = attestation.content.target.epoch; root = attestation.content.beacon_block_root }) attesting)

-- ---- an attester slashing

marks_leave : (old : Store) (indices : List ℕ) → Leaves old (fold with_equivocating old indices)
unfolding with_equivocating
marks_leave old [] = unchanged old
marks_leave old (index ∷ indices) =
    behind old (with_equivocating old index) (fold with_equivocating (with_equivocating old index) indices) (marks_leave (with_equivocating old index) indices)
    (either (is_equivocating old index) old old _ (unchanged old) (record { config = refl; finalized = refl }))

pub slashing_leaves : (old new : Store) (slashing : AttesterSlashing) → on_attester_slashing old slashing ≡ done new → Leaves old new
unfolding on_attester_slashing
slashing_leaves old new slashing is =
    let slashable = on_the_way (check (is_slashable_attestation_data slashing.attestation_1.content slashing.attestation_2.content) AsData) _ new is in
    let justified = on_the_way (kept_or IndexRange (block_of old.blocks old.justified_checkpoint.root)) _ new slashable.then_done in
    let first = on_the_way (is_valid_indexed_attestation justified.value.state slashing.attestation_1) _ new justified.then_done in
    let second = on_the_way (is_valid_indexed_attestation justified.value.state slashing.attestation_2) _ new first.then_done in
    let both = in_both slashing.attestation_1.attesting_indices slashing.attestation_2.attesting_indices in
    subst (Leaves old) (same_value (fold with_equivocating old both) new second.then_done) (marks_leave old both)

-- ---- a block

with_block_leaves : (store : Store) (kept : KeptBlock) → Leaves store (with_block store kept)
unfolding with_block
with_block_leaves store kept = either (is_kept store.blocks kept.root) store store (record store { blocks = store.blocks ++ kept ∷ [] }) (unchanged store) (record { config = refl; finalized = refl })

boost_leaves : (store : Store) (kept : KeptBlock) → Leaves store (with_boost store kept)
unfolding with_boost
boost_leaves store kept = either _ store (record store { proposer_boost_root = kept.root }) store (record { config = refl; finalized = refl }) (unchanged store)

best_leaves : (store : Store) (checkpoint : Checkpoint) → Leaves store (with_best_justified store checkpoint)
unfolding with_best_justified
best_leaves store checkpoint = either _ store (record store { best_justified_checkpoint = checkpoint }) store (record { config = refl; finalized = refl }) (unchanged store)

better_leaves : (store : Store) (checkpoint : Checkpoint) → Leaves store (with_better_justified store checkpoint)
unfolding with_better_justified
better_leaves store checkpoint =
    let best : Store = with_best_justified store checkpoint in
    let first = best_leaves store checkpoint in
    either (should_update_justified_checkpoint best checkpoint) store (record best { justified_checkpoint = checkpoint }) best (record { config = first.config; finalized = first.finalized }) first

justified_leaves : (store : Store) (state : PlainState) → Leaves store (with_justified store state)
unfolding with_justified
justified_leaves store state = either _ store (with_better_justified store state.current_justified_checkpoint) store (better_leaves store state.current_justified_checkpoint) (unchanged store)

-- the configuration is left, and the finalized checkpoint is left or that of the block's state
pub record Finalizes (old new : Store) (state : PlainState) : Type 0 where
  pub config : new.config ≡ old.config
  pub finalized : (new.finalized_checkpoint ≡ old.finalized_checkpoint) ⊎ (state.finalized_checkpoint ≡ new.finalized_checkpoint)

finalized_either : (old store : Store) (state : PlainState) (choice : Bool) → Leaves old store
    → Finalizes old (if choice then record store { finalized_checkpoint = state.finalized_checkpoint; justified_checkpoint = state.current_justified_checkpoint } else store) state
finalized_either old store state true first = record { config = first.config; finalized = inr refl }
finalized_either old store state false first = record { config = first.config; finalized = inl first.finalized }

pub accepted_finalizes : (store : Store) (kept : KeptBlock) → Finalizes store (with_accepted store kept) kept.state
unfolding with_accepted with_finalized
accepted_finalizes store kept =
    let one : Store = with_block store kept in
    let two : Store = with_boost one kept in
    let three : Store = with_justified two kept.state in
    let leaves : Leaves store three = behind store two three (justified_leaves two kept.state) (behind store one two (boost_leaves one kept) (with_block_leaves store kept)) in
    finalized_either store three kept.state (nat_lt three.finalized_checkpoint.epoch kept.state.finalized_checkpoint.epoch) leaves
