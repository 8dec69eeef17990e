-- What handlers leave of a store.
use Rattle.std.proofs.Common.{◌≡◌, ◌∙◌, ◌⊎◌, ℕ, ◌<◌, ◌≤◌, Bool, true, false, ◌==◌, ◌&&◌, nat_lt, List, [], ◌∷◌, ◌++◌, fold, if◌then◌else◌, refl, sym, ap, subst, inl, inr, arith}
use Rattle.spec_blocks.specs.Gives.{Gives}
use Rattle.std.proofs.lemmas.Bool.{ltb-true}
use Rattle.bc_words.specs.Outcome.{refused}
use Rattle.bc_words.specs.declared.refusal.Refusal.TheVariants.{TickBack}
use Rattle.beacon_types.specs.declared.checkpoint.Checkpoint.{Checkpoint}
use Rattle.beacon_types.specs.declared.attestation.Attestation.{Attestation}
use Rattle.spec_state.specs.declared.plain.PlainState.{PlainState}
use Rattle.spec_state.specs.Genesis.{zero_root}
use Rattle.spec_blocks.proofs.Done.{chosen}
use Rattle.spec_fork_choice.specs.Store.{KeptBlock, LatestMessage, Store, is_kept}
use Rattle.spec_fork_choice.specs.Slots.{get_current_slot, compute_slots_since_epoch_start}
use Rattle.spec_fork_choice.specs.ShouldUpdateJustifiedCheckpoint.{should_update_justified_checkpoint}
use Rattle.spec_fork_choice.specs.OnTick.{on_tick, in_new_slot, in_new_epoch, is_better_justified}
use Rattle.spec_fork_choice.specs.OnBlock.{with_accepted, with_block, with_boost, with_justified, with_better_justified, with_best_justified, with_finalized, is_before_attesting_interval}
use Rattle.spec_fork_choice.specs.UpdateLatestMessages.{update_latest_message, update_latest_messages, is_news, with_message}
use Rattle.spec_blocks.proofs.Gives.{gives_done, gives_if}

-- what no vote changes
pub record Keeps (s t : Store) : Type 0 where
  pub config : t.config ≡ s.config
  pub genesis_time : t.genesis_time ≡ s.genesis_time
  pub blocks : t.blocks ≡ s.blocks
  pub finalized : t.finalized_checkpoint ≡ s.finalized_checkpoint

-- nor a tick, but for the time
pub record KeepsTime (s t : Store) : Type 0 where
  pub keeps : Keeps s t
  pub time : t.time ≡ s.time

pub keeps_all : (s : Store) → KeepsTime s s
keeps_all s = record { keeps = record { config = refl; genesis_time = refl; blocks = refl; finalized = refl }; time = refl }

pub keeps_both : (s t u : Store) → KeepsTime s t → KeepsTime t u → KeepsTime s u
keeps_both s t u a b = record { keeps = record { config = b.keeps.config ∙ a.keeps.config; genesis_time = b.keeps.genesis_time ∙ a.keeps.genesis_time; blocks = b.keeps.blocks ∙ a.keeps.blocks; finalized = b.keeps.finalized ∙ a.keeps.finalized }; time = b.time ∙ a.time }

either_keeps : (choice : Bool) (s x y : Store) → KeepsTime s x → KeepsTime s y → KeepsTime s (if choice then x else y)
either_keeps true s x y h k = h
either_keeps false s x y h k = k

-- ---- votes

one_vote : (s : Store) (message : LatestMessage) (validator : ℕ) → KeepsTime s (update_latest_message s message validator)
unfolding update_latest_message
one_vote s message validator = either_keeps (is_news s validator message.epoch) s (record s { latest_messages = with_message s.latest_messages validator message }) s (record { keeps = record { config = refl; genesis_time = refl; blocks = refl; finalized = refl }; time = refl }) (keeps_all s)

each_vote : (s : Store) (message : LatestMessage) (validators : List ℕ) → KeepsTime s (fold (λ updated validator. update_latest_message updated message validator) s validators)
each_vote s message [] = keeps_all s
each_vote s message (v ∷ validators) = keeps_both s (update_latest_message s message v) _ (one_vote s message v) (each_vote (update_latest_message s message v) message validators)

pub votes_keep : (s : Store) (validators : List ℕ) (attestation : Attestation) → KeepsTime s (update_latest_messages s validators attestation)
unfolding update_latest_messages
votes_keep s validators attestation = each_vote s (record { epoch = attestation.content.target.epoch; root = attestation.content.beacon_block_root }) validators

-- ---- a tick

epoch_keeps : (s : Store) → KeepsTime s (in_new_epoch s)
unfolding in_new_epoch
epoch_keeps s = either_keeps (is_better_justified s) s (record s { justified_checkpoint = s.best_justified_checkpoint }) s (record { keeps = record { config = refl; genesis_time = refl; blocks = refl; finalized = refl }; time = refl }) (keeps_all s)

slot_keeps : (s : Store) → KeepsTime s (in_new_slot s)
unfolding in_new_slot
slot_keeps s =
    let without : Store = record s { proposer_boost_root = zero_root } in
    let first : KeepsTime s without = record { keeps = record { config = refl; genesis_time = refl; blocks = refl; finalized = refl }; time = refl } in
    either_keeps (compute_slots_since_epoch_start s.config.preset (get_current_slot s) == 0) s (in_new_epoch without) without (keeps_both s without (in_new_epoch without) first (epoch_keeps without)) first

-- a store at a later time
pub record IsTicked (time : ℕ) (s t : Store) : Type 0 where
  pub keeps : Keeps s t
  pub time_is : t.time ≡ time

pub tick_gives : (s : Store) (time : ℕ) → s.time ≤ time → Gives (IsTicked time s) (on_tick s time)
unfolding on_tick
tick_gives s time later =
    let at_time : Store = record s { time = time } in
    gives_if (IsTicked time s) (nat_lt time s.time) (refused TickBack) _ (λ h. absurd (let l = ltb-true time s.time h in omega arith)) (λ h.
    let k = either_keeps (nat_lt (get_current_slot s) (get_current_slot at_time)) at_time (in_new_slot at_time) at_time (slot_keeps at_time) (keeps_all at_time) in
    gives_done (IsTicked time s) (if nat_lt (get_current_slot s) (get_current_slot at_time) then in_new_slot at_time else at_time)
    (record { keeps = record { config = k.keeps.config; genesis_time = k.keeps.genesis_time; blocks = k.keeps.blocks; finalized = k.keeps.finalized }; time_is = k.time }))

-- ---- a block

boost_keeps : (s : Store) (kept : KeptBlock) → KeepsTime s (with_boost s kept)
unfolding with_boost
boost_keeps s kept = either_keeps ((get_current_slot s == kept.block.slot) && is_before_attesting_interval s) s (record s { proposer_boost_root = kept.root }) s (record { keeps = record { config = refl; genesis_time = refl; blocks = refl; finalized = refl }; time = refl }) (keeps_all s)

best_keeps : (s : Store) (c : Checkpoint) → KeepsTime s (with_best_justified s c)
unfolding with_best_justified
best_keeps s c = either_keeps (nat_lt s.best_justified_checkpoint.epoch c.epoch) s (record s { best_justified_checkpoint = c }) s (record { keeps = record { config = refl; genesis_time = refl; blocks = refl; finalized = refl }; time = refl }) (keeps_all s)

better_keeps : (s : Store) (c : Checkpoint) → KeepsTime s (with_better_justified s c)
unfolding with_better_justified
better_keeps s c =
    let best : Store = with_best_justified s c in
    let first = best_keeps s c in
    either_keeps (should_update_justified_checkpoint best c) s (record best { justified_checkpoint = c }) best
    (record { keeps = record { config = first.keeps.config; genesis_time = first.keeps.genesis_time; blocks = first.keeps.blocks; finalized = first.keeps.finalized }; time = first.time }) first

justified_keeps : (s : Store) (state : PlainState) → KeepsTime s (with_justified s state)
unfolding with_justified
justified_keeps s state = either_keeps (nat_lt s.justified_checkpoint.epoch state.current_justified_checkpoint.epoch) s (with_better_justified s state.current_justified_checkpoint) s (better_keeps s state.current_justified_checkpoint) (keeps_all s)

-- the store behind an accepted block whose root wasn't kept
pub record IsAccepted (s : Store) (kept : KeptBlock) (t : Store) : Type 0 where
  pub config : t.config ≡ s.config
  pub genesis_time : t.genesis_time ≡ s.genesis_time
  pub time : t.time ≡ s.time
  pub blocks : t.blocks ≡ s.blocks ++ kept ∷ []
  pub finalized : (t.finalized_checkpoint ≡ s.finalized_checkpoint) ⊎ ((t.finalized_checkpoint ≡ kept.state.finalized_checkpoint) × (s.finalized_checkpoint.epoch < kept.state.finalized_checkpoint.epoch))

final_accepted : (s x : Store) (kept : KeptBlock) → KeepsTime (record s { blocks = s.blocks ++ kept ∷ [] }) x → IsAccepted s kept (with_finalized x kept.state)
unfolding with_finalized
final_accepted s x kept k = elim (chosen (nat_lt x.finalized_checkpoint.epoch kept.state.finalized_checkpoint.epoch) (record x { finalized_checkpoint = kept.state.finalized_checkpoint; justified_checkpoint = kept.state.current_justified_checkpoint }) x _ refl) [
  | inl newer ↦ subst (IsAccepted s kept) newer.1 (record { config = k.keeps.config; genesis_time = k.keeps.genesis_time; time = k.time; blocks = k.keeps.blocks; finalized = inr (refl, let l = ltb-true x.finalized_checkpoint.epoch kept.state.finalized_checkpoint.epoch newer.0 in let e = ap (λ (c : Checkpoint). c.epoch) k.keeps.finalized in omega arith) })
  | inr older ↦ subst (IsAccepted s kept) older.1 (record { config = k.keeps.config; genesis_time = k.keeps.genesis_time; time = k.time; blocks = k.keeps.blocks; finalized = inl k.keeps.finalized })
]

pub accepted_is : (s : Store) (kept : KeptBlock) → is_kept s.blocks kept.root ≡ false → IsAccepted s kept (with_accepted s kept)
unfolding with_accepted with_block
accepted_is s kept none =
    let more : Store = record s { blocks = s.blocks ++ kept ∷ [] } in
    subst (λ (b : Bool). IsAccepted s kept (with_finalized (with_justified (with_boost (if b then s else more) kept) kept.state) kept.state)) (sym none)
    (final_accepted s (with_justified (with_boost more kept) kept.state) kept (keeps_both more (with_boost more kept) (with_justified (with_boost more kept) kept.state) (boost_keeps more kept) (justified_keeps (with_boost more kept) kept.state)))
