-- What a tick moves, and the whole store behind it.
use Rattle.std.proofs.Common.{◌≡◌, ◌⊎◌, ◌<◌, ◌^◌, ◌==◌, ℕ, Bool, true, false, nat_lt, List, Option, length, refl, sym, ap, subst, inl, inr}
use Rattle.std.proofs.lemmas.Bool.{false≢true}
use Rattle.bc_words.specs.Outcome.{Outcome, done, refused, limited}
use Rattle.block_array.specs.PlainArray.{PlainArray}
use Rattle.spec_state.specs.Genesis.{zero_root}
use Rattle.spec_blocks.proofs.Done.{chosen, same_value}
use Rattle.spec_fork_choice.specs.Store.{Store, KeptBlock}
use Rattle.spec_fork_choice.specs.Slots.{get_current_slot, compute_slots_since_epoch_start}
use Rattle.spec_fork_choice.specs.StoreTargetCheckpointState.{store_target_checkpoint_state, state_at}
use Rattle.spec_fork_choice.specs.OnTick.{is_better_justified, in_new_epoch, in_new_slot, on_tick}
use Rattle.fork_store.specs.Arrays.{Balances, IsArrayOf}
use Rattle.fork_store.specs.inside.Boosts.{IsZeroOrKept}
use Rattle.fork_store.specs.inside.Wholes.{IsReady, IsWhole}
use Rattle.fork_store.specs.inside.Following.{told_of, with_told, AreKept}
use Rattle.fork_store.proofs.Chains.{tick_stays_chained, chained_justified_is_kept}
use Rattle.fork_store.proofs.ArraysSteps.{keeps_time}
use Rattle.fork_store.proofs.Following.{boost_kept, zero_boost}

is_done : {A : Type 0} → Outcome A → Bool
is_done (done x) = true
is_done (refused why) = false
is_done (limited bound) = false

-- a store that a tick moved
record IsTicked (old t : Store) : Type 0 where
  same : with_told t (told_of old) ≡ record old { time = t.time }
  blocks : t.blocks ≡ old.blocks
  best : t.best_justified_checkpoint ≡ old.best_justified_checkpoint
  justified : (t.justified_checkpoint ≡ old.justified_checkpoint) ⊎ (t.justified_checkpoint ≡ old.best_justified_checkpoint)
  boost : (t.proposer_boost_root ≡ old.proposer_boost_root) ⊎ (t.proposer_boost_root ≡ zero_root)

epoch_ticked : (old store : Store) → IsTicked old store → store.best_justified_checkpoint ≡ old.best_justified_checkpoint → IsTicked old (in_new_epoch store)
unfolding in_new_epoch
epoch_ticked old store ticked best = elim (chosen (is_better_justified store) (record store { justified_checkpoint = store.best_justified_checkpoint }) store _ refl) [
  | inl better ↦ subst (IsTicked old) better.1 (record { same = ticked.same; blocks = ticked.blocks; best = ticked.best; justified = inr best; boost = ticked.boost })
  | inr other ↦ subst (IsTicked old) other.1 ticked
]

slot_ticked : (old store : Store) → IsTicked old store → IsTicked old (in_new_slot store)
unfolding in_new_slot
slot_ticked old store ticked =
    let without_boost : Store = record store { proposer_boost_root = zero_root } in
    let first : IsTicked old without_boost = record { same = ticked.same; blocks = ticked.blocks; best = ticked.best; justified = ticked.justified; boost = inr refl } in
    elim (chosen (compute_slots_since_epoch_start store.config.preset (get_current_slot store) == 0) (in_new_epoch without_boost) without_boost _ refl) [
      | inl begins ↦ subst (IsTicked old) begins.1 (epoch_ticked old without_boost first ticked.best)
      | inr other ↦ subst (IsTicked old) other.1 first
    ]

ticked : (old t : Store) (time : ℕ) → on_tick old time ≡ done t → IsTicked old t
unfolding on_tick is_done
ticked old t time is =
    let at_time : Store = record old { time = time } in
    let first : IsTicked old at_time = record { same = refl; blocks = refl; best = refl; justified = inl refl; boost = inl refl } in
    elim (chosen (nat_lt time old.time) _ _ _ is) [
      | inl back ↦ absurd (false≢true (ap is_done back.1))
      | inr on ↦ elim (chosen (nat_lt (get_current_slot old) (get_current_slot at_time)) (in_new_slot at_time) at_time t (same_value _ t on.1)) [
        | inl later ↦ subst (IsTicked old) later.1 (slot_ticked old at_time first)
        | inr same ↦ subst (IsTicked old) same.1 first
      ]
    ]

-- balances at another time
timed : (store : Store) (time : ℕ) (ready : Option Balances) → IsReady store ready → IsReady (record store { time = time }) ready
unfolding store_target_checkpoint_state state_at IsReady
timed store time ready is = is

module _ (old t : Store) (time : ℕ) (array : PlainArray) (ready : Option Balances) (whole : IsWhole old array ready) (is : on_tick old time ≡ done t) where
  pub tick_array : IsArrayOf (with_told t (told_of old)) array
  tick_array = subst (λ (s : Store). IsArrayOf s array) (sym (ticked old t time is).same) (keeps_time old array whole.array_of t.time)

  pub tick_ready : IsReady (with_told t (told_of old)) ready
  tick_ready = subst (λ (s : Store). IsReady s ready) (sym (ticked old t time is).same) (timed old t.time ready whole.ready_is)

  pub tick_best : t.best_justified_checkpoint ≡ old.best_justified_checkpoint
  tick_best = (ticked old t time is).best

  pub tick_moved : (t.justified_checkpoint ≡ old.justified_checkpoint) ⊎ (t.justified_checkpoint ≡ old.best_justified_checkpoint)
  tick_moved = (ticked old t time is).justified

  few_blocks : length t.blocks < 2 ^ 32
  few_blocks = subst (λ (b : List KeptBlock). length b < 2 ^ 32) (sym (ticked old t time is).blocks) whole.few

  pub tick_kept : AreKept t
  tick_kept = record {
    few = few_blocks;
    justified = chained_justified_is_kept t (tick_stays_chained old time t is whole.chained);
    boosted = subst (λ (b : List KeptBlock). IsZeroOrKept b t.proposer_boost_root) (sym (ticked old t time is).blocks) (elim (ticked old t time is).boost [
      | inl same ↦ subst (IsZeroOrKept old.blocks) (sym same) (boost_kept old array whole.array_of)
      | inr none ↦ subst (IsZeroOrKept old.blocks) (sym none) (zero_boost old.blocks)
    ]);
  }

  pub tick_whole : (after : PlainArray) (then_ready : Option Balances) → IsArrayOf t after → IsReady t then_ready → IsWhole t after then_ready
  tick_whole after then_ready a r = record { array_of = a; chained = tick_stays_chained old time t is whole.chained; few = few_blocks; ready_is = r }
