-- The way of an accepted block into the store, by its parts.
use Rattle.std.proofs.Common.{◌≡◌, ◌⊎◌, ◌∙◌, ◌||◌, ◌<◌, ◌-◌, ◌^◌, ℕ, Bool, true, false, cond, nat_lt, if◌then◌else◌, List, [], ◌∷◌, ◌++◌, length, length-append, Option, Some, None, is_some, refl, sym, ap, subst, inl, inr, arith}
use Rattle.std.specs.Cmp.Lexicographic.{bytes_decides}
use Rattle.std.proofs.lemmas.Bool.{ltb-true}
use Rattle.beacon_types.specs.Equality.{same_root}
use Rattle.beacon_types.specs.declared.checkpoint.Checkpoint.{Checkpoint}
use Rattle.beacon_types.specs.declared.block.BeaconBlock.{BeaconBlock}
use Rattle.block_array.specs.PlainArray.{PlainArray}
use Rattle.spec_state.specs.declared.plain.PlainState.{PlainState}
use Rattle.spec_blocks.proofs.Done.{chosen}
use Rattle.spec_fork_choice.specs.Clash.{place_of}
use Rattle.spec_fork_choice.specs.Slots.{start_slot_of}
use Rattle.spec_fork_choice.specs.Store.{KeptBlock, Store, block_of, is_kept}
use Rattle.spec_fork_choice.specs.OnBlock.{with_block, with_boost, with_justified, with_finalized, with_accepted}
use Rattle.fork_store.specs.inside.Accepted.{boosted, justified_by, finalized_by, settled}
use Rattle.fork_store.specs.Arrays.{Balances, balances_of, node_number, IsArrayOf}
use Rattle.fork_store.specs.Stores.{IsStore, IsLate, first_epoch}
use Rattle.fork_store.specs.inside.Chains.{IsLinked, IsChained}
use Rattle.fork_store.specs.inside.Wholes.{balances_for, IsReady, IsWhole}
use Rattle.fork_store.specs.inside.Following.{may_move, may_be_left, AreGiven}
use Rattle.fork_store.proofs.FirstSlots.{some_kept, epoch_stays}
use Rattle.fork_store.proofs.Following.{number_kept}
use Rattle.fork_store.proofs.Settling.{settle_blocks}
use Rattle.fork_store.proofs.ArraysPlaces.{number_more}
use Rattle.fork_store.proofs.ArraysSteps.{state_more}
use Rattle.fork_store.proofs.Chains.{block_stays_chained, newer_is_reached, newer_finalized, newer_finalized_is_reached, reached_is_kept, chained_best_justified_is_kept}

pub settled_is_accepted : (store : Store) (kept : KeptBlock) → settled (with_block store kept) kept.block.slot kept.root kept.state.current_justified_checkpoint kept.state.finalized_checkpoint ≡ with_accepted store kept
unfolding with_boost with_justified with_finalized with_accepted boosted justified_by finalized_by settled
settled_is_accepted store kept = refl

-- ---- the store with the block

of_block : (P : Store → Type 0) (store : Store) (kept : KeptBlock) → P store → P (record store { blocks = store.blocks ++ kept ∷ [] }) → P (with_block store kept)
unfolding with_block
of_block P store kept again fresh = elim (chosen (is_kept store.blocks kept.root) store (record store { blocks = store.blocks ++ kept ∷ [] }) _ refl) [
  | inl is ↦ subst P is.1 again
  | inr is ↦ subst P is.1 fresh
]

numbered_of : (blocks : List KeptBlock) (root : List ℕ) → is_kept blocks root ≡ true → node_number blocks root ≡ Some (place_of blocks root)
unfolding node_number
numbered_of blocks root kept = ap (λ b. if b then Some (place_of blocks root) else None) kept

balances_more : (store : Store) (kept : KeptBlock) (checkpoint : Checkpoint) → is_kept store.blocks checkpoint.root ≡ true → balances_for (record store { blocks = store.blocks ++ kept ∷ [] }) checkpoint ≡ balances_for store checkpoint
balances_more store kept checkpoint known = ap balances_of (state_more store (kept ∷ []) checkpoint _ (numbered_of store.blocks checkpoint.root known))

kept_more : (blocks : List KeptBlock) (kept : KeptBlock) (root : List ℕ) → is_kept blocks root ≡ true → is_kept (blocks ++ kept ∷ []) root ≡ true
kept_more blocks kept root known = number_kept (blocks ++ kept ∷ []) root _ (number_more blocks (kept ∷ []) root _ (numbered_of blocks root known))

is_same_root : (a : List ℕ) → same_root a a ≡ true
is_same_root a = (bytes_decides a a).1 refl

last_kept : (blocks : List KeptBlock) (kept : KeptBlock) → is_kept (blocks ++ kept ∷ []) kept.root ≡ true
unfolding is_kept block_of
last_kept [] kept = ap (λ b. is_some (cond b (Some kept) None)) (is_same_root kept.root)
last_kept (k ∷ blocks) kept = by_test (same_root k.root kept.root) k (block_of (blocks ++ kept ∷ []) kept.root) (last_kept blocks kept)
  where
    by_test : (b : Bool) (k : KeptBlock) (o : Option KeptBlock) → is_some o ≡ true → is_some (cond b (Some k) o) ≡ true
    by_test true k o h = refl
    by_test false k o h = h

module _ (old mid : Store) (a : PlainArray) (ready : Option Balances) (root : List ℕ) (block : BeaconBlock) (state : PlainState) (good : IsStore old) (whole : IsWhole old a ready) (linked : IsLinked old.config old.blocks state)
    (is : mid ≡ with_block old (record { root = root; block = block; state = state })) where
  abbrev kept : KeptBlock
  kept = record { root = root; block = block; state = state }

  -- what holds of the store as it was, and of the one with the block behind the others
  of_mid : (P : Store → Type 0) → P old → P (record old { blocks = old.blocks ++ kept ∷ [] }) → P mid
  of_mid P again fresh = subst P (sym is) (of_block P old kept again fresh)

  pub mid_low : start_slot_of old state.current_justified_checkpoint < 2 ^ 64 → start_slot_of mid state.current_justified_checkpoint < 2 ^ 64
  mid_low low = of_mid (λ (s : Store). start_slot_of s state.current_justified_checkpoint < 2 ^ 64) low low

  -- a state that finalizes an epoch behind the first kept block's justifies one that isn't before it
  pub mid_late : first_epoch mid.config.preset mid.blocks < state.finalized_checkpoint.epoch → IsLate mid state.current_justified_checkpoint
  mid_late =
      let finality : (s : Store) → first_epoch s.config.preset s.blocks ≡ first_epoch old.config.preset old.blocks → first_epoch s.config.preset s.blocks < state.finalized_checkpoint.epoch → IsLate s state.current_justified_checkpoint = λ s same newer.
      let less : first_epoch old.config.preset old.blocks < state.current_justified_checkpoint.epoch = newer_finalized old.config old.blocks state linked (omega (arith, newer, same)) in
      omega (arith, less, same) in
      of_mid (λ (s : Store). first_epoch s.config.preset s.blocks < state.finalized_checkpoint.epoch → IsLate s state.current_justified_checkpoint)
      (finality old refl)
      (finality (record old { blocks = old.blocks ++ kept ∷ [] }) (epoch_stays old.config.preset old.blocks (kept ∷ []) (some_kept old.blocks _ whole.chained.justified.kept whole.chained.justified.found)))

  pub mid_few : length old.blocks < 2 ^ 32 - 1 → length mid.blocks < 2 ^ 32
  mid_few few = of_mid (λ (s : Store). length s.blocks < 2 ^ 32) (omega (arith, few)) (let n = length-append old.blocks (kept ∷ []) in omega (arith, few, n))

  pub mid_ready : IsReady mid ready
  unfolding IsReady
  mid_ready = of_mid (λ (s : Store). IsReady s ready) whole.ready_is (λ other. whole.ready_is other ∙ ap Some (sym (balances_more old kept old.best_justified_checkpoint (chained_best_justified_is_kept old whole.chained))))

  -- the state's justified checkpoint is kept where it may move the store's
  moves_kept : may_move old state.current_justified_checkpoint state.finalized_checkpoint ≡ true → is_kept old.blocks state.current_justified_checkpoint.root ≡ true
  unfolding may_move
  moves_kept may = elim (either_true (nat_lt old.justified_checkpoint.epoch state.current_justified_checkpoint.epoch) (nat_lt old.finalized_checkpoint.epoch state.finalized_checkpoint.epoch) may) [
    | inl newer ↦ reached_is_kept old.config old.blocks state.current_justified_checkpoint.root _ (newer_is_reached old.config old.blocks state old.justified_checkpoint.epoch linked good.justified_late (ltb-true _ _ newer))
    | inr final ↦ reached_is_kept old.config old.blocks state.current_justified_checkpoint.root _ (newer_finalized_is_reached old.config old.blocks state old.finalized_checkpoint.epoch linked good.finalized_late (ltb-true _ _ final))
  ]
    where
      either_true : (x y : Bool) → (x || y) ≡ true → (x ≡ true) ⊎ (y ≡ true)
      either_true true y h = inl refl
      either_true false y h = inr h

  pub mid_given : (given best : Option Balances) → AreGiven old given best state.current_justified_checkpoint state.finalized_checkpoint → AreGiven mid given best state.current_justified_checkpoint state.finalized_checkpoint
  unfolding AreGiven may_move may_be_left
  mid_given given best g = of_mid (λ (s : Store). AreGiven s given best state.current_justified_checkpoint state.finalized_checkpoint) g (λ may other.
      let both = g may other in
      (both.0 ∙ ap Some (sym (balances_more old kept state.current_justified_checkpoint (moves_kept may))), λ left. both.1 left ∙ ap Some (sym (balances_more old kept old.best_justified_checkpoint (chained_best_justified_is_kept old whole.chained)))))

  pub mid_known : may_move mid state.current_justified_checkpoint state.finalized_checkpoint ≡ true → is_kept mid.blocks state.current_justified_checkpoint.root ≡ true
  unfolding may_move
  mid_known = of_mid (λ (s : Store). may_move s state.current_justified_checkpoint state.finalized_checkpoint ≡ true → is_kept s.blocks state.current_justified_checkpoint.root ≡ true) moves_kept (λ may. kept_more old.blocks kept state.current_justified_checkpoint.root (moves_kept may))

  pub mid_kept : is_kept mid.blocks root ≡ true
  unfolding with_block
  mid_kept = subst (λ (s : Store). is_kept s.blocks root ≡ true) (sym is) (elim (chosen (is_kept old.blocks root) old (record old { blocks = old.blocks ++ kept ∷ [] }) _ refl) [
    | inl again ↦ subst (λ (s : Store). is_kept s.blocks root ≡ true) again.1 again.0
    | inr fresh ↦ subst (λ (s : Store). is_kept s.blocks root ≡ true) fresh.1 (last_kept old.blocks kept)
  ])

  module _ (new : Store) (settled_is : new ≡ settled mid block.slot root state.current_justified_checkpoint state.finalized_checkpoint) where
    pub is_accepted : new ≡ with_accepted old kept
    is_accepted = settled_is ∙ ap (λ (s : Store). settled s block.slot root state.current_justified_checkpoint state.finalized_checkpoint) is ∙ settled_is_accepted old kept

    pub accepted_whole : (after : PlainArray) (then_ready : Option Balances) → length mid.blocks < 2 ^ 32 → IsArrayOf new after → IsReady new then_ready → IsWhole new after then_ready
    accepted_whole after then_ready few array r = record {
      array_of = array;
      chained = subst IsChained (sym is_accepted) (block_stays_chained old kept good linked whole.chained);
      few = subst (λ (b : List KeptBlock). length b < 2 ^ 32) (sym (settle_blocks mid block.slot root state.current_justified_checkpoint state.finalized_checkpoint new settled_is)) few;
      ready_is = r;
    }

-- where memory is refused
pub again_whole : (store after : Store) (a new : PlainArray) (ready : Option Balances) → IsWhole store a ready → after ≡ store → IsArrayOf after new → IsWhole after new ready
again_whole store after a new ready whole is array = record {
  array_of = array;
  chained = subst IsChained (sym is) whole.chained;
  few = subst (λ (s : Store). length s.blocks < 2 ^ 32) (sym is) whole.few;
  ready_is = subst (λ (s : Store). IsReady s ready) (sym is) whole.ready_is;
}
