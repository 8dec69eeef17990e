-- What a block of a root, whose state has two checkpoints, moves of the store.
use Rattle.std.proofs.Common.{◌≡◌, ◌⊎◌, ◌<◌, ◌^◌, ◌||◌, ◌&&◌, ◌==◌, ℕ, Bool, true, false, nat_lt, List, Option, length, refl, sym, ap, subst, inl, inr}
use Rattle.beacon_types.specs.declared.checkpoint.Checkpoint.{Checkpoint}
use Rattle.block_array.specs.PlainArray.{PlainArray}
use Rattle.spec_blocks.proofs.Done.{chosen}
use Rattle.spec_fork_choice.specs.Store.{Store, KeptBlock, is_kept}
use Rattle.spec_fork_choice.specs.Slots.{get_current_slot}
use Rattle.spec_fork_choice.specs.OnBlock.{is_before_attesting_interval, with_best_justified, with_better_justified}
use Rattle.spec_fork_choice.specs.ShouldUpdateJustifiedCheckpoint.{should_update_justified_checkpoint}
use Rattle.fork_store.specs.inside.Accepted.{boosted, justified_by, finalized_by, settled}
use Rattle.fork_store.specs.Arrays.{Balances, IsArrayOf}
use Rattle.fork_store.specs.inside.Boosts.{IsZeroOrKept}
use Rattle.fork_store.specs.inside.Wholes.{IsReady}
use Rattle.fork_store.specs.inside.Following.{told_of, with_told, may_move, IsMoved, AreGiven, AreKept}
use Rattle.fork_store.proofs.Following.{boost_kept, root_boost, justified_kept}

module _ (old : Store) (slot : ℕ) (root : List ℕ) (justified finalized : Checkpoint) where
  -- a store that is moved so far, where the justified checkpoint may be the block's if a test holds
  record IsMovedSo (new : Store) : Type 0 where
    same : with_told new (told_of old) ≡ old
    blocks : new.blocks ≡ old.blocks
    final : new.finalized_checkpoint ≡ old.finalized_checkpoint
    justified_is : (new.justified_checkpoint ≡ old.justified_checkpoint) ⊎ ((new.justified_checkpoint ≡ justified) × (may_move old justified finalized ≡ true))
    best_is : (new.best_justified_checkpoint ≡ old.best_justified_checkpoint) ⊎ ((new.best_justified_checkpoint ≡ justified) × (may_move old justified finalized ≡ true))
    boost_is : (new.proposer_boost_root ≡ old.proposer_boost_root) ⊎ (new.proposer_boost_root ≡ root)

  boosted_so : IsMovedSo (boosted old slot root)
  unfolding boosted
  boosted_so = elim (chosen ((get_current_slot old == slot) && is_before_attesting_interval old) (record old { proposer_boost_root = root }) old _ refl) [
    | inl timely ↦ subst IsMovedSo timely.1 (record { same = refl; blocks = refl; final = refl; justified_is = inl refl; best_is = inl refl; boost_is = inr refl })
    | inr late ↦ subst IsMovedSo late.1 (record { same = refl; blocks = refl; final = refl; justified_is = inl refl; best_is = inl refl; boost_is = inl refl })
  ]

  boosted_justified : (boosted old slot root).justified_checkpoint ≡ old.justified_checkpoint
  unfolding boosted
  boosted_justified = elim (chosen ((get_current_slot old == slot) && is_before_attesting_interval old) (record old { proposer_boost_root = root }) old _ refl) [
    | inl timely ↦ sym (ap (λ (s : Store). s.justified_checkpoint) timely.1)
    | inr late ↦ sym (ap (λ (s : Store). s.justified_checkpoint) late.1)
  ]

  best_so : (store : Store) → may_move old justified finalized ≡ true → IsMovedSo store → IsMovedSo (with_best_justified store justified)
  unfolding with_best_justified
  best_so store may so = elim (chosen (nat_lt store.best_justified_checkpoint.epoch justified.epoch) (record store { best_justified_checkpoint = justified }) store _ refl) [
    | inl better ↦ subst IsMovedSo better.1 (record { same = so.same; blocks = so.blocks; final = so.final; justified_is = so.justified_is; best_is = inr (refl, may); boost_is = so.boost_is })
    | inr other ↦ subst IsMovedSo other.1 so
  ]

  better_so : (store : Store) → may_move old justified finalized ≡ true → IsMovedSo store → IsMovedSo (with_better_justified store justified)
  unfolding with_better_justified
  better_so store may so =
      let best : Store = with_best_justified store justified in
      let then_so = best_so store may so in
      elim (chosen (should_update_justified_checkpoint best justified) (record best { justified_checkpoint = justified }) best _ refl) [
        | inl now ↦ subst IsMovedSo now.1 (record { same = then_so.same; blocks = then_so.blocks; final = then_so.final; justified_is = inr (refl, may); best_is = then_so.best_is; boost_is = then_so.boost_is })
        | inr later ↦ subst IsMovedSo later.1 then_so
      ]

  or_left : (a b : Bool) → a ≡ true → (a || b) ≡ true
  or_left true b h = refl
  or_left false b h = absurd cc

  or_right : (a b : Bool) → b ≡ true → (a || b) ≡ true
  or_right true b h = refl
  or_right false b h = h

  justified_so : (store : Store) → store.justified_checkpoint ≡ old.justified_checkpoint → IsMovedSo store → IsMovedSo (justified_by store justified)
  unfolding justified_by may_move
  justified_so store same so = elim (chosen (nat_lt store.justified_checkpoint.epoch justified.epoch) (with_better_justified store justified) store _ refl) [
    | inl newer ↦ subst IsMovedSo newer.1 (better_so store (or_left (nat_lt old.justified_checkpoint.epoch justified.epoch) (nat_lt old.finalized_checkpoint.epoch finalized.epoch) (subst (λ (c : Checkpoint). nat_lt c.epoch justified.epoch ≡ true) same newer.0)) so)
    | inr older ↦ subst IsMovedSo older.1 so
  ]

  boosted_best : (boosted old slot root).best_justified_checkpoint ≡ old.best_justified_checkpoint
  unfolding boosted
  boosted_best = elim (chosen ((get_current_slot old == slot) && is_before_attesting_interval old) (record old { proposer_boost_root = root }) old _ refl) [
    | inl timely ↦ sym (ap (λ (s : Store). s.best_justified_checkpoint) timely.1)
    | inr late ↦ sym (ap (λ (s : Store). s.best_justified_checkpoint) late.1)
  ]

  -- the best justified checkpoint is the block's where that is of a greater epoch than both
  best_taken : (store : Store) → nat_lt store.best_justified_checkpoint.epoch justified.epoch ≡ true → (with_best_justified store justified).best_justified_checkpoint ≡ justified
  unfolding with_best_justified
  best_taken store low = rw low refl

  better_taken : (store : Store) → nat_lt store.best_justified_checkpoint.epoch justified.epoch ≡ true → (with_better_justified store justified).best_justified_checkpoint ≡ justified
  unfolding with_better_justified
  better_taken store low =
      let best : Store = with_best_justified store justified in
      elim (chosen (should_update_justified_checkpoint best justified) (record best { justified_checkpoint = justified }) best _ refl) [
        | inl now ↦ subst (λ (s : Store). s.best_justified_checkpoint ≡ justified) now.1 (best_taken store low)
        | inr later ↦ subst (λ (s : Store). s.best_justified_checkpoint ≡ justified) later.1 (best_taken store low)
      ]

  justified_taken : (store : Store) → nat_lt store.justified_checkpoint.epoch justified.epoch ≡ true → nat_lt store.best_justified_checkpoint.epoch justified.epoch ≡ true → (justified_by store justified).best_justified_checkpoint ≡ justified
  unfolding justified_by
  justified_taken store newer low = rw newer (better_taken store low)

  boosted_taken : nat_lt old.justified_checkpoint.epoch justified.epoch ≡ true → nat_lt old.best_justified_checkpoint.epoch justified.epoch ≡ true → (justified_by (boosted old slot root) justified).best_justified_checkpoint ≡ justified
  boosted_taken newer low =
      justified_taken (boosted old slot root)
      (subst (λ (c : Checkpoint). nat_lt c.epoch justified.epoch ≡ true) (sym boosted_justified) newer)
      (subst (λ (c : Checkpoint). nat_lt c.epoch justified.epoch ≡ true) (sym boosted_best) low)

  finalized_so : (store : Store) → (nat_lt old.justified_checkpoint.epoch justified.epoch ≡ true → nat_lt old.best_justified_checkpoint.epoch justified.epoch ≡ true → store.best_justified_checkpoint ≡ justified)
      → IsMovedSo store → IsMoved old (finalized_by store finalized justified) root justified finalized
  unfolding finalized_by may_move
  finalized_so store rises so = elim (chosen (nat_lt store.finalized_checkpoint.epoch finalized.epoch) (record store { finalized_checkpoint = finalized; justified_checkpoint = justified }) store _ refl) [
    | inl newer ↦ subst (λ (s : Store). IsMoved old s root justified finalized) newer.1 (record {
      same = so.same;
      justified_is = inr (refl, or_right (nat_lt old.justified_checkpoint.epoch justified.epoch) (nat_lt old.finalized_checkpoint.epoch finalized.epoch) (subst (λ (c : Checkpoint). nat_lt c.epoch finalized.epoch ≡ true) so.final newer.0));
      best_is = so.best_is;
      best_rises = rises;
      boost_is = so.boost_is;
    })
    | inr older ↦ subst (λ (s : Store). IsMoved old s root justified finalized) older.1 (record { same = so.same; justified_is = so.justified_is; best_is = so.best_is; best_rises = rises; boost_is = so.boost_is })
  ]

  settled_so : IsMoved old (settled old slot root justified finalized) root justified finalized
  unfolding settled
  settled_so = finalized_so (justified_by (boosted old slot root) justified) boosted_taken (justified_so (boosted old slot root) boosted_justified boosted_so)

  -- ---- of the store that settling made

  module _ (new : Store) (is : new ≡ settled old slot root justified finalized) where
    moved_so : IsMoved old new root justified finalized
    moved_so = subst (λ (s : Store). IsMoved old s root justified finalized) (sym is) settled_so

    pub settle_moved : IsMoved (with_told new (told_of old)) new root justified finalized
    settle_moved = subst (λ (s : Store). IsMoved s new root justified finalized) (sym moved_so.same) moved_so

    pub settle_array : (array : PlainArray) → IsArrayOf old array → IsArrayOf (with_told new (told_of old)) array
    settle_array array a = subst (λ (s : Store). IsArrayOf s array) (sym moved_so.same) a

    pub settle_ready : (ready : Option Balances) → IsReady old ready → IsReady (with_told new (told_of old)) ready
    settle_ready ready r = subst (λ (s : Store). IsReady s ready) (sym moved_so.same) r

    pub settle_given : (given best : Option Balances) → AreGiven old given best justified finalized → AreGiven (with_told new (told_of old)) given best justified finalized
    settle_given given best g = subst (λ (s : Store). AreGiven s given best justified finalized) (sym moved_so.same) g

    pub settle_blocks : new.blocks ≡ old.blocks
    settle_blocks = ap (λ (s : Store). s.blocks) moved_so.same

    pub settle_config : new.config ≡ old.config
    settle_config = ap (λ (s : Store). s.config) moved_so.same

    pub settle_kept : (array : PlainArray) → IsArrayOf old array → length old.blocks < 2 ^ 32 → is_kept old.blocks root ≡ true → (may_move old justified finalized ≡ true → is_kept old.blocks justified.root ≡ true) → AreKept new
    settle_kept array a few kept known = record {
      few = subst (λ (b : List KeptBlock). length b < 2 ^ 32) (sym settle_blocks) few;
      justified = subst (λ (b : List KeptBlock). is_kept b new.justified_checkpoint.root ≡ true) (sym settle_blocks) (elim moved_so.justified_is [
        | inl same ↦ subst (λ (c : Checkpoint). is_kept old.blocks c.root ≡ true) (sym same) (justified_kept old array a)
        | inr block ↦ subst (λ (c : Checkpoint). is_kept old.blocks c.root ≡ true) (sym block.0) (known block.1)
      ]);
      boosted = subst (λ (b : List KeptBlock). IsZeroOrKept b new.proposer_boost_root) (sym settle_blocks) (elim moved_so.boost_is [
        | inl same ↦ subst (IsZeroOrKept old.blocks) (sym same) (boost_kept old array a)
        | inr timely ↦ subst (IsZeroOrKept old.blocks) (sym timely) (root_boost old.blocks root kept)
      ]);
    }

pub ruleset settling = (settle_moved, settle_array, settle_ready, settle_given, settle_kept)
