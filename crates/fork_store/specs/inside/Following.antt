-- How the array follows a store whose checkpoints and boost moved.
use Rattle.std.specs.Prelude.{◌≡◌, ◌⊎◌, ℕ, ◌<◌, ◌^◌, ◌||◌, ◌&&◌, Bool, true, false, nat_lt, leb, List, length, Option, Some}
use Rattle.std.specs.List.{AllByRecursion}
use Rattle.beacon_types.specs.Equality.{same_checkpoint}
use Rattle.beacon_types.specs.declared.checkpoint.Checkpoint.{Checkpoint}
use Rattle.block_array.specs.PlainArray.{PlainArray}
use Rattle.spec_state.specs.Genesis.{zero_root}
use Rattle.spec_fork_choice.specs.Store.{Store, is_kept}
use Rattle.fork_store.specs.declared.follow.Told.{Told}
use Rattle.fork_store.specs.Arrays.{Balances, balances_at, nodes_of, node_number, IsBoostedNode, IsForNode, messages_at}
use Rattle.fork_store.specs.inside.Boosts.{IsZeroOrKept}
use Rattle.fork_store.specs.inside.Wholes.{balances_for, AreReady}

-- what an array is told of a store, and the store with what it was told
abbrev pub told_of : Store → Told
told_of store = record {
  justified = store.justified_checkpoint;
  best_justified = store.best_justified_checkpoint;
  finalized = store.finalized_checkpoint;
  boost_root = store.proposer_boost_root;
}

abbrev pub with_told : Store → Told → Store
with_told store told = record store {
  justified_checkpoint = told.justified;
  best_justified_checkpoint = told.best_justified;
  finalized_checkpoint = told.finalized;
  proposer_boost_root = told.boost_root;
}

-- the array is the store's, by the checkpoints and the boost that it was told; it has the balances of the store's justified
-- checkpoint already
pub record IsFed (store : Store) (told : Told) (array : PlainArray) : Type 0 where
  pub slots_per_epoch : array.slots_per_epoch ≡ store.config.preset.slots_per_epoch
  pub percent : array.proposer_score_boost ≡ store.config.proposer_score_boost
  pub nodes : array.nodes ≡ nodes_of store.blocks
  pub named : is_kept store.blocks zero_root ≡ false
  pub messages : store.latest_messages ≡ messages_at array.nodes array.latest_messages
  pub voted : AllByRecursion (IsForNode (length array.nodes)) array.latest_messages
  pub balances : balances_at array ≡ balances_for store store.justified_checkpoint
  pub justified : array.justified_checkpoint ≡ told.justified
  pub justified_node : node_number store.blocks told.justified.root ≡ Some array.justified_node
  pub finalized : array.finalized_checkpoint ≡ told.finalized
  pub boosted_node : IsBoostedNode store.blocks told.boost_root array.boosted_node
  pub silenced : array.silenced_validators ≡ store.equivocating_indices

-- the blocks of the justified checkpoint and of the boost are kept, and there are fewer than 2^32
pub record AreKept (store : Store) : Type 0 where
  pub few : length store.blocks < 2 ^ 32
  pub justified : is_kept store.blocks store.justified_checkpoint.root ≡ true
  pub boosted : IsZeroOrKept store.blocks store.proposer_boost_root

-- whether a state's checkpoints may move the store's
unfoldable pub may_move : Store → Checkpoint → Checkpoint → Bool
may_move store justified finalized = nat_lt store.justified_checkpoint.epoch justified.epoch || nat_lt store.finalized_checkpoint.epoch finalized.epoch

-- how a block's root and its state's checkpoints moved a store
pub record IsMoved (old new : Store) (root : List ℕ) (justified finalized : Checkpoint) : Type 0 where
  pub same : with_told new (told_of old) ≡ old
  pub justified_is : (new.justified_checkpoint ≡ old.justified_checkpoint) ⊎ ((new.justified_checkpoint ≡ justified) × (may_move old justified finalized ≡ true))
  pub best_is : (new.best_justified_checkpoint ≡ old.best_justified_checkpoint) ⊎ ((new.best_justified_checkpoint ≡ justified) × (may_move old justified finalized ≡ true))
  pub best_rises : nat_lt old.justified_checkpoint.epoch justified.epoch ≡ true → nat_lt old.best_justified_checkpoint.epoch justified.epoch ≡ true → new.best_justified_checkpoint ≡ justified
  pub boost_is : (new.proposer_boost_root ≡ old.proposer_boost_root) ⊎ (new.proposer_boost_root ≡ root)

-- whether the best justified checkpoint may be left behind by a state's justified one with no balances held ready: it is the
-- justified one, and the state's isn't of a greater epoch
unfoldable pub may_be_left : Store → Checkpoint → Bool
may_be_left store justified =
    same_checkpoint store.best_justified_checkpoint store.justified_checkpoint && leb justified.epoch store.justified_checkpoint.epoch

-- the balances of a state's justified checkpoint are at hand, where it may move the store's and isn't the best justified one; and
-- those of that one, where it may be left behind
unfoldable pub AreGiven : Store → Option Balances → Option Balances → Checkpoint → Checkpoint → Type 0
AreGiven store given best justified finalized =
    may_move store justified finalized ≡ true → same_checkpoint justified store.best_justified_checkpoint ≡ false
    → AreReady store given justified × (may_be_left store justified ≡ true → AreReady store best store.best_justified_checkpoint)
