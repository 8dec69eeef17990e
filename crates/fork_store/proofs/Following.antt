-- The array follows a store whose checkpoints and boost moved.
use Rattle.std.proofs.Common.{◌≡◌, ◌⊎◌, ℕ, ◌<◌, ◌&&◌, if◌then◌else◌, Bool, true, false, nat_lt, leb, List, length, Option, Some, None, is_some, IfSome, refl, sym, ap, ◌∙◌, subst, inl, inr, arith}
use Rattle.std.specs.Cmp.Lexicographic.{bytes_decides}
use Rattle.std.proofs.lemmas.Bool.{false≢true, cases_Bool, and_parts, ltb-false, le-leb}
use Rattle.beacon_types.specs.Equality.{same_root, same_checkpoint}
use Rattle.beacon_types.specs.declared.checkpoint.Checkpoint.{Checkpoint}
use Rattle.beacon_types.proofs.Equality.{checkpoint_decides}
use Rattle.block_array.specs.PlainArray.{PlainArray}
use Rattle.block_array.specs.Calls.{with_balances, with_checkpoints, with_boost}
use Rattle.spec_state.specs.Genesis.{zero_root}
use Rattle.spec_fork_choice.specs.Store.{KeptBlock, Store, is_kept}
use Rattle.spec_fork_choice.specs.Clash.{place_of}
use Rattle.spec_fork_choice.specs.StoreTargetCheckpointState.{store_target_checkpoint_state, state_at}
use Rattle.fork_store.specs.declared.follow.Told.{Told}
use Rattle.fork_store.specs.Arrays.{Balances, balances_at, node_number, nodes_of, IsArrayOf, IsBoostedNode}
use Rattle.fork_store.specs.inside.Boosts.{IsZeroOrKept}
use Rattle.fork_store.specs.inside.Wholes.{balances_for, AreReady, IsReady}
use Rattle.fork_store.specs.inside.Following.{with_told, IsFed, may_move, may_be_left, IsMoved, AreGiven}
use Rattle.fork_store.proofs.ArraysPlaces.{number_inside}
use Rattle.fork_store.proofs.ArraysNodes.{length_nodes}

-- ---- numbers

pub kept_number : (blocks : List KeptBlock) (root : List ℕ) → is_kept blocks root ≡ true → None ≡ node_number blocks root → ⊥
unfolding node_number
kept_number blocks root kept none = absurd (let e = none ∙ ap (λ b. if b then Some (place_of blocks root) else None) kept in let f : false ≡ true = ap is_some e in false≢true f)

pub number_fits : (blocks : List KeptBlock) (root : List ℕ) (n : ℕ) (array : PlainArray) → Some n ≡ node_number blocks root → array.nodes ≡ nodes_of blocks → n < length array.nodes
number_fits blocks root n array is nodes = let inside = number_inside blocks root n (sym is) in let same = ap length nodes in omega (arith, inside, same, length_nodes blocks)

pub same_is : (a b : Checkpoint) → same_checkpoint a b ≡ true → a ≡ b
same_is a b e = (checkpoint_decides a b).0 e

pub is_same : (a b : Checkpoint) → a ≡ b → same_checkpoint a b ≡ true
is_same a b e = (checkpoint_decides a b).1 e

-- ---- the checkpoints

module _ (store : Store) (told : Told) (array : PlainArray) where
  abbrev moved : Told
  moved = record told { justified = store.justified_checkpoint; finalized = store.finalized_checkpoint }

  pub fed_same : IsFed store told array → (same_checkpoint told.justified store.justified_checkpoint && same_checkpoint told.finalized store.finalized_checkpoint) ≡ true → IsFed store moved array
  fed_same fed both =
      let parts = and_parts (same_checkpoint told.justified store.justified_checkpoint) _ both in
      let j : told.justified ≡ store.justified_checkpoint = same_is told.justified store.justified_checkpoint parts.0 in
      let f : told.finalized ≡ store.finalized_checkpoint = same_is told.finalized store.finalized_checkpoint parts.1 in
      record {
        slots_per_epoch = fed.slots_per_epoch;
        percent = fed.percent;
        nodes = fed.nodes;
        named = fed.named;
        messages = fed.messages;
        voted = fed.voted;
        silenced = fed.silenced;
        balances = fed.balances;
        justified = fed.justified ∙ j;
        justified_node = subst (λ (c : Checkpoint). node_number store.blocks c.root ≡ Some array.justified_node) j fed.justified_node;
        finalized = fed.finalized ∙ f;
        boosted_node = fed.boosted_node;
      }

  pub fed_other : (new : PlainArray) (node : ℕ) → IsFed store told array → Some node ≡ node_number store.blocks store.justified_checkpoint.root → new ≡ with_checkpoints array node store.justified_checkpoint store.finalized_checkpoint → IsFed store moved new
  unfolding balances_at
  fed_other new node fed at is = subst (IsFed store moved) (sym is) (record {
    slots_per_epoch = fed.slots_per_epoch;
    percent = fed.percent;
    nodes = fed.nodes;
    named = fed.named;
    messages = fed.messages;
    voted = fed.voted;
    silenced = fed.silenced;
    balances = fed.balances;
    justified = refl;
    justified_node = sym at;
    finalized = refl;
    boosted_node = fed.boosted_node;
  })

  pub fed_fits : (node : ℕ) → IsFed store told array → Some node ≡ node_number store.blocks store.justified_checkpoint.root → node < length array.nodes
  fed_fits node fed at = number_fits store.blocks store.justified_checkpoint.root node array at fed.nodes

  -- ---- the boost

  array_of : IsFed store told array → told.justified ≡ store.justified_checkpoint → told.finalized ≡ store.finalized_checkpoint → IsBoostedNode store.blocks store.proposer_boost_root array.boosted_node → IsArrayOf store array
  array_of fed j f at = record {
    slots_per_epoch = fed.slots_per_epoch;
    percent = fed.percent;
    nodes = fed.nodes;
    named = fed.named;
    messages = fed.messages;
    voted = fed.voted;
    silenced = fed.silenced;
    balances = fed.balances;
    justified = fed.justified ∙ j;
    justified_node = subst (λ (c : Checkpoint). node_number store.blocks c.root ≡ Some array.justified_node) j fed.justified_node;
    finalized = fed.finalized ∙ f;
    boosted_node = at;
  }

  pub boost_same : IsFed store told array → told.justified ≡ store.justified_checkpoint → told.finalized ≡ store.finalized_checkpoint → same_root told.boost_root store.proposer_boost_root ≡ true → IsArrayOf store array
  boost_same fed j f is = array_of fed j f (subst (λ (r : List ℕ). IsBoostedNode store.blocks r array.boosted_node) ((bytes_decides told.boost_root store.proposer_boost_root).0 is) fed.boosted_node)

  pub boost_other : (new : PlainArray) (number : Option ℕ) → IsFed store told array → told.justified ≡ store.justified_checkpoint → told.finalized ≡ store.finalized_checkpoint → IsBoostedNode store.blocks store.proposer_boost_root number → new ≡ with_boost array number → IsArrayOf store new
  unfolding balances_at
  boost_other new number fed j f at is = subst (IsArrayOf store) (sym is) (record {
    slots_per_epoch = fed.slots_per_epoch;
    percent = fed.percent;
    nodes = fed.nodes;
    named = fed.named;
    messages = fed.messages;
    voted = fed.voted;
    silenced = fed.silenced;
    balances = fed.balances;
    justified = fed.justified ∙ j;
    justified_node = subst (λ (c : Checkpoint). node_number store.blocks c.root ≡ Some array.justified_node) j fed.justified_node;
    finalized = fed.finalized ∙ f;
    boosted_node = at;
  })

  pub boost_fits : (root : List ℕ) (number : Option ℕ) → IsFed store told array → IsBoostedNode store.blocks root number → IfSome number (λ n. n < length array.nodes)
  unfolding IsBoostedNode
  boost_fits root None fed at = tt
  boost_fits root (Some n) fed at = number_fits store.blocks root n array (sym at) fed.nodes

pub ruleset feeding = (fed_same, fed_other, fed_fits, kept_number)

pub boosted_some : (blocks : List KeptBlock) (root : List ℕ) (node : Option ℕ) → node ≡ node_number blocks root → IsZeroOrKept blocks root → same_root root zero_root ≡ false → IsBoostedNode blocks root node
unfolding IsBoostedNode IsZeroOrKept
boosted_some blocks root (Some node) at kept other = sym at
boosted_some blocks root None at (inl zero) other = zero
boosted_some blocks root None at (inr kept) other = absurd (kept_number blocks root kept at)

-- a boosted block is kept, where there is one
pub number_kept : (blocks : List KeptBlock) (root : List ℕ) (n : ℕ) → node_number blocks root ≡ Some n → is_kept blocks root ≡ true
unfolding node_number
number_kept blocks root n is = elim (cases_Bool (is_kept blocks root)) [
  | inl kept ↦ kept
  | inr gone ↦ absurd (let none : None ≡ Some n = sym (ap (λ b. if b then Some (place_of blocks root) else None) gone) ∙ is in false≢true (ap is_some none))
]

zero_or_kept : (blocks : List KeptBlock) (root : List ℕ) (node : Option ℕ) → IsBoostedNode blocks root node → IsZeroOrKept blocks root
unfolding IsBoostedNode IsZeroOrKept
zero_or_kept blocks root None zero = inl zero
zero_or_kept blocks root (Some n) is = inr (number_kept blocks root n is)

pub boost_kept : (store : Store) (array : PlainArray) → IsArrayOf store array → IsZeroOrKept store.blocks store.proposer_boost_root
boost_kept store array a = zero_or_kept store.blocks store.proposer_boost_root array.boosted_node a.boosted_node

pub zero_boost : (blocks : List KeptBlock) → IsZeroOrKept blocks zero_root
unfolding IsZeroOrKept
zero_boost blocks = inl refl

pub root_boost : (blocks : List KeptBlock) (root : List ℕ) → is_kept blocks root ≡ true → IsZeroOrKept blocks root
unfolding IsZeroOrKept
root_boost blocks root kept = inr kept

pub justified_kept : (store : Store) (array : PlainArray) → IsArrayOf store array → is_kept store.blocks store.justified_checkpoint.root ≡ true
justified_kept store array a = number_kept store.blocks store.justified_checkpoint.root array.justified_node a.justified_node

pub ruleset boosting = (boost_same, boost_other, boost_fits, boosted_some)

-- ---- balances

pub told_balances : (store : Store) (told : Told) (checkpoint : Checkpoint) → balances_for (with_told store told) checkpoint ≡ balances_for store checkpoint
unfolding store_target_checkpoint_state state_at
told_balances store told checkpoint = refl

module _ (store : Store) (told : Told) where
  whole_ready : (ready : Option Balances) → IsReady (with_told store told) ready → same_checkpoint told.best_justified told.justified ≡ false → ready ≡ Some (balances_for store told.best_justified)
  unfolding IsReady
  whole_ready ready whole other = whole other ∙ ap Some (told_balances store told told.best_justified)

  differs : (a b c : Checkpoint) → a ≡ b → same_checkpoint a c ≡ false → same_checkpoint b c ≡ false
  differs a b c is other = subst (λ (x : Checkpoint). same_checkpoint x c ≡ false) is other

  not_stayed : {P : Type 0} → same_checkpoint store.justified_checkpoint told.justified ≡ false → store.justified_checkpoint ≡ told.justified → P
  not_stayed other is = absurd (false≢true (sym other ∙ is_same store.justified_checkpoint told.justified is))

  -- so where it stayed, nothing is to be shown
  pub unset_other : (a b : Bool) → same_checkpoint store.justified_checkpoint told.justified ≡ false → store.justified_checkpoint ≡ told.justified → a ≡ b
  unset_other a b other is = not_stayed other is

  -- the justified checkpoint moved, to the best justified one
  to_best : same_checkpoint store.justified_checkpoint told.justified ≡ false → (store.justified_checkpoint ≡ told.justified) ⊎ (store.justified_checkpoint ≡ told.best_justified) → store.justified_checkpoint ≡ told.best_justified
  to_best other (inl same) = not_stayed other same
  to_best other (inr best) = best

  pub tick_some : (ready : Option Balances) → IsReady (with_told store told) ready → same_checkpoint store.justified_checkpoint told.justified ≡ false → (store.justified_checkpoint ≡ told.justified) ⊎ (store.justified_checkpoint ≡ told.best_justified) → is_some ready ≡ true
  tick_some ready whole other either = ap is_some (whole_ready ready whole (differs store.justified_checkpoint told.best_justified told.justified (to_best other either) other))

  -- no balances have to be ready where the best justified checkpoint is the justified one
  none_needed : (ready : Option Balances) → store.best_justified_checkpoint ≡ store.justified_checkpoint → IsReady store ready
  unfolding IsReady
  none_needed ready is = λ other. absurd (false≢true (sym other ∙ is_same store.best_justified_checkpoint store.justified_checkpoint is))

  pub tick_needs : (ready : Option Balances) → store.best_justified_checkpoint ≡ told.best_justified → same_checkpoint store.justified_checkpoint told.justified ≡ false → (store.justified_checkpoint ≡ told.justified) ⊎ (store.justified_checkpoint ≡ told.best_justified) → IsReady store ready
  tick_needs ready best other either = none_needed ready (best ∙ sym (to_best other either))

  -- those that were ready are
  pub ready_stays : (ready : Option Balances) → IsReady (with_told store told) ready → store.best_justified_checkpoint ≡ told.best_justified → same_checkpoint store.justified_checkpoint told.justified ≡ true → IsReady store ready
  unfolding IsReady
  ready_stays ready is best same = λ other.
      is (subst (λ (c : Checkpoint). same_checkpoint c told.justified ≡ false) best (subst (λ (c : Checkpoint). same_checkpoint store.best_justified_checkpoint c ≡ false) (same_is store.justified_checkpoint told.justified same) other))
      ∙ ap Some (told_balances store told told.best_justified ∙ ap (balances_for store) (sym best))

  pub best_some : (ready : Option Balances) → IsReady (with_told store told) ready → same_checkpoint store.justified_checkpoint told.justified ≡ false → same_checkpoint store.justified_checkpoint told.best_justified ≡ true → is_some ready ≡ true
  best_some ready whole other is = tick_some ready whole other (inr (same_is store.justified_checkpoint told.best_justified is))

  pub held_same : (ready : Option Balances) → IsReady (with_told store told) ready → same_checkpoint store.best_justified_checkpoint told.best_justified ≡ true → same_checkpoint store.justified_checkpoint told.justified ≡ true → IsReady store ready
  held_same ready is best same = ready_stays ready is (same_is store.best_justified_checkpoint told.best_justified best) same

module _ (store : Store) (told : Told) (array : PlainArray) where
  -- an array of a store that moved, which has the balances already
  fed_of : IsArrayOf (with_told store told) array → balances_at array ≡ balances_for store store.justified_checkpoint → IsFed store told array
  fed_of a balances = record {
    slots_per_epoch = a.slots_per_epoch;
    percent = a.percent;
    nodes = a.nodes;
    named = a.named;
    messages = a.messages;
    voted = a.voted;
    silenced = a.silenced;
    balances = balances;
    justified = a.justified;
    justified_node = a.justified_node;
    finalized = a.finalized;
    boosted_node = a.boosted_node;
  }

  -- and one that is given them
  fed_given : (new : PlainArray) (b : Balances) → IsArrayOf (with_told store told) array → b ≡ balances_for store store.justified_checkpoint → new ≡ with_balances array b.list b.count b.total → IsFed store told new
  unfolding balances_at
  fed_given new b a balances is = subst (IsFed store told) (sym is) (record {
    slots_per_epoch = a.slots_per_epoch;
    percent = a.percent;
    nodes = a.nodes;
    named = a.named;
    messages = a.messages;
    voted = a.voted;
    silenced = a.silenced;
    balances = balances;
    justified = a.justified;
    justified_node = a.justified_node;
    finalized = a.finalized;
    boosted_node = a.boosted_node;
  })

  -- the balances of the justified checkpoint where it stayed
  pub stayed : IsArrayOf (with_told store told) array → same_checkpoint store.justified_checkpoint told.justified ≡ true → IsFed store told array
  stayed a same = fed_of a (a.balances ∙ told_balances store told told.justified ∙ ap (balances_for store) (sym (same_is store.justified_checkpoint told.justified same)))

  pub tick_given : (ready : Option Balances) (new : PlainArray) → IsArrayOf (with_told store told) array → IsReady (with_told store told) ready → same_checkpoint store.justified_checkpoint told.justified ≡ false → (store.justified_checkpoint ≡ told.justified) ⊎ (store.justified_checkpoint ≡ told.best_justified)
      → IfSome ready (λ b. new ≡ with_balances array b.list b.count b.total) → IsFed store told new
  tick_given ready new a whole other either is =
      let best = to_best store told other either in
      let some = whole_ready store told ready whole (differs store told store.justified_checkpoint told.best_justified told.justified best other) in
      fed_given new (balances_for store told.best_justified) a (ap (balances_for store) (sym best))
      (subst (λ (r : Option Balances). IfSome r (λ b. new ≡ with_balances array b.list b.count b.total)) some is)

  pub best_given : (ready : Option Balances) (new : PlainArray) → IsArrayOf (with_told store told) array → IsReady (with_told store told) ready → same_checkpoint store.justified_checkpoint told.justified ≡ false → same_checkpoint store.justified_checkpoint told.best_justified ≡ true
      → IfSome ready (λ b. new ≡ with_balances array b.list b.count b.total) → IsFed store told new
  best_given ready new a whole other is balances = tick_given ready new a whole other (inr (same_is store.justified_checkpoint told.best_justified is)) balances

pub ruleset ticking = (stayed, tick_some, tick_given, tick_needs, ready_stays)

-- ---- a block

module _ (store : Store) (told : Told) (root : List ℕ) (justified finalized : Checkpoint) where
  abbrev old : Store
  old = with_told store told

  -- the justified checkpoint moved, to the one of the block's state
  to_block : same_checkpoint store.justified_checkpoint told.justified ≡ false → IsMoved old store root justified finalized → (store.justified_checkpoint ≡ justified) × (may_move old justified finalized ≡ true)
  to_block other m = elim m.justified_is [
    | inl same ↦ not_stayed store told other same
    | inr block ↦ block
  ]

  -- the best justified one is the one that was, or that of the block's state
  either_best : IsMoved old store root justified finalized → (store.best_justified_checkpoint ≡ told.best_justified) ⊎ (store.best_justified_checkpoint ≡ justified)
  either_best m = elim m.best_is [
    | inl same ↦ inl same
    | inr block ↦ inr block.0
  ]

  -- it is the best justified one
  pub best_needs : (ready : Option Balances) → IsMoved old store root justified finalized → same_checkpoint store.justified_checkpoint told.justified ≡ false → same_checkpoint store.justified_checkpoint told.best_justified ≡ true → IsReady store ready
  best_needs ready m other is =
      let block = to_block other m in
      elim (either_best m) [
        | inl same ↦ none_needed store told ready (same ∙ sym (same_is store.justified_checkpoint told.best_justified is))
        | inr same ↦ none_needed store told ready (same ∙ sym block.0)
      ]

  -- it isn't
  given_of : (given best : Option Balances) → IsMoved old store root justified finalized → AreGiven old given best justified finalized → same_checkpoint store.justified_checkpoint told.justified ≡ false → same_checkpoint store.justified_checkpoint told.best_justified ≡ false
      → AreReady store given store.justified_checkpoint × (may_be_left old justified ≡ true → AreReady store best told.best_justified)
  unfolding AreGiven
  given_of given best m g other another =
      let block = to_block other m in
      let both = g block.1 (differs store told store.justified_checkpoint justified told.best_justified block.0 another) in
      (both.0 ∙ ap Some (told_balances store told justified ∙ ap (balances_for store) (sym block.0)), λ left. both.1 left ∙ ap Some (told_balances store told told.best_justified))

  pub given_some : (given best : Option Balances) → IsMoved old store root justified finalized → AreGiven old given best justified finalized → same_checkpoint store.justified_checkpoint told.justified ≡ false → same_checkpoint store.justified_checkpoint told.best_justified ≡ false → is_some given ≡ true
  given_some given best m g other another = ap is_some (given_of given best m g other another).0

  pub given_fed : (given best : Option Balances) (array new : PlainArray) → IsArrayOf old array → IsMoved old store root justified finalized → AreGiven old given best justified finalized → same_checkpoint store.justified_checkpoint told.justified ≡ false → same_checkpoint store.justified_checkpoint told.best_justified ≡ false
      → IfSome given (λ b. new ≡ with_balances array b.list b.count b.total) → IsFed store told new
  given_fed given best array new a m g other another is =
      fed_given store told array new (balances_for store store.justified_checkpoint) a refl
      (subst (λ (r : Option Balances). IfSome r (λ b. new ≡ with_balances array b.list b.count b.total)) (given_of given best m g other another).0 is)

  -- the best justified one isn't the justified one then: it stayed
  best_left : IsMoved old store root justified finalized → same_checkpoint store.justified_checkpoint told.justified ≡ false → same_checkpoint store.best_justified_checkpoint store.justified_checkpoint ≡ false → store.best_justified_checkpoint ≡ told.best_justified
  best_left m other apart = elim (either_best m) [
    | inl same ↦ same
    | inr same ↦ absurd (false≢true (sym apart ∙ is_same store.best_justified_checkpoint store.justified_checkpoint (same ∙ sym (to_block other m).0)))
  ]

  -- so where it was the justified one, the block's isn't of a greater epoch
  left_low : IsMoved old store root justified finalized → same_checkpoint store.justified_checkpoint told.justified ≡ false → same_checkpoint store.best_justified_checkpoint store.justified_checkpoint ≡ false → same_checkpoint told.best_justified told.justified ≡ true
      → leb justified.epoch told.justified.epoch ≡ true
  left_low m other apart was = elim (cases_Bool (nat_lt told.justified.epoch justified.epoch)) [
    | inl newer ↦ absurd (
        let low : nat_lt told.best_justified.epoch justified.epoch ≡ true = subst (λ (c : Checkpoint). nat_lt c.epoch justified.epoch ≡ true) (sym (same_is told.best_justified told.justified was)) newer in
        false≢true (sym apart ∙ is_same store.best_justified_checkpoint store.justified_checkpoint (m.best_rises newer low ∙ sym (to_block other m).0))
        )
    | inr older ↦ le-leb justified.epoch told.justified.epoch (ltb-false told.justified.epoch justified.epoch older)
  ]

  both_true : (a b : Bool) → a ≡ true → b ≡ true → (a && b) ≡ true
  both_true true b one other = other
  both_true false b one other = one

  was_left : IsMoved old store root justified finalized → same_checkpoint store.justified_checkpoint told.justified ≡ false → same_checkpoint store.best_justified_checkpoint store.justified_checkpoint ≡ false → same_checkpoint told.best_justified told.justified ≡ true
      → may_be_left old justified ≡ true
  unfolding may_be_left
  was_left m other apart was = both_true (same_checkpoint told.best_justified told.justified) (leb justified.epoch told.justified.epoch) was (left_low m other apart was)

  pub left_none : (ready : Option Balances) → same_checkpoint store.best_justified_checkpoint store.justified_checkpoint ≡ true → IsReady store ready
  left_none ready same = none_needed store told ready (same_is store.best_justified_checkpoint store.justified_checkpoint same)

  pub left_given : (given best ready : Option Balances) → ready ≡ best → IsMoved old store root justified finalized → AreGiven old given best justified finalized → same_checkpoint store.justified_checkpoint told.justified ≡ false → same_checkpoint store.justified_checkpoint told.best_justified ≡ false
      → same_checkpoint store.best_justified_checkpoint store.justified_checkpoint ≡ false → same_checkpoint told.best_justified told.justified ≡ true → IsReady store ready
  unfolding IsReady
  left_given given best ready is m g other another apart was =
      λ _. is ∙ (given_of given best m g other another).1 (was_left m other apart was) ∙ ap (λ c. Some (balances_for store c)) (sym (best_left m other apart))

  pub left_held : (ready : Option Balances) → IsReady old ready → IsMoved old store root justified finalized → same_checkpoint store.justified_checkpoint told.justified ≡ false
      → same_checkpoint store.best_justified_checkpoint store.justified_checkpoint ≡ false → same_checkpoint told.best_justified told.justified ≡ false → IsReady store ready
  unfolding IsReady
  left_held ready held m other apart was = λ _. whole_ready store told ready held was ∙ ap (λ c. Some (balances_for store c)) (sym (best_left m other apart))

  -- the best justified checkpoint alone moved
  pub held : (given best : Option Balances) → IsMoved old store root justified finalized → AreGiven old given best justified finalized → same_checkpoint store.best_justified_checkpoint told.best_justified ≡ false → IsReady store given
  unfolding AreGiven IsReady
  held given best m g other = elim m.best_is [
    | inl same ↦ absurd (false≢true (sym other ∙ is_same store.best_justified_checkpoint told.best_justified same))
    | inr block ↦ λ _. (g block.1 (differs store told store.best_justified_checkpoint justified told.best_justified block.0 other)).0 ∙ ap Some (told_balances store told justified ∙ ap (balances_for store) (sym block.0))
  ]

pub ruleset justifying = (best_some, best_given, best_needs, given_some, given_fed)

pub ruleset leaving = (left_none, left_given, left_held)

pub ruleset holding = (held, held_same)

pub ruleset staying = (stayed)
