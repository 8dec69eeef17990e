-- What changes the store and its array keeps them related: a block more, and what has no part in the array.
use Rattle.std.proofs.Common.{◌≡◌, ℕ, zero, suc, ◌+◌, ◌<◌, ◌≤◌, false, cond, List, [], ◌∷◌, ◌++◌, length, Option, Some, None, is_some, slice_get, refl, sym, ap, ap₂, ◌∙◌, arith}
use Rattle.std.specs.List.{AllByRecursion}
use Rattle.std.specs.Option.{option_map, option_map_or}
use Rattle.bc_words.specs.Outcome.{bind}
use Rattle.bc_words.specs.declared.refusal.Refusal.TheVariants.{FcTargetUnknown}
use Rattle.beacon_types.specs.declared.checkpoint.Checkpoint.{Checkpoint}
use Rattle.beacon_types.specs.Equality.{same_root}
use Rattle.block_array.specs.declared.node.Node.{Node}
use Rattle.block_array.specs.declared.node.Message.{Message}
use Rattle.block_array.specs.PlainArray.{PlainArray, root_at}
use Rattle.block_array.specs.Calls.{with_node, with_spare, made}
use Rattle.spec_state.specs.Genesis.{zero_root}
use Rattle.spec_fork_choice.specs.Store.{KeptBlock, Store, block_of, is_kept}
use Rattle.spec_fork_choice.specs.Slots.{start_slot_of}
use Rattle.spec_fork_choice.specs.StoreTargetCheckpointState.{kept_or, state_at, store_target_checkpoint_state}
use Rattle.fork_store.specs.Arrays.{node_number, facts_of, node_of, nodes_of, message_at, messages_at, IsForNode, IsBoostedNode, balances_of, balances_at, IsArrayOf}
use Rattle.fork_store.proofs.ArraysPlaces.{at_number, number_more, block_more, number_inside, none_opens}
use Rattle.fork_store.proofs.ArraysNodes.{nodes_push}

-- ---- messages under nodes more

get_front : {A : Type 0} (xs ys : List A) (i : ℕ) → i < length xs → slice_get (xs ++ ys) i ≡ slice_get xs i
get_front [] ys i h = absurd (omega arith)
get_front (x ∷ xs) ys zero h = refl
get_front (x ∷ xs) ys (suc i) h = get_front xs ys i (omega arith)

module _ (nodes more : List Node) where
  message_front : (o : Option Message) → IsForNode (length nodes) o → option_map (message_at (nodes ++ more)) o ≡ option_map (message_at nodes) o
  unfolding IsForNode message_at root_at
  message_front None inside = refl
  message_front (Some m) inside = ap (λ (o : Option Node). Some (record { epoch = m.epoch; root = option_map_or (λ node. node.root) o [] }))
      (get_front nodes more m.node inside)

  pub messages_front : (ms : List (Option Message)) → AllByRecursion (IsForNode (length nodes)) ms → messages_at (nodes ++ more) ms ≡ messages_at nodes ms
  unfolding messages_at
  messages_front [] all = refl
  messages_front (m ∷ ms) all = ap₂ (λ x xs. x ∷ xs) (message_front m all.0) (messages_front ms all.1)

node_of_more : (m n : ℕ) → m ≤ n → (o : Option Message) → IsForNode m o → IsForNode n o
unfolding IsForNode
node_of_more m n h None inside = tt
node_of_more m n h (Some message) inside = omega arith

pub voted_more : (m n : ℕ) → m ≤ n → (ms : List (Option Message)) → AllByRecursion (IsForNode m) ms → AllByRecursion (IsForNode n) ms
voted_more m n h [] all = tt
voted_more m n h (o ∷ ms) all = (node_of_more m n h o all.0, voted_more m n h ms all.1)

-- ---- roots under a block more

unkept_opens : (k : KeptBlock) (blocks : List KeptBlock) (root : List ℕ) → same_root k.root root ≡ false → is_kept blocks root ≡ false
    → is_kept (k ∷ blocks) root ≡ false
unfolding is_kept block_of
unkept_opens k blocks root here later = ap (λ b. is_some (cond b (Some k) (block_of blocks root))) here ∙ later

unkept_nil : (root : List ℕ) → is_kept [] root ≡ false
unfolding is_kept block_of
unkept_nil root = refl

pub unkept_push : (blocks : List KeptBlock) (kept : KeptBlock) (root : List ℕ) → is_kept blocks root ≡ false → same_root kept.root root ≡ false
    → is_kept (blocks ++ kept ∷ []) root ≡ false
unkept_push [] kept root none here = unkept_opens kept [] root here (unkept_nil root)
unkept_push (k ∷ blocks) kept root none here =
    let parts = none_opens k blocks root none in
    unkept_opens k (blocks ++ kept ∷ []) root parts.0 (unkept_push blocks kept root parts.1 here)

boost_more : (blocks more : List KeptBlock) (root : List ℕ) (o : Option ℕ) → IsBoostedNode blocks root o → IsBoostedNode (blocks ++ more) root o
unfolding IsBoostedNode
boost_more blocks more root None is = is
boost_more blocks more root (Some n) is = number_more blocks more root n is

-- a checkpoint's state is that of its block
pub state_more : (store : Store) (more : List KeptBlock) (checkpoint : Checkpoint) (n : ℕ) → node_number store.blocks checkpoint.root ≡ Some n
    → store_target_checkpoint_state (record store { blocks = store.blocks ++ more }) checkpoint ≡ store_target_checkpoint_state store checkpoint
unfolding store_target_checkpoint_state state_at
state_more store more checkpoint n numbered =
    let it = at_number store.blocks checkpoint.root n numbered in
    ap (λ (o : Option KeptBlock). bind (kept_or FcTargetUnknown o) (λ kept. state_at store kept.state (start_slot_of store checkpoint)))
    (block_more store.blocks more checkpoint.root it.kept it.found ∙ sym it.found)

module _ (store : Store) (a : PlainArray) (is : IsArrayOf store a) where
  pub keeps_block : (kept : KeptBlock) (parent : ℕ) → same_root kept.root zero_root ≡ false → node_number store.blocks kept.block.parent_root ≡ Some parent
      → IsArrayOf (record store { blocks = store.blocks ++ kept ∷ [] }) (with_node a parent kept.block.slot kept.root (facts_of kept.state))
  unfolding node_of balances_at
  keeps_block kept parent named numbered =
      let node : Node = record { parent = Some parent; slot = kept.block.slot; root = kept.root; facts = facts_of kept.state } in
      let grown : length a.nodes ≤ length (a.nodes ++ node ∷ []) = omega (arith, length_push a.nodes node) in
      let inside : a.justified_node < length store.blocks = number_inside store.blocks store.justified_checkpoint.root a.justified_node is.justified_node in
      record {
        slots_per_epoch = is.slots_per_epoch;
        percent = is.percent;
        nodes =
            ap (λ nodes. nodes ++ node ∷ []) is.nodes
            ∙ ap (λ p. nodes_of store.blocks ++ record { parent = p; slot = kept.block.slot; root = kept.root; facts = facts_of kept.state } ∷ [])
            (sym numbered)
            ∙ sym (nodes_push store.blocks kept);
        named = unkept_push store.blocks kept zero_root is.named named;
        messages = is.messages ∙ sym (messages_front a.nodes (node ∷ []) a.latest_messages is.voted);
        voted = voted_more (length a.nodes) (length (a.nodes ++ node ∷ [])) grown a.latest_messages is.voted;
        silenced = is.silenced;
        balances = is.balances ∙ ap balances_of (sym (state_more store (kept ∷ []) store.justified_checkpoint a.justified_node is.justified_node));
        justified = is.justified;
        justified_node = number_more store.blocks (kept ∷ []) store.justified_checkpoint.root a.justified_node is.justified_node;
        finalized = is.finalized;
        boosted_node = boost_more store.blocks (kept ∷ []) store.proposer_boost_root a.boosted_node is.boosted_node;
      }
    where
      length_push : {A : Type 0} (xs : List A) (x : A) → length (xs ++ x ∷ []) ≡ length xs + 1
      length_push [] x = refl
      length_push (y ∷ xs) x = let h : length (xs ++ x ∷ []) ≡ length xs + 1 = length_push xs x in omega (arith, h)

  pub keeps_time : (time : ℕ) → IsArrayOf (record store { time = time }) a
  unfolding store_target_checkpoint_state state_at
  keeps_time time = record {
    slots_per_epoch = is.slots_per_epoch;
    percent = is.percent;
    nodes = is.nodes;
    named = is.named;
    messages = is.messages;
    voted = is.voted;
    silenced = is.silenced;
    balances = is.balances;
    justified = is.justified;
    justified_node = is.justified_node;
    finalized = is.finalized;
    boosted_node = is.boosted_node;
  }

  pub keeps_made : IsArrayOf store (made a)
  unfolding balances_at
  keeps_made = record {
    slots_per_epoch = is.slots_per_epoch;
    percent = is.percent;
    nodes = is.nodes;
    named = is.named;
    messages = is.messages;
    voted = is.voted;
    silenced = is.silenced;
    balances = is.balances;
    justified = is.justified;
    justified_node = is.justified_node;
    finalized = is.finalized;
    boosted_node = is.boosted_node;
  }

  pub keeps_spare : (validators : ℕ) → IsArrayOf store (with_spare a validators)
  unfolding balances_at
  keeps_spare validators = record {
    slots_per_epoch = is.slots_per_epoch;
    percent = is.percent;
    nodes = is.nodes;
    named = is.named;
    messages = is.messages;
    voted = is.voted;
    silenced = is.silenced;
    balances = is.balances;
    justified = is.justified;
    justified_node = is.justified_node;
    finalized = is.finalized;
    boosted_node = is.boosted_node;
  }
