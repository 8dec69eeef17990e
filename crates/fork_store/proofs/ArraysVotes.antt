-- Votes for a block and the boost are those of its node.
use Rattle.std.proofs.Common.{◌≡◌, ℕ, zero, suc, ◌<◌, Bool, true, false, cond, eqb, ap₂, not, ◌&&◌, List, [], ◌∷◌, length, map, Option, Some, None, slice_index_or, refl, sym, ap, subst, ◌∙◌}
use Rattle.std.specs.List.{AllByRecursion, list_any}
use Rattle.std.specs.Option.{option_map, option_map_or}
use Rattle.std.proofs.lemmas.Bool.{false_from_ne_true}
use Rattle.beacon_types.specs.Equality.{same_root}
use Rattle.block_array.specs.declared.node.Message.{Message}
use Rattle.block_array.specs.PlainArray.{PlainArray, root_at}
use Rattle.block_array.specs.PlainArray as array
use Rattle.block_array.specs.GetLatestAttestingBalance as weights
use Rattle.spec_state.specs.Genesis.{zero_root}
use Rattle.spec_fork_choice.specs.Store.{KeptBlock, LatestMessage, Store, is_kept, message_of, is_equivocating, vote_of}
use Rattle.spec_fork_choice.specs.Clash.{place_of}
use Rattle.spec_fork_choice.specs.GetLatestAttestingBalance.{is_on_chain_of, votes_for, is_boosted}
use Rattle.fork_store.specs.Arrays.{node_number, nodes_of, message_at, messages_at, IsForNode, IsBoostedNode, IsArrayOf}
use Rattle.fork_store.specs.Trees.{IsTree}
use Rattle.fork_store.proofs.ArraysPlaces.{same_is, is_same}
use Rattle.fork_store.proofs.ArraysNodes.{length_nodes, root_number}
use Rattle.fork_store.proofs.ArraysAncestors.{on_chain}

pub read_mapped : {A B : Type 0} (f : A → B) (xs : List (Option A)) (i : ℕ)
    → slice_index_or (map (option_map f) xs) i None ≡ option_map f (slice_index_or xs i None)
read_mapped f [] i = refl
read_mapped f (x ∷ xs) zero = refl
read_mapped f (x ∷ xs) (suc i) = read_mapped f xs i

pub all_read : {A : Type 0} (P : Option A → Type 0) → P None → (xs : List (Option A)) (i : ℕ) → AllByRecursion P xs → P (slice_index_or xs i None)
all_read P none [] i all = none
all_read P none (x ∷ xs) zero all = all.0
all_read P none (x ∷ xs) (suc i) all = all_read P none xs i all.1

-- the zero root has no number
pub zero_has_none : (blocks : List KeptBlock) → is_kept blocks zero_root ≡ false → node_number blocks zero_root ≡ None
unfolding node_number
zero_has_none blocks h = ap (λ b. cond b (Some (place_of blocks zero_root)) None) h

pub not_zero : (blocks : List KeptBlock) (root : List ℕ) (n : ℕ) → is_kept blocks zero_root ≡ false → node_number blocks root ≡ Some n
    → same_root root zero_root ≡ false
not_zero blocks root n h numbered =
    false_from_ne_true (same_root root zero_root) (λ t. let e : None ≡ Some n = sym (zero_has_none blocks h) ∙ ap (node_number blocks)
    (sym (same_is root zero_root t)) ∙ numbered in absurd cc)

-- the equivocating validators are the silenced ones
pub same_silenced : (store : Store) (a : PlainArray) → IsArrayOf store a → (validator : ℕ) → is_equivocating store validator ≡ array.is_listed a.silenced_validators validator
unfolding is_equivocating array.is_listed
same_silenced store a is validator = ap (λ indices. list_any (λ index. eqb index validator) indices) (sym is.silenced)

vote_by : {A B : Type 0} (f : A → B) (b : Bool) (o : Option A) → cond b None (option_map f o) ≡ option_map f (cond b None o)
vote_by f true o = refl
vote_by f false o = refl

inside_by : (count : ℕ) (b : Bool) (o : Option Message) → IsForNode count o → IsForNode count (cond b None o)
unfolding IsForNode
inside_by count true o inside = tt
inside_by count false o inside = inside

module _ (store : Store) (a : PlainArray) (is : IsArrayOf store a) (tree : IsTree store.blocks) where
  pub same_length : length a.nodes ≡ length store.blocks
  same_length = ap length is.nodes ∙ length_nodes store.blocks

  pub message_is : (validator : ℕ) → message_of store validator ≡ option_map (message_at a.nodes) (array.message_of a validator)
  unfolding message_of array.message_of messages_at
  message_is validator = ap (λ ms. slice_index_or ms validator None) is.messages ∙ read_mapped (message_at a.nodes) a.latest_messages validator

  pub message_inside : (validator : ℕ) → IsForNode (length a.nodes) (array.message_of a validator)
  unfolding array.message_of IsForNode
  message_inside validator = all_read (IsForNode (length a.nodes)) tt a.latest_messages validator is.voted

  vote_is : (validator : ℕ) → vote_of store validator ≡ option_map (message_at a.nodes) (array.vote_of a validator)
  unfolding vote_of array.vote_of
  vote_is validator =
      ap₂ (λ b o. cond b None o) (same_silenced store a is validator) (message_is validator)
      ∙ vote_by (message_at a.nodes) (array.is_listed a.silenced_validators validator) (array.message_of a validator)

  vote_inside : (validator : ℕ) → IsForNode (length a.nodes) (array.vote_of a validator)
  unfolding array.vote_of
  vote_inside validator = inside_by (length a.nodes) (array.is_listed a.silenced_validators validator) (array.message_of a validator) (message_inside validator)

  module _ (root : List ℕ) (n : ℕ) (numbered : node_number store.blocks root ≡ Some n) where
    chain_at : (m : ℕ) → m < length a.nodes → is_on_chain_of store root (root_at a.nodes m) ≡ weights.is_on_chain_of a.nodes n m
    chain_at m inside =
        let less : m < length store.blocks = subst (λ k. m < k) same_length inside in
        ap (λ nodes. is_on_chain_of store root (root_at nodes m)) is.nodes
        ∙ on_chain store tree root n numbered (root_at (nodes_of store.blocks) m) m (root_number store.blocks tree m less)
        ∙ ap (λ nodes. weights.is_on_chain_of nodes n m) (sym is.nodes)

    votes_by : (o : Option Message) → IsForNode (length a.nodes) o → option_map_or (λ m. is_on_chain_of store root m.root) (option_map (message_at a.nodes) o)
        false ≡ option_map_or (λ m. weights.is_on_chain_of a.nodes n m.node) o false
    unfolding IsForNode message_at
    votes_by None inside = refl
    votes_by (Some m) inside = chain_at m.node inside

    pub same_votes : (validator : ℕ) → votes_for store root validator ≡ weights.votes_for a n validator
    unfolding votes_for weights.votes_for
    same_votes validator =
        ap (λ (o : Option LatestMessage). option_map_or (λ m. is_on_chain_of store root m.root) o false) (vote_is validator)
        ∙ votes_by (array.vote_of a validator) (vote_inside validator)

    boosted_by : (o : Option ℕ) → IsBoostedNode store.blocks store.proposer_boost_root o → is_boosted store root ≡ option_map_or
        (λ b. weights.is_on_chain_of a.nodes n b) o false
    unfolding is_boosted IsBoostedNode
    boosted_by None zero_is = ap (λ b. not b && is_on_chain_of store root store.proposer_boost_root) (is_same store.proposer_boost_root zero_root zero_is)
    boosted_by (Some b) there =
        ap (λ c. not c && is_on_chain_of store root store.proposer_boost_root) (not_zero store.blocks store.proposer_boost_root b is.named there)
        ∙ on_chain store tree root n numbered store.proposer_boost_root b there
        ∙ ap (λ nodes. weights.is_on_chain_of nodes n b) (sym is.nodes)

    pub same_boost : is_boosted store root ≡ weights.is_boosted a n
    unfolding weights.is_boosted
    same_boost = boosted_by a.boosted_node is.boosted_node
