-- Votes in the store and in its array: news in one is news in the other.
use Rattle.std.proofs.Common.{◌≡◌, ℕ, zero, suc, ◌+◌, ◌<◌, ◌≤◌, Bool, true, false, cond, not, ◌&&◌, nat_lt, List, [], ◌∷◌, length, drop, fold, get_or, Option, Some, None, slice_index_or, refl, sym, ap, ap₂, subst, ◌∙◌, arith}
use Rattle.std.specs.List.{AllByRecursion}
use Rattle.std.specs.Option.{option_map, option_map_or}
use Rattle.std.proofs.lemmas.List.{drop_all}
use Rattle.std.proofs.Math.Seq.{drop-cons}
use Rattle.beacon_types.specs.declared.attestation.Attestation.{Attestation}
use Rattle.block_array.specs.declared.node.Node.{Node}
use Rattle.block_array.specs.declared.node.Message.{Message}
use Rattle.block_array.specs.PlainArray.{PlainArray, root_at}
use Rattle.block_array.specs.PlainArray as plain_array
use Rattle.block_array.specs.UpdateLatestMessages as array
use Rattle.spec_fork_choice.specs.Store.{LatestMessage, Store, message_of}
use Rattle.spec_fork_choice.specs.StoreTargetCheckpointState.{state_at, store_target_checkpoint_state}
use Rattle.spec_fork_choice.specs.UpdateLatestMessages.{with_message, is_news, update_latest_message, update_latest_messages}
use Rattle.fork_store.specs.Arrays.{message_at, messages_at, IsForNode, balances_at, IsArrayOf}
use Rattle.fork_store.specs.inside.ArrayVotes.{updated_array}
use Rattle.fork_store.proofs.ArraysVotes.{read_mapped, same_silenced}

-- ---- one message

with_mapped : (nodes : List Node) (ms : List (Option Message)) (validator : ℕ) (m : Message)
    → with_message (messages_at nodes ms) validator (message_at nodes m) ≡ messages_at nodes (array.with_message ms validator m)
unfolding with_message array.with_message messages_at
with_mapped nodes [] zero m = refl
with_mapped nodes [] (suc validator) m = ap (λ (xs : List (Option LatestMessage)). None ∷ xs) (with_mapped nodes [] validator m)
with_mapped nodes (first ∷ ms) zero m = refl
with_mapped nodes (first ∷ ms) (suc validator) m = ap (λ xs. option_map (message_at nodes) first ∷ xs) (with_mapped nodes ms validator m)

with_voted : (count : ℕ) (ms : List (Option Message)) (validator : ℕ) (m : Message) → m.node < count → AllByRecursion (IsForNode count) ms
    → AllByRecursion (IsForNode count) (array.with_message ms validator m)
unfolding array.with_message IsForNode
with_voted count [] zero m inside all = (inside, tt)
with_voted count [] (suc validator) m inside all = (tt, with_voted count [] validator m inside tt)
with_voted count (first ∷ ms) zero m inside all = (inside, all.1)
with_voted count (first ∷ ms) (suc validator) m inside all = (all.0, with_voted count ms validator m inside all.1)

news_by : (nodes : List Node) (epoch : ℕ) (o : Option Message)
    → option_map_or (λ old. nat_lt old.epoch epoch) (option_map (message_at nodes) o) true ≡ option_map_or (λ old. nat_lt old.epoch epoch) o true
unfolding message_at
news_by nodes epoch None = refl
news_by nodes epoch (Some m) = refl

message_is : (nodes : List Node) (m : Message) → record { epoch = m.epoch; root = root_at nodes m.node } ≡ message_at nodes m
unfolding message_at
message_is nodes m = refl

pub chosen : (b c : Bool) (s t : Store) (x y : PlainArray) → b ≡ c → IsArrayOf s x → IsArrayOf t y → IsArrayOf (cond b s t) (cond c x y)
chosen true true s t x y same one two = one
chosen true false s t x y same one two = absurd cc
chosen false true s t x y same one two = absurd cc
chosen false false s t x y same one two = two

module _ (store : Store) (a : PlainArray) (is : IsArrayOf store a) (validator : ℕ) where
  same_news : (epoch : ℕ) → is_news store validator epoch ≡ array.is_news a validator epoch
  unfolding is_news array.is_news message_of plain_array.message_of messages_at
  same_news epoch =
      ap (λ b. not b && option_map_or (λ (old : LatestMessage). nat_lt old.epoch epoch) (slice_index_or store.latest_messages validator None) true) (same_silenced store a is validator)
      ∙ ap (λ b. not (plain_array.is_listed a.silenced_validators validator) && b)
      (ap (λ (ms : List (Option LatestMessage)). option_map_or (λ old. nat_lt old.epoch epoch) (slice_index_or ms validator None) true) is.messages
      ∙ ap (λ (o : Option LatestMessage). option_map_or (λ old. nat_lt old.epoch epoch) o true) (read_mapped (message_at a.nodes) a.latest_messages validator)
      ∙ news_by a.nodes epoch (slice_index_or a.latest_messages validator None))

  module _ (epoch node : ℕ) (root : List ℕ) (inside : node < length a.nodes) (named : root_at a.nodes node ≡ root) where
    keeps_vote : IsArrayOf (record store { latest_messages = with_message store.latest_messages validator (record { epoch = epoch; root = root }) })
        (array.voted a validator (record { epoch = epoch; node = node }))
    unfolding array.voted store_target_checkpoint_state state_at balances_at
    keeps_vote = record {
      slots_per_epoch = is.slots_per_epoch;
      percent = is.percent;
      nodes = is.nodes;
      named = is.named;
      messages = moved;
      voted = with_voted (length a.nodes) a.latest_messages validator (record { epoch = epoch; node = node }) inside is.voted;
      silenced = is.silenced;
      balances = is.balances;
      justified = is.justified;
      justified_node = is.justified_node;
      finalized = is.finalized;
      boosted_node = is.boosted_node;
    }
      where
        moved : with_message store.latest_messages validator (record { epoch = epoch; root = root }) ≡ messages_at a.nodes
            (array.with_message a.latest_messages validator (record { epoch = epoch; node = node }))
        moved =
            ap₂ (λ ms r. with_message ms validator (record { epoch = epoch; root = r })) is.messages (sym named)
            ∙ ap (with_message (messages_at a.nodes a.latest_messages) validator) (message_is a.nodes (record { epoch = epoch; node = node }))
            ∙ with_mapped a.nodes a.latest_messages validator (record { epoch = epoch; node = node })

    -- one validator's message
    pub keeps_message : IsArrayOf (update_latest_message store (record { epoch = epoch; root = root }) validator)
        (array.update_latest_message a validator (record { epoch = epoch; node = node }))
    unfolding update_latest_message array.update_latest_message
    keeps_message = chosen (is_news store validator epoch) (array.is_news a validator epoch) _ _ _ _ (same_news epoch) keeps_vote is

-- ---- the messages of some validators

same_nodes_by : (b : Bool) (a : PlainArray) (validator : ℕ) (m : Message) → (cond b (array.voted a validator m) a).nodes ≡ a.nodes
unfolding array.voted
same_nodes_by true a validator m = refl
same_nodes_by false a validator m = refl

pub message_nodes : (a : PlainArray) (validator : ℕ) (m : Message) → (array.update_latest_message a validator m).nodes ≡ a.nodes
unfolding array.update_latest_message
message_nodes a validator m = same_nodes_by (array.is_news a validator m.epoch) a validator m

pub keeps_messages : (store : Store) (a : PlainArray) → IsArrayOf store a → (validators : List ℕ) (epoch node : ℕ) (root : List ℕ) → node < length a.nodes
    → root_at a.nodes node ≡ root
    → IsArrayOf (fold (λ updated validator. update_latest_message updated (record { epoch = epoch; root = root }) validator) store validators)
    (updated_array a validators (record { epoch = epoch; node = node }))
unfolding updated_array
keeps_messages store a is [] epoch node root inside named = is
keeps_messages store a is (validator ∷ validators) epoch node root inside named =
    let m : Message = record { epoch = epoch; node = node } in
    let same : (array.update_latest_message a validator m).nodes ≡ a.nodes = message_nodes a validator m in
    keeps_messages (update_latest_message store (record { epoch = epoch; root = root }) validator) (array.update_latest_message a validator m)
    (keeps_message store a is validator epoch node root inside named) validators epoch node root
    (subst (λ (nodes : List Node). node < length nodes) (sym same) inside) (ap (λ nodes. root_at nodes node) same ∙ named)

pub keeps_attestation : (store : Store) (a : PlainArray) → IsArrayOf store a → (validators : List ℕ) (attestation : Attestation) (node : ℕ)
    → node < length a.nodes → root_at a.nodes node ≡ attestation.content.beacon_block_root
    → IsArrayOf (update_latest_messages store validators attestation)
    (updated_array a validators (record { epoch = attestation.content.target.epoch; node = node }))
unfolding update_latest_messages
keeps_attestation store a is validators attestation node inside named = keeps_messages store a is validators attestation.content.target.epoch node
    attestation.content.beacon_block_root inside named

-- ---- a loop over them

pub votes_begin : (a : PlainArray) (validators : List ℕ) (m : Message) → updated_array a (drop 0 validators) m ≡ updated_array a validators m
votes_begin a validators m = refl

pub votes_step : (a : PlainArray) (validators : List ℕ) (m : Message) (i : ℕ) → i < length validators
    → updated_array a (drop i validators) m ≡ updated_array (array.update_latest_message a (get_or validators i 0) m) (drop (i + 1) validators) m
unfolding updated_array
votes_step a validators m i inside =
    ap (λ xs. updated_array a xs m) (drop-cons validators i 0 inside)
    ∙ ap (λ k. updated_array (array.update_latest_message a (get_or validators i 0) m) (drop k validators) m) (let e : suc i ≡ i + 1 = omega arith in e)

pub votes_end : (a : PlainArray) (validators : List ℕ) (m : Message) (i : ℕ) → length validators ≤ i → updated_array a (drop i validators) m ≡ a
unfolding updated_array
votes_end a validators m i h = ap (λ xs. updated_array a xs m) (drop_all i validators h)

pub ruleset voting = (votes_begin, votes_step, votes_end)
