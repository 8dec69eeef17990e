-- The votes of an attestation in the array.
use Rattle.std.proofs.Common.{◌≡◌, ◌∙◌, ◌<◌, ap₂, ℕ, Bool, true, false, if◌then◌else◌, max, List, [], ◌∷◌, length, Option, Some, Result, Ok, Err, IsOk, refl, sym, ap, subst, arith}
use Rattle.std.proofs.lemmas.Bool.{false≢true}
use Rattle.bc_words.specs.Outcome.{Becomes}
use Rattle.bc_words.specs.declared.stop.NoMemory.{NoMemory}
use Rattle.beacon_types.specs.declared.attestation.Attestation.{Attestation}
use Rattle.block_array.specs.PlainArray.{PlainArray, root_at}
use Rattle.block_array.specs.declared.node.Message.{Message}
use Rattle.block_array.specs.Calls.{with_spare}
use Rattle.block_array.specs.UpdateLatestMessages.{update_latest_message, is_news, voted}
use Rattle.spec_fork_choice.specs.Store.{Store, LatestMessage}
use Rattle.spec_fork_choice.specs.StoreTargetCheckpointState.{store_target_checkpoint_state, state_at}
use Rattle.spec_fork_choice.specs.UpdateLatestMessages.{update_latest_messages}
use Rattle.fork_store.specs.Trees.{IsTree}
use Rattle.fork_store.specs.inside.Messages.{AllBelow}
use Rattle.fork_store.specs.Arrays.{Balances, node_number, messages_at, IsArrayOf}
use Rattle.fork_store.specs.inside.ArrayVotes.{updated_array}
use Rattle.fork_store.specs.inside.Wholes.{IsReady, IsWhole}
use Rattle.fork_store.proofs.Following.{number_fits}
use Rattle.fork_store.proofs.Messages.{IsOf, messages_voted}
use Rattle.fork_store.proofs.ArraysNodes.{root_of_number}
use Rattle.fork_store.proofs.ArraysSteps.{keeps_spare}
use Rattle.fork_store.proofs.ArraysMessages.{votes_begin, votes_step, votes_end, message_nodes, keeps_attestation}

-- ---- a store whose messages and equivocating validators are those of an array

pub store_taken : (store s after : Store) (new : PlainArray) → IsOf store s → IsArrayOf s new
    → after ≡ record store { latest_messages = messages_at new.nodes new.latest_messages; equivocating_indices = new.silenced_validators } → after ≡ s
store_taken store s after new of array is =
    is
    ∙ ap₂ (λ (messages : List (Option LatestMessage)) (indices : List ℕ). record store { latest_messages = messages; equivocating_indices = indices }) (sym array.messages) array.silenced
    ∙ sym of

-- ---- one vote

pub vote_made : {U : Type 0} (result : Result U NoMemory) (v : ℕ) (old new value : PlainArray) → Becomes result old new value → (v < old.spare_validators → IsOk result) → v < old.spare_validators → new ≡ value
vote_made (Ok x) v old new value is room fits = is
vote_made (Err stop) v old new value is room fits = absurd (false≢true (room fits))

spare_by : (news : Bool) (a : PlainArray) (v : ℕ) (m : Message) → (if news then voted a v m else a).spare_validators ≡ a.spare_validators
unfolding voted
spare_by true a v m = refl
spare_by false a v m = refl

pub vote_spare : (a : PlainArray) (v : ℕ) (m : Message) → (update_latest_message a v m).spare_validators ≡ a.spare_validators
unfolding update_latest_message
vote_spare a v m = spare_by (is_news a v m.epoch) a v m

pub vote_nodes : (a : PlainArray) (v : ℕ) (m : Message) → length (update_latest_message a v m).nodes ≡ length a.nodes
vote_nodes a v m = ap length (message_nodes a v m)

-- the mark that balances were set stays
unset_by : (news : Bool) (a : PlainArray) (v : ℕ) (m : Message) → (if news then voted a v m else a).balances_set ≡ a.balances_set
unfolding voted
unset_by true a v m = refl
unset_by false a v m = refl

pub votes_unset : (a : PlainArray) (validators : List ℕ) (m : Message) → (updated_array a validators m).balances_set ≡ a.balances_set
unfolding updated_array update_latest_message
votes_unset a [] m = refl
votes_unset a (v ∷ validators) m = votes_unset (update_latest_message a v m) validators m ∙ unset_by (is_news a v m.epoch) a v m

pub ruleset each_votes = (votes_begin, votes_step, votes_end, vote_made, vote_spare, vote_nodes)

-- ---- all of them

module _ (store : Store) (a told : PlainArray) (places : ℕ) (is : IsArrayOf store a) (spare : told ≡ with_spare a places) where
  pub voter_fits : (root : List ℕ) (node : ℕ) → Some node ≡ node_number store.blocks root → node < length told.nodes
  voter_fits root node at = subst (λ (x : PlainArray). node < length x.nodes) (sym spare) (number_fits store.blocks root node a at is.nodes)

  pub voters_fit : (indices : List ℕ) → AllBelow places indices → AllBelow told.spare_validators indices
  voters_fit indices all k inside = let s : told.spare_validators ≡ max a.spare_validators places = ap (λ (x : PlainArray). x.spare_validators) spare in let h = all k inside in omega (arith, s, h)

  told_array : IsArrayOf store told
  told_array = subst (IsArrayOf store) (sym spare) (keeps_spare store a is places)

  module _ (new : PlainArray) (indices : List ℕ) (attestation : Attestation) (node : ℕ) (tree : IsTree store.blocks) (at : Some node ≡ node_number store.blocks attestation.content.beacon_block_root) (given : new ≡ updated_array told indices (record { epoch = attestation.content.target.epoch; node = node })) where
    voted_array : IsArrayOf (update_latest_messages store indices attestation) new
    voted_array =
        let named : root_at told.nodes node ≡ attestation.content.beacon_block_root = ap (λ nodes. root_at nodes node) told_array.nodes ∙ root_of_number store.blocks tree attestation.content.beacon_block_root node (sym at) in
        subst (IsArrayOf (update_latest_messages store indices attestation)) (sym given)
        (keeps_attestation store told told_array indices attestation node (voter_fits attestation.content.beacon_block_root node at) named)

    -- a store whose votes are those of the array
    pub store_voted : (after : Store) → after ≡ record store { latest_messages = messages_at new.nodes new.latest_messages; equivocating_indices = new.silenced_validators } → after ≡ update_latest_messages store indices attestation
    store_voted after is = store_taken store (update_latest_messages store indices attestation) after new (messages_voted store indices attestation) voted_array is

    pub array_voted : (after : Store) → after ≡ record store { latest_messages = messages_at new.nodes new.latest_messages; equivocating_indices = new.silenced_validators } → IsArrayOf after new
    array_voted after is = subst (λ (s : Store). IsArrayOf s new) (sym (store_voted after is)) voted_array

ready_voted : (store : Store) (messages : List (Option LatestMessage)) (indices : List ℕ) (ready : Option Balances) → IsReady store ready → IsReady (record store { latest_messages = messages; equivocating_indices = indices }) ready
unfolding store_target_checkpoint_state state_at IsReady
ready_voted store messages indices ready is = is

pub votes_whole : (store after : Store) (a new : PlainArray) (ready : Option Balances) (messages : List (Option LatestMessage)) (indices : List ℕ) → IsWhole store a ready → after ≡ record store { latest_messages = messages; equivocating_indices = indices } → IsArrayOf after new → IsWhole after new ready
votes_whole store after a new ready messages indices whole is array =
    subst (λ (x : Store). IsArrayOf x new → IsWhole x new ready) (sym is) (λ one. record { array_of = one; chained = whole.chained; few = whole.few; ready_is = ready_voted store messages indices ready whole.ready_is }) array

pub same_array : (store : Store) (a after : PlainArray) (ready : Option Balances) → IsWhole store a ready → after ≡ a → IsWhole store after ready
same_array store a after ready whole is = subst (λ (x : PlainArray). IsWhole store x ready) (sym is) whole
