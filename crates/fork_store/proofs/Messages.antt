-- An attestation changes the latest messages of a store alone, and an attester slashing the equivocating validators.
use Rattle.std.proofs.Common.{◌≡◌, ℕ, Bool, true, false, cond, List, [], ◌∷◌, fold, refl, ap, ◌∙◌}
use Rattle.beacon_types.specs.declared.attestation.Attestation.{Attestation}
use Rattle.bc_words.specs.Indices.{with_index}
use Rattle.spec_fork_choice.specs.Store.{LatestMessage, Store, is_equivocating}
use Rattle.spec_fork_choice.specs.UpdateLatestMessages.{with_message, is_news, update_latest_message, update_latest_messages}
use Rattle.spec_fork_choice.specs.OnAttesterSlashing.{with_equivocating}

-- a store is another one but for messages and equivocating validators
abbrev pub IsOf : Store → Store → Type 0
IsOf store s = s ≡ record store { latest_messages = s.latest_messages; equivocating_indices = s.equivocating_indices }

then_of : (store mid last : Store) → IsOf store mid → IsOf mid last → IsOf store last
then_of store mid last first second =
    second ∙ ap (λ (s : Store). record s { latest_messages = last.latest_messages; equivocating_indices = last.equivocating_indices }) first

either_of : (b : Bool) (store one two : Store) → IsOf store one → IsOf store two → IsOf store (cond b one two)
either_of true store one two first second = first
either_of false store one two first second = second

one_voted : (store : Store) (message : LatestMessage) (validator : ℕ) → IsOf store (update_latest_message store message validator)
unfolding update_latest_message
one_voted store message validator = either_of (is_news store validator message.epoch) store (record store { latest_messages = with_message store.latest_messages validator message }) store refl refl

all_voted : (store : Store) (message : LatestMessage) (indices : List ℕ) → IsOf store (fold (λ s validator. update_latest_message s message validator) store indices)
all_voted store message [] = refl
all_voted store message (validator ∷ indices) =
    then_of store (update_latest_message store message validator) (fold (λ s other. update_latest_message s message other) (update_latest_message store message validator) indices)
    (one_voted store message validator) (all_voted (update_latest_message store message validator) message indices)

pub messages_voted : (store : Store) (indices : List ℕ) (attestation : Attestation) → IsOf store (update_latest_messages store indices attestation)
unfolding update_latest_messages
messages_voted store indices attestation = all_voted store (record { epoch = attestation.content.target.epoch; root = attestation.content.beacon_block_root }) indices

one_marked : (store : Store) (index : ℕ) → IsOf store (with_equivocating store index)
unfolding with_equivocating
one_marked store index = either_of (is_equivocating store index) store store (record store { equivocating_indices = with_index store.equivocating_indices index }) refl refl

pub all_marked : (store : Store) (indices : List ℕ) → IsOf store (fold with_equivocating store indices)
all_marked store [] = refl
all_marked store (index ∷ indices) =
    then_of store (with_equivocating store index) (fold with_equivocating (with_equivocating store index) indices) (one_marked store index) (all_marked (with_equivocating store index) indices)
