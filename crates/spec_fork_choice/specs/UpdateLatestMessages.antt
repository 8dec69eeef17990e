-- update_latest_messages (fork-choice.md, "update_latest_messages").
use Rattle.std.specs.Prelude.{ℕ, zero, suc, Bool, true, not, ◌&&◌, List, [], ◌∷◌, Option, Some, None, fold, nat_lt, if◌then◌else◌}
use Rattle.std.specs.Option.{option_map_or}
use Rattle.beacon_types.specs.declared.attestation.Attestation.{Attestation}
use Rattle.spec_fork_choice.specs.Store.{LatestMessage, Store, message_of, is_equivocating}

-- the messages with one in the place of a validator; there are none between
unfoldable pub with_message : List (Option LatestMessage) → ℕ → LatestMessage → List (Option LatestMessage)
with_message [] zero message = Some message ∷ []
with_message [] (suc validator) message = None ∷ with_message [] validator message
with_message (first ∷ others) zero message = Some message ∷ others
with_message (first ∷ others) (suc validator) message = first ∷ with_message others validator message

-- whether a message of an epoch is news of a validator: it has none, or one of an earlier epoch; and it isn't equivocating
unfoldable pub is_news : Store → ℕ → ℕ → Bool
is_news store validator epoch =
    not (is_equivocating store validator) && option_map_or (λ old. nat_lt old.epoch epoch) (message_of store validator) true

-- the message of one validator
unfoldable pub update_latest_message : Store → LatestMessage → ℕ → Store
update_latest_message store message validator =
    if is_news store validator message.epoch then record store { latest_messages = with_message store.latest_messages validator message } else store

-- update_latest_messages(store, attesting_indices, attestation)
unfoldable pub update_latest_messages : Store → List ℕ → Attestation → Store
update_latest_messages store attesting_indices attestation =
    fold (λ updated validator. update_latest_message updated (record { epoch = attestation.content.target.epoch; root = attestation.content.beacon_block_root }) validator) store attesting_indices
