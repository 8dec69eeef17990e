-- update_latest_messages (fork-choice.md, "update_latest_messages"), of one validator.
use Rattle.std.specs.Prelude.{ℕ, zero, suc, Bool, true, List, [], ◌∷◌, ◌++◌, Option, Some, None, not, ◌&&◌, nat_lt, if◌then◌else◌}
use Rattle.std.specs.Option.{option_map_or}
use Rattle.block_array.specs.declared.node.Message.{Message}
use Rattle.block_array.specs.PlainArray.{PlainArray, message_of, is_listed}

-- the messages with one in the place of a validator; there are none between
unfoldable pub with_message : List (Option Message) → ℕ → Message → List (Option Message)
with_message [] zero message = Some message ∷ []
with_message [] (suc validator) message = None ∷ with_message [] validator message
with_message (first ∷ others) zero message = Some message ∷ others
with_message (first ∷ others) (suc validator) message = first ∷ with_message others validator message

-- whether a message of an epoch is news of a validator: it has none, or one of an earlier epoch; and it isn't silenced
unfoldable pub is_news : PlainArray → ℕ → ℕ → Bool
is_news array validator epoch =
    not (is_listed array.silenced_validators validator) && option_map_or (λ old. nat_lt old.epoch epoch) (message_of array validator) true

-- the changed validators with one more, each once
unfoldable pub with_changed : List ℕ → ℕ → List ℕ
with_changed validators validator = if is_listed validators validator then validators else validators ++ validator ∷ []

-- the array with another message of one validator
unfoldable pub voted : PlainArray → ℕ → Message → PlainArray
voted array validator message = record array {
  latest_messages = with_message array.latest_messages validator message;
  changed_validators = with_changed array.changed_validators validator;
  anything_changed = true;
}

-- and so where it is news
unfoldable pub update_latest_message : PlainArray → ℕ → Message → PlainArray
update_latest_message array validator message = if is_news array validator message.epoch then voted array validator message else array
