-- How much work it is to make weights and head anew: a step is one validator's delta, or one visit of a node.
use Rattle.std.specs.Prelude.{ℕ, Bool, ◌+◌, ◌*◌, not, is_some, length, if◌then◌else◌}
use Rattle.std.specs.List.{count_by}
use Rattle.block_array.specs.PlainArray.{PlainArray, message_of}

-- whether a validator has no message
unfoldable pub has_no_message : PlainArray → ℕ → Bool
has_no_message array validator = not (is_some (message_of array validator))

-- the deltas: one for each validator whose message changed, or that was silenced; where balances were set, one for each that has a
-- message, and for each that has none and was silenced
unfoldable pub deltas_of : PlainArray → ℕ
deltas_of array =
    if array.balances_set then count_by is_some array.latest_messages + count_by (has_no_message array) array.changed_validators
    else length array.changed_validators

-- the deltas, and two visits of each node
unfoldable pub steps_of : PlainArray → ℕ
steps_of array = deltas_of array + 2 * length array.nodes
