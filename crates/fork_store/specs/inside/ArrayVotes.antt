-- The array with the votes of some validators, one after another, or with these silenced.
use Rattle.std.specs.Prelude.{ℕ, List, [], ◌∷◌}
use Rattle.block_array.specs.declared.node.Message.{Message}
use Rattle.block_array.specs.PlainArray.{PlainArray}
use Rattle.block_array.specs.UpdateLatestMessages.{update_latest_message}
use Rattle.block_array.specs.Silence.{silence}

unfoldable pub updated_array : PlainArray → List ℕ → Message → PlainArray
updated_array array [] message = array
updated_array array (validator ∷ validators) message = updated_array (update_latest_message array validator message) validators message

unfoldable pub silenced_array : PlainArray → List ℕ → PlainArray
silenced_array array [] = array
silenced_array array (validator ∷ validators) = silenced_array (silence array validator) validators
