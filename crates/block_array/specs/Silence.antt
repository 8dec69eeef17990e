-- The silencing of one validator (fork-choice.md, "on_attester_slashing", which adds it to the set of equivocating ones).
use Rattle.std.specs.Prelude.{ℕ, true, if◌then◌else◌}
use Rattle.bc_words.specs.Indices.{with_index}
use Rattle.block_array.specs.PlainArray.{PlainArray, is_listed}
use Rattle.block_array.specs.UpdateLatestMessages.{with_changed}

-- the array with one more silenced validator. Its message stays, and weighs nothing
unfoldable pub silenced : PlainArray → ℕ → PlainArray
silenced array validator = record array {
  silenced_validators = with_index array.silenced_validators validator;
  changed_validators = with_changed array.changed_validators validator;
  anything_changed = true;
}

-- and so where it isn't silenced yet
unfoldable pub silence : PlainArray → ℕ → PlainArray
silence array validator = if is_listed array.silenced_validators validator then array else silenced array validator
