-- What a list gives at an index: its item, or the refusal of an index that it does not have.
use Rattle.std.specs.Prelude.{ℕ, List, Option, Some, None, slice_get}
use Rattle.bc_words.specs.Outcome.{Outcome, done, refused}
use Rattle.bc_words.specs.declared.refusal.Refusal.TheVariants.{IndexRange}

-- what was found, or the refusal of an index that a list does not have
abbrev pub found : {A : Type 0} → Option A → Outcome A
found (Some item) = done item
found None = refused IndexRange

-- the item of a list at an index
abbrev pub item_at : {A : Type 0} → List A → ℕ → Outcome A
item_at items index = found (slice_get items index)
