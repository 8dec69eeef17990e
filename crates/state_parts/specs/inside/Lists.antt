-- The lists of a state.
use Rattle.std.specs.Prelude.{ℕ, List}
use Rattle.shared_tree.specs.Lists.{Limited}

-- a list of which there may be so many
abbrev pub limited_to : {A : Type 0} → ℕ → List A → Limited A
limited_to limit items = record { limit = limit; items = items }
