-- The roots of kept blocks, which are kept beside them.
use Rattle.std.specs.Prelude.{ℕ, List, map}
use Rattle.spec_fork_choice.specs.Store.{KeptBlock}

abbrev pub roots_of : List KeptBlock → List (List ℕ)
roots_of blocks = map (λ kept. kept.root) blocks
