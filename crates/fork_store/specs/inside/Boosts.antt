-- The root of a boosted block.
use Rattle.std.specs.Prelude.{◌≡◌, ◌⊎◌, ℕ, true, List}
use Rattle.spec_state.specs.Genesis.{zero_root}
use Rattle.spec_fork_choice.specs.Store.{KeptBlock, is_kept}

-- it is zero, or kept
unfoldable pub IsZeroOrKept : List KeptBlock → List ℕ → Type 0
IsZeroOrKept blocks root = (root ≡ zero_root) ⊎ (is_kept blocks root ≡ true)
