-- The entries of a map as kept blocks, and kept blocks with one more.
use Rattle.std.specs.Prelude.{◌≡◌, ◌==◌, ℕ, List, [], ◌∷◌, ◌++◌, map, if◌then◌else◌}
use Rattle.spec_fork_choice.specs.Store.{KeptBlock, is_kept}
use Rattle.spec_forensics.specs.Clash.{first_accepted}
use Rattle.forensics.specs.Books.{PlainBook}
use Rattle.forensics.specs.declared.kept_blocks.Kept.{Kept}

abbrev pub kept_block : List ℕ × Kept → KeptBlock
kept_block e = record { root = e.0; block = e.1.block; state = e.1.state.value }

unfoldable pub kept_blocks : List (List ℕ × Kept) → List KeptBlock
kept_blocks entries = map kept_block entries

-- a block more, unless its root is kept
unfoldable pub with_kept : List KeptBlock → KeptBlock → List KeptBlock
with_kept blocks kept = if is_kept blocks kept.root then blocks else blocks ++ kept ∷ []

-- a block more in the histories, where it is in the one with a number
unfoldable pub kept_first : ℕ → List KeptBlock → KeptBlock → List KeptBlock
kept_first which blocks kept = if which == 0 then with_kept blocks kept else blocks

unfoldable pub kept_second : ℕ → List KeptBlock → KeptBlock → List KeptBlock
kept_second which blocks kept = if which == 0 then blocks else with_kept blocks kept

-- the blocks of a book's histories are kept
pub record AreKept (book : PlainBook) (first second : List KeptBlock) : Type 0 where
  pub first_are : first ≡ first_accepted book.genesis book.first
  pub second_are : second ≡ first_accepted book.genesis book.second
