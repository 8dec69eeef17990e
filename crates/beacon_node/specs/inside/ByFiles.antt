-- Runs that write once all their files are read, one file after the other.
use Rattle.std.specs.Prelude.{◌≡◌, ℕ, false, List, ◌∷◌, ◌++◌, [], Option, Some}
use Rattle.bc_outside.specs.Told.{FileHanded, ShelfTold}
use Rattle.spec_replay.specs.Run.{Run, End, after_file, over}
use Rattle.one_chain.specs.declared.status.Status.{Status}
use Rattle.one_chain.specs.Answers.{Replayed, breaks_off, end_of, whole_of}

-- What became of a run over files that are read in this order, where what the names hold says which run it is.
abbrev pub EndsOver : ((List ℕ → Option (List ℕ)) → Run) → List (List ℕ) → Status → ShelfTold → ShelfTold → List ℕ → List ℕ → Type 0
EndsOver run names status told told_then written written_then = Replayed run (λ contents opened. whole_of status (run contents)) names status told told_then written written_then

-- A file was opened under the name, and this was handed out of it.
pub record Handed (name : List ℕ) (handed : FileHanded) (told told_then : ShelfTold) : Type 0 where
  pub named : handed.name ≡ name
  pub files : told_then.files ≡ told.files ++ handed ∷ []
  pub asked : told_then.asked ≡ told.asked ++ name ∷ []

-- The run is over behind its first file, and ends with this status, unless it was broken off.
abbrev pub StopsBehindFile : Status → Run → Type 0
StopsBehindFile status run = breaks_off status ≡ false → (end : End) × (Some end ≡ end_of status) × (run ≡ after_file (over end))
