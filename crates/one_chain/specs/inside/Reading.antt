-- What asking a shelf for a whole file does.
use Rattle.std.specs.Prelude.{◌≡◌, ◌≤◌, ◌⊎◌, ℕ, List, [], ◌∷◌, ◌++◌, length, take, Some, Result, Ok, Err}
use Rattle.bc_outside.specs.Told.{FileHanded, ShelfTold, FileAgrees}
use Rattle.bc_outside.specs.declared.trouble.Trouble.{Trouble}

-- A file was opened under the name, and the bytes are those that it holds, up to the limit.
pub record ReadOf (name : List ℕ) (limit : ℕ) (bytes : List ℕ) (told told_then : ShelfTold) : Type 0 where
  pub handed : FileHanded
  pub named : handed.name ≡ name
  pub files : told_then.files ≡ told.files ++ handed ∷ []
  pub asked : told_then.asked ≡ told.asked ++ name ∷ []
  pub front : (whole : List ℕ) → FileAgrees (Some whole) handed → bytes ≡ take limit whole

-- The name may have been asked for, and a file may have been opened.
pub record Unread (name : List ℕ) (told told_then : ShelfTold) : Type 0 where
  pub opened : List FileHanded
  pub few : length opened ≤ 1
  pub files : told_then.files ≡ told.files ++ opened
  pub asked : (told_then.asked ≡ told.asked) ⊎ (told_then.asked ≡ told.asked ++ name ∷ [])

-- What reading a named file up to a limit gives.
abbrev pub ReadsNamed : {V : Type 0} → (V → List ℕ) → List ℕ → ℕ → Result V Trouble → ShelfTold → ShelfTold → Type 0
ReadsNamed items name limit (Ok bytes) told told_then = ReadOf name limit (items bytes) told told_then
ReadsNamed items name limit (Err trouble) told told_then = Unread name told told_then
