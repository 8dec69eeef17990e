-- What the calls of a shelf and of a sink do.
use Rattle.std.specs.Prelude.{◌≡◌, ℕ, ◌<◌, ◌≤◌, ◌⊎◌, ◌==◌, Bool, true, false, ◌&&◌, List, [], ◌∷◌, ◌++◌, length, take, Option, Some, Result, Ok, Err}
use Rattle.bc_outside.specs.declared.trouble.Trouble.{Trouble}
use Rattle.bc_outside.specs.declared.trouble.Trouble.TheVariants.{Failed, NoMemory}
use Rattle.bc_outside.specs.Told.{ShelfTold, SinkTold, Agrees, AllThere, any_byte, opened_file, with_more}

-- A count of faults rose, or stands at its last value, 2 ^ 64 - 1.
abbrev pub Rose : ℕ → ℕ → Type 0
Rose before now = (before < now) ⊎ (now ≡ 18446744073709551615)

-- `Failed` comes only where the count rose, and on `NoMemory` the count stays. It never falls.
abbrev pub FailsOnlyBy : {T : Type 0} → Result T Trouble → ℕ → ℕ → Type 0
FailsOnlyBy (Ok _) before now = before ≤ now
FailsOnlyBy (Err Failed) before now = (before ≤ now) × Rose before now
FailsOnlyBy (Err NoMemory) before now = now ≡ before

-- The same of an adapter, which makes many calls: before it ran out of memory some call may have counted a fault.
abbrev pub HasCause : {T : Type 0} → Result T Trouble → ℕ → ℕ → Type 0
HasCause (Ok _) before now = before ≤ now
HasCause (Err Failed) before now = (before ≤ now) × Rose before now
HasCause (Err NoMemory) before now = before ≤ now

-- What calls do to a shelf that ask for these names at most. Opened files stay, and the count of faults never falls. What
-- the names hold, where it is known, and whether the shelf is reliable never change. What agrees with all that is handed out then agrees with
-- what was handed out before. What the names hold goes on to agree, where it is known. A reliable shelf on which the
-- names are there counts no fault.
pub record ShelfKeeps (names : List (List ℕ)) (old new : ShelfTold) : Type 0 where
  pub opened : length old.files ≤ length new.files
  pub faults : old.faults ≤ new.faults
  pub contents : new.contents ≡ old.contents
  pub reliable : new.reliable ≡ old.reliable
  pub agreed : (c : List ℕ → Option (List ℕ)) → Agrees c new.files → Agrees c old.files
  pub honest : (c : List ℕ → Option (List ℕ)) → old.contents ≡ Some c → Agrees c old.files → Agrees c new.files
  pub steady : (c : List ℕ → Option (List ℕ)) → old.contents ≡ Some c → old.reliable ≡ true → AllThere c names → new.faults ≡ old.faults

-- What calls do to a sink: its count of faults never falls, whether it is reliable never changes, and a reliable one
-- counts no fault.
pub record SinkKeeps (old new : SinkTold) : Type 0 where
  pub faults : old.faults ≤ new.faults
  pub reliable : new.reliable ≡ old.reliable
  pub steady : old.reliable ≡ true → new.faults ≡ old.faults

-- Nothing was opened, asked for or handed out.
pub record Stays (old new : ShelfTold) : Type 0 where
  pub files : new.files ≡ old.files
  pub asked : new.asked ≡ old.asked

-- A file was opened under this name. Its number is the number of files opened before it.
pub record Opened (name : List ℕ) (file : ℕ) (old new : ShelfTold) : Type 0 where
  pub number : file ≡ length old.files
  pub files : new.files ≡ old.files ++ opened_file name ∷ []
  pub asked : new.asked ≡ old.asked ++ name ∷ []

-- Nothing was opened, and the name is listed among those that were asked for.
pub record NotOpened (name : List ℕ) (old new : ShelfTold) : Type 0 where
  pub files : new.files ≡ old.files
  pub asked : new.asked ≡ old.asked ++ name ∷ []

-- What `open` did.
abbrev pub Opens : List ℕ → Result ℕ Trouble → ShelfTold → ShelfTold → Type 0
Opens name (Ok file) old new = Opened name file old new
Opens name (Err Failed) old new = NotOpened name old new
Opens name (Err NoMemory) old new = Stays old new

-- These bytes were taken of a file, and its end was met or not. Nothing else changed.
pub record Takes (file : ℕ) (bytes : List ℕ) (met : Bool) (old new : ShelfTold) : Type 0 where
  pub files : new.files ≡ with_more old.files file bytes met
  pub asked : new.asked ≡ old.asked

-- a read into this piece that gives n bytes meets the file's end
abbrev pub meets_end : List ℕ → ℕ → Bool
meets_end piece n = (n == 0) && any_byte piece

-- n bytes were read to the front of a piece.
pub record ReadInto (file : ℕ) (piece piece_then : List ℕ) (n : ℕ) (old new : ShelfTold) : Type 0 where
  pub within : n ≤ length piece
  pub taken : Takes file (take n piece_then) (meets_end piece n) old new

-- What `read` did. After an error nothing was taken, and the piece may hold anything.
abbrev pub Reads : ℕ → List ℕ → List ℕ → Result ℕ Trouble → ShelfTold → ShelfTold → Type 0
Reads file piece piece_then (Ok n) old new = ReadInto file piece piece_then n old new
Reads file piece piece_then (Err _) old new = Stays old new

-- At least one byte of the piece and at most all of it was written, from its front.
pub record WroteOf (piece : List ℕ) (n : ℕ) (old new : SinkTold) : Type 0 where
  pub some : 1 ≤ n
  pub within : n ≤ length piece
  pub taken : new.taken ≡ old.taken ++ take n piece

-- What `write` did. After an error nothing was written.
abbrev pub Writes : List ℕ → Result ℕ Trouble → SinkTold → SinkTold → Type 0
Writes piece (Ok n) old new = WroteOf piece n old new
Writes piece (Err _) old new = new.taken ≡ old.taken

-- What was read of a file up to a limit: the bytes that were taken of it, at most that many, and fewer only where its
-- end was met.
pub record ReadUpTo (limit file : ℕ) (bytes : List ℕ) (old new : ShelfTold) : Type 0 where
  pub met : Bool
  pub taken : Takes file bytes met old new
  pub within : length bytes ≤ limit
  pub all : length bytes < limit → met ≡ true

-- Some bytes were taken of a file, at most that many, and its end was not met.
abbrev pub TakesSome : ℕ → ℕ → ShelfTold → ShelfTold → Type 0
TakesSome limit file old new = (bytes : List ℕ) × (length bytes ≤ limit) × Takes file bytes false old new

-- What reading a file up to a limit gives. After an error some bytes may have been taken.
abbrev pub ReadsUpTo : {V : Type 0} → (V → List ℕ) → ℕ → ℕ → Result V Trouble → ShelfTold → ShelfTold → Type 0
ReadsUpTo items limit file (Ok bytes) old new = ReadUpTo limit file (items bytes) old new
ReadsUpTo items limit file (Err _) old new = TakesSome limit file old new

-- What writing all of the bytes does. After an error some of them may have been written, from the front.
abbrev pub WritesAll : {V : Type 0} → List ℕ → Result V Trouble → SinkTold → SinkTold → Type 0
WritesAll bytes (Ok _) old new = new.taken ≡ old.taken ++ bytes
WritesAll bytes (Err _) old new = (n : ℕ) × (n ≤ length bytes) × (new.taken ≡ old.taken ++ take n bytes)
