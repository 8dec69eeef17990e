-- Files and a sink that lie in memory.
use Rattle.std.specs.Prelude.{◌≡◌, ℕ, zero, suc, ◌+◌, min, Bool, true, false, List, [], ◌∷◌, ◌++◌, length, map, take, drop, Option, Some, None, IsSome, ◌⊎◌, ◌==◌, ◌||◌, if◌then◌else◌, Result, Ok, Err}
use Rattle.std.specs.Str.{bytes_eq}
use Rattle.bc_outside.specs.declared.trouble.Trouble.{Trouble}
use Rattle.bc_outside.specs.declared.trouble.Trouble.TheVariants.{Failed, NoMemory}
use Rattle.bc_outside.specs.Told.{ShelfTold, SinkTold, FileHanded}
use Rattle.bc_outside.specs.Calls.{meets_end}

-- A file under a name.
pub record NamedFile : Type 0 where
  pub name : List ℕ
  pub bytes : List ℕ

-- A file that was opened: its name, all its bytes, how many of them were taken so far, and whether its end was met.
pub record OpenedFile : Type 0 where
  pub name : List ℕ
  pub bytes : List ℕ
  pub taken : ℕ
  pub ended : Bool

-- A shelf in memory: its files, those that were opened, the names that were asked for, the numbers of the calls that
-- are to fail, how many bytes a call hands out at most, how many calls there were, and how many faults.
pub record MemoryFiles : Type 0 where
  pub files : List NamedFile
  pub opened : List OpenedFile
  pub asked : List (List ℕ)
  pub failing : List ℕ
  pub greatest : ℕ
  pub calls : ℕ
  pub faults : ℕ

-- the bytes under a name: those of the first file that has it
unfoldable pub held_in : List NamedFile → List ℕ → Option (List ℕ)
held_in [] name = None
held_in (file ∷ files) name = if bytes_eq file.name name then Some file.bytes else held_in files name

-- whether a number is in a list
abbrev pub is_listed : List ℕ → ℕ → Bool
is_listed [] n = false
is_listed (m ∷ ms) n = (m == n) || is_listed ms n

-- the next number, which stays at the last one of 64 bits
abbrev pub counted : ℕ → ℕ
counted n = min (n + 1) 18446744073709551615

-- whether no call is to fail
abbrev pub is_reliable : List ℕ → Bool
is_reliable [] = true
is_reliable (_ ∷ _) = false

-- what was handed out of a file that was opened
abbrev pub handed_of : OpenedFile → FileHanded
handed_of f = record { name = f.name; bytes = take f.taken f.bytes; ended = f.ended; grew = false }

-- what a shelf in memory tells: what its names hold is known
abbrev pub told_by : MemoryFiles → ShelfTold
told_by shelf = record {
  files = map handed_of shelf.opened;
  asked = shelf.asked;
  faults = shelf.faults;
  contents = Some (held_in shelf.files);
  reliable = is_reliable shelf.failing;
}

-- a file that is just opened
abbrev pub at_start : List ℕ → Option (List ℕ) → List OpenedFile
at_start name None = []
at_start name (Some bytes) = record { name = name; bytes = bytes; taken = 0; ended = false } ∷ []

-- n more bytes are taken of the file with this number, and its end is met or not
unfoldable pub with_taken : List OpenedFile → ℕ → ℕ → Bool → List OpenedFile
with_taken [] file n met = []
with_taken (f ∷ files) zero n met = record { name = f.name; bytes = f.bytes; taken = f.taken + n; ended = f.ended || met } ∷ files
with_taken (f ∷ files) (suc file) n met = f ∷ with_taken files file n met

-- the bytes of the file with this number that were not taken yet
unfoldable pub left_in : List OpenedFile → ℕ → Option (List ℕ)
left_in [] file = None
left_in (f ∷ files) zero = Some (drop f.taken f.bytes)
left_in (f ∷ files) (suc file) = left_in files file

-- no file is opened yet, and no call was made
abbrev pub unopened : List NamedFile → List ℕ → ℕ → MemoryFiles
unopened files failing greatest = record { files = files; opened = []; asked = []; failing = failing; greatest = greatest; calls = 0; faults = 0 }

-- whether the next call is to fail
abbrev pub is_failing : List ℕ → ℕ → Bool
is_failing failing calls = is_listed failing (counted calls)

-- What `open` of a name answers and leaves. It fails exactly where the call is to fail or the name isn't there.
abbrev pub OpensIn : List ℕ → Result ℕ Trouble → MemoryFiles → MemoryFiles → Type 0
OpensIn name (Ok file) old new = (is_failing old.failing old.calls ≡ false) × IsSome (held_in old.files name) × (file ≡ length old.opened)
    × (new ≡ record old { opened = old.opened ++ at_start name (held_in old.files name); asked = old.asked ++ name ∷ []; calls = counted old.calls })
OpensIn name (Err Failed) old new = ((is_failing old.failing old.calls ≡ true) ⊎ (held_in old.files name ≡ None))
    × (new ≡ record old { asked = old.asked ++ name ∷ []; calls = counted old.calls; faults = counted old.faults })
OpensIn name (Err NoMemory) old new = new ≡ old

-- how many bytes a call hands out where so many are asked for and so many are there
abbrev pub handed_out : MemoryFiles → ℕ → ℕ → ℕ
handed_out shelf asked there = min (min shelf.greatest asked) there

-- What `read` into a piece answers and leaves. It fails exactly where the call is to fail.
abbrev pub ReadsIn : ℕ → List ℕ → List ℕ → Result ℕ Trouble → List ℕ → MemoryFiles → MemoryFiles → Type 0
ReadsIn file piece piece_then (Ok n) left old new = (is_failing old.failing old.calls ≡ false) × (n ≡ handed_out old (length piece) (length left))
    × (piece_then ≡ take n left ++ drop n piece)
    × (new ≡ record old { opened = with_taken old.opened file n (meets_end piece n); calls = counted old.calls })
ReadsIn file piece piece_then (Err Failed) left old new = (is_failing old.failing old.calls ≡ true) × (piece_then ≡ piece)
    × (new ≡ record old { calls = counted old.calls; faults = counted old.faults })
ReadsIn file piece piece_then (Err NoMemory) left old new = ⊥

-- A sink in memory: what was written, the numbers of the calls that are to fail, how many bytes a call takes at most,
-- how many calls there were, and how many faults.
pub record MemoryBytes : Type 0 where
  pub written : List ℕ
  pub failing : List ℕ
  pub greatest : ℕ
  pub calls : ℕ
  pub faults : ℕ

-- what a sink in memory tells
abbrev pub sink_told_by : MemoryBytes → SinkTold
sink_told_by sink = record { taken = sink.written; faults = sink.faults; reliable = is_reliable sink.failing }

-- nothing is written yet, and no call was made
abbrev pub unwritten : List ℕ → ℕ → MemoryBytes
unwritten failing greatest = record { written = []; failing = failing; greatest = greatest; calls = 0; faults = 0 }

-- What `write` of a piece answers and leaves. It fails exactly where the call is to fail.
abbrev pub WritesIn : List ℕ → Result ℕ Trouble → MemoryBytes → MemoryBytes → Type 0
WritesIn piece (Ok n) old new = (is_failing old.failing old.calls ≡ false) × (n ≡ min old.greatest (length piece))
    × (new ≡ record old { written = old.written ++ take n piece; calls = counted old.calls })
WritesIn piece (Err Failed) old new = (is_failing old.failing old.calls ≡ true)
    × (new ≡ record old { calls = counted old.calls; faults = counted old.faults })
WritesIn piece (Err NoMemory) old new = new ≡ old

-- what a sink tells that took these bytes into a digest: it has no cause to fail
abbrev pub hash_told : List ℕ → SinkTold
hash_told taken = record { taken = taken; faults = 0; reliable = true }
