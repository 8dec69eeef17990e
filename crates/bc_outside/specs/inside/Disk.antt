-- A shelf and a sink over the operating system. They keep what was handed out and taken for contracts alone.
use Rattle.std.specs.Prelude.{ℕ, zero, suc, false, List, [], ◌∷◌, map, Option, None}
use Rattle.bc_outside.specs.Told.{FileHanded, ShelfTold, SinkTold}
use Rattle.bc_outside.specs.declared.faults.FaultCounts.{FaultCounts}
use Rattle.bc_outside.specs.inside.Tries.{no_faults, all_faults}

-- what was handed out of a file, and the bytes that its reader says are left, where it says so
pub record DiskFile : Type 0 where
  pub handed : FileHanded
  pub left : Option (List ℕ)

-- the files that were opened, the names that were asked for, and the faults
pub record DiskFiles : Type 0 where
  pub files : List DiskFile
  pub asked : List (List ℕ)
  pub faults : FaultCounts

-- no file is opened yet
abbrev pub no_disk_files : DiskFiles
no_disk_files = record { files = []; asked = []; faults = no_faults }

-- what a shelf of the disk tells: what its names hold isn't known beforehand
abbrev pub disk_told : DiskFiles → ShelfTold
disk_told shelf = record {
  files = map (λ f. f.handed) shelf.files;
  asked = shelf.asked;
  faults = all_faults shelf.faults;
  contents = None;
  reliable = false;
}

-- the bytes that the reader of a file says are left
unfoldable pub left_of : List DiskFile → ℕ → Option (List ℕ)
left_of [] file = None
left_of (f ∷ files) zero = f.left
left_of (f ∷ files) (suc file) = left_of files file

-- what was taken, the bytes that the writer says it holds, where it says so, and the faults
pub record DiskBytes : Type 0 where
  pub taken : List ℕ
  pub contents : Option (List ℕ)
  pub faults : FaultCounts

-- what a sink over the operating system tells
abbrev pub written_told : DiskBytes → SinkTold
written_told sink = record { taken = sink.taken; faults = all_faults sink.faults; reliable = false }
