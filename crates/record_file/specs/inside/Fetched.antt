-- What taking bytes of a record's file into the buffer does.
use Rattle.std.specs.Prelude.{◌≡◌, ℕ, ◌<◌, Bool, true, false, not, List, ◌++◌, length, Result, Ok, Err}
use Rattle.bc_outside.specs.Told.{ShelfTold}
use Rattle.bc_outside.specs.Calls.{Stays, Takes}
use Rattle.bc_outside.specs.declared.trouble.Trouble.{Trouble}
use Rattle.record_file.specs.declared.fault.FrameStop.{FrameStop}
use Rattle.record_file.specs.declared.found.Found.{Found}
use Rattle.record_file.specs.declared.version.Version.{Version}
use Rattle.record_file.specs.declared.place.Place.TheVariants.{AtFrame}
use Rattle.record_file.specs.Record.{frame_of}
use Rattle.record_file.specs.Frames.{Reading, Comes, Nexts, Moves}
use Rattle.record_file.specs.inside.Found.{read_of, is_short}

-- Bytes were taken of the file, and stand behind those of the buffer. Its end was met or not.
pub record Fetched (file : ℕ) (met : Bool) (old new : List ℕ) (told told_then : ShelfTold) : Type 0 where
  pub bytes : List ℕ
  pub behind : new ≡ old ++ bytes
  pub taken : Takes file bytes met told told_then

-- One call: some bytes came, or the end was met and none came. After an error nothing was taken.
abbrev pub FetchesOnce : Result Bool Trouble → ℕ → List ℕ → List ℕ → ShelfTold → ShelfTold → Type 0
FetchesOnce (Ok came) file old new told told_then = Fetched file (not came) old new told told_then × (came ≡ true → length old < length new) × (came ≡ false → new ≡ old)
FetchesOnce (Err _) file old new told told_then = (new ≡ old) × Stays told told_then

-- Several calls, until the buffer has that many bytes or the end was met. After an error it has fewer.
abbrev pub Fills : {T : Type 0} → Result T Trouble → ℕ → ℕ → List ℕ → List ℕ → ShelfTold → ShelfTold → Type 0
Fills (Ok _) want file old new told told_then = (met : Bool) × Fetched file met old new told told_then × (length new < want → met ≡ true) × (met ≡ true → length new < want)
Fills (Err _) want file old new told told_then = Fetched file false old new told told_then × (length new < want)

-- What the bytes show is a frame, or may change when more come.
abbrev pub Shows : Version → ℕ → Found → List ℕ → Type 0
Shows version events found bytes = frame_of version events bytes ≡ read_of found bytes

-- Several calls, until the buffer shows what comes next or the end was met. After an error it doesn't.
abbrev pub Finds : Result Found Trouble → Version → ℕ → ℕ → List ℕ → List ℕ → ShelfTold → ShelfTold → Type 0
Finds (Ok found) version events file old new told told_then = Fetched file (is_short found) old new told told_then × Shows version events found new
Finds (Err _) version events file old new told told_then = Fetched file false old new told told_then × ((found : Found) × (is_short found ≡ true) × Shows version events found new)

-- Reading the record's first bytes: the same is still to come, or what `next` answers.
abbrev pub Begins : Result Version FrameStop → Reading → Reading → ShelfTold → ShelfTold → Type 0
Begins (Ok version) old new told told_then = (new.events ≡ old.events) × (new.place ≡ AtFrame version)
    × ((bytes : List ℕ) × Takes old.file bytes false told told_then × Comes bytes old new)
Begins (Err stop) old new told told_then = Nexts (Err stop) old new told told_then × Moves (Err stop) old new
