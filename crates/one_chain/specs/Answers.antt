-- How a status, the bytes written and the names asked for meet a run.
use Rattle.std.specs.Prelude.{◌≡◌, ℕ, zero, suc, ◌≤◌, Bool, true, false, List, [], ◌∷◌, ◌++◌, length, take, Option, Some, None, IfSome}
use Rattle.bc_outside.specs.Told.{FileHanded, ShelfTold, SinkTold, Agrees}
use Rattle.bc_outside.specs.Calls.{Rose, ShelfKeeps, SinkKeeps}
use Rattle.spec_replay.specs.Run.{Run, End, bad_anchor, bad_config, bad_deposits, bad_duties, bad_genesis, bad_record, clash, done, limited, no_command}
use Rattle.one_chain.specs.declared.status.Status.{Status}
use Rattle.one_chain.specs.declared.status.Status.TheVariants as statuses

-- how the run ends that has this status, unless a fault of the outside or want of memory broke it off
abbrev pub end_of : Status → Option End
end_of statuses.Done = Some done
end_of statuses.Words = Some no_command
end_of (statuses.Config reason) = Some (bad_config reason)
end_of (statuses.Genesis part) = Some (bad_genesis part)
end_of (statuses.Record which event reason) = Some (bad_record which event reason)
end_of (statuses.Limit which event limit) = Some (limited which event limit)
end_of (statuses.Clash which event kind kept_which) = Some (clash which event kind kept_which)
end_of (statuses.Deposits fault) = Some (bad_deposits fault)
end_of (statuses.Duties fault) = Some (bad_duties fault)
end_of (statuses.Anchor fault) = Some (bad_anchor fault)
end_of statuses.ReadFault = None
end_of statuses.WriteFault = None
end_of statuses.NoMemory = None

-- whether a run with this status was broken off
abbrev pub breaks_off : Status → Bool
breaks_off status = elim (end_of status) [ Some end ↦ false | None ↦ true ]

-- whether lines of events that were read may not be written
abbrev pub may_lack_lines : Status → Bool
may_lack_lines statuses.WriteFault = true
may_lack_lines statuses.NoMemory = true
may_lack_lines _ = false

-- so many of the whole: all of it, unless it may be cut short
abbrev pub AllUnless : Bool → ℕ → ℕ → Type 0
AllUnless cut_short n whole = (n ≤ whole) × (cut_short ≡ false → n ≡ whole)

-- The sink got these lines behind what it had: all of them, or a prefix of them where they may be cut short.
pub record WritesLines (cut_short : Bool) (lines : List ℕ) (written written_then : List ℕ) : Type 0 where
  pub count : ℕ
  pub reaches : AllUnless cut_short count (length lines)
  pub bytes : written_then ≡ written ++ take count lines

-- The shelf was asked for the files that the run asks for, in the order of the names, and for no other: for all of
-- them, or a prefix of them where the run was broken off.
pub record AsksFor (cut_short : Bool) (files : ℕ) (names : List (List ℕ)) (asked asked_then : List (List ℕ)) : Type 0 where
  pub count : ℕ
  pub reaches : AllUnless cut_short count files
  pub names_are : asked_then ≡ asked ++ take count names

-- What became of a run. The status is how it ends, unless it was broken off. Its lines were written, and its files asked
-- for. The lines keep pace with the record: they are those of the run of as much of it as was taken, also where a file
-- could not be read; where a line could not be written or memory ran out, a prefix of them.
pub record Answers (run taken_run : Run) (names : List (List ℕ)) (status : Status) (asked asked_then : List (List ℕ)) (written written_then : List ℕ) : Type 0 where
  pub ends : breaks_off status ≡ false → run.end ≡ end_of status
  pub lines : WritesLines (breaks_off status) run.lines written written_then
  pub pace : WritesLines (may_lack_lines status) taken_run.lines written written_then
  pub asks : AsksFor (breaks_off status) run.files names asked asked_then

-- Some files were opened, and whatever the names hold that agrees with all that was handed out, the run of it became so.
pub record Replayed (run : (List ℕ → Option (List ℕ)) → Run) (taken_run : (List ℕ → Option (List ℕ)) → List FileHanded → Run) (names : List (List ℕ)) (status : Status)
    (told told_then : ShelfTold) (written written_then : List ℕ) : Type 0 where
  pub opened : List FileHanded
  pub files : told_then.files ≡ told.files ++ opened
  pub answers : (contents : List ℕ → Option (List ℕ)) → Agrees contents told_then.files
      → Answers (run contents) (taken_run contents opened) names status told.asked told_then.asked written written_then

-- the bytes that were taken of the file with this number
unfoldable pub taken_of : ℕ → List FileHanded → Option (List ℕ)
taken_of n [] = None
taken_of zero (f ∷ files) = Some f.bytes
taken_of (suc n) (f ∷ files) = taken_of n files

-- what is written of a run that writes only at its end: nothing, where a file could not be read
abbrev pub whole_of : Status → Run → Run
whole_of statuses.ReadFault run = record { lines = []; end = run.end; files = run.files }
whole_of _ run = run

-- A fault of the outside is answered only where its count rose.
pub record HasCauses (status : Status) (shelf shelf_then sink sink_then : ℕ) : Type 0 where
  pub read : status ≡ statuses.ReadFault → Rose shelf shelf_then
  pub write : status ≡ statuses.WriteFault → Rose sink sink_then

-- What a run does to the outside, where it ended with this status or goes on: a fault is answered only where its count
-- rose, the shelf is asked for these names at most, and the sink keeps what it must.
pub record OutsideKeeps (names : List (List ℕ)) (ended : Option Status) (told told_then : ShelfTold) (took took_then : SinkTold) : Type 0 where
  pub causes : IfSome ended (λ status. HasCauses status told.faults told_then.faults took.faults took_then.faults)
  pub shelf : ShelfKeeps names told told_then
  pub sink : SinkKeeps took took_then
