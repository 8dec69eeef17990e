-- A record as a source of events.
use Rattle.std.proofs.Common.{◌≡◌, ℕ, ◌≤◌, Bool, true, false, nat_le, IfOk, IfSome, List, [], ◌++◌, Option, Some, None, Result, Ok, Err, length, refl, ap, ◌∙◌, arith}
use Rattle.bc_outside.specs.Told.{ShelfTold}
use Rattle.bc_outside.proofs.Taking.{takes_none, takes_then}
use Rattle.record_file.specs.declared.event.Event.{Event}
use Rattle.record_file.specs.declared.place.Place.{Place}
use Rattle.record_file.specs.declared.place.Place.TheVariants.{AtMagic, AtFrame, Stopped}
use Rattle.record_file.specs.declared.version.Version.{Version}
use Rattle.record_file.specs.declared.version.Version.TheVariants.{One, Two}
use Rattle.record_file.specs.declared.fault.FrameStop.{FrameStop}
use Rattle.record_file.specs.declared.fault.FrameStop.TheVariants.{Fault, ReadFault, NoMemory}
use Rattle.record_file.specs.Frames.{Reading, Gives, Nexts, IsAtFrame, Moves, coming, IsPlace}
use Rattle.std.proofs.lemmas.Bool.{and_parts}
use Rattle.std.proofs.lemmas.Bool.Decides.{nat_tests}
use Rattle.record_file.specs.Record.{is_kind, is_kind_of, most_events}
use Rattle.record_file.specs.Stops.{StopsBy, SourceStopsBy}
use Rattle.record_file.specs.declared.source.SourceStop.{SourceStop}
use Rattle.record_file.specs.inside.Sourced.{source_answer}
use Rattle.record_file.specs.Sources.{record_source, IsOpenedFile, TakesFrom, Supplies, NextOf, Counts}

few_at : (place : Place) (events : ℕ) (P : Version → Type 0) → IsAtFrame place P → IsPlace place events → events ≤ most_events
few_at AtMagic events P at place = absurd at
few_at (AtFrame version) events P at place = place
few_at (Stopped reason) events P at place = absurd at

-- a kind of either version is a kind of events
kind_in : (version : Version) (kind : ℕ) → is_kind_of version kind ≡ true → is_kind kind ≡ true
kind_in One kind is =
    let low : nat_le 1 kind ≡ true = (and_parts (nat_le 1 kind) (nat_le kind 4) is).0 in
    let high : nat_le kind 4 ≡ true = (and_parts (nat_le 1 kind) (nat_le kind 4) is).1 in
    let more : nat_le kind 5 ≡ true = grind (arith, nat_tests) in
    rw (low, more)
kind_in Two kind is = is

kind_at : (place : Place) (kind : ℕ) → IsAtFrame place (λ version. is_kind_of version kind ≡ true) → is_kind kind ≡ true
kind_at AtMagic kind at = absurd at
kind_at (AtFrame version) kind at = kind_in version kind at
kind_at (Stopped reason) kind at = absurd at

module _ (old new : Reading) where
  gives_supplies : (result : Result (Option Event) FrameStop) (bytes : List ℕ) (met : Bool) → Gives result bytes met old new → Moves result old new
      → Supplies (source_answer new.events result) bytes met (record_source old) (record_source new)
  gives_supplies (Ok (Some event)) bytes met h moves = h
  gives_supplies (Ok None) bytes met h moves = λ behind can. h.1 behind ∙ ap (coming new) (can h.0) ∙ h.2
  gives_supplies (Err (Fault reason)) bytes met h moves = rw moves.0 h
  gives_supplies (Err ReadFault) bytes met h moves = h
  gives_supplies (Err NoMemory) bytes met h moves = h

  pub supplied : (result : Result (Option Event) FrameStop) (answer : Result (Option Event) SourceStop) (s t : ShelfTold) → answer ≡ source_answer new.events result
      → Nexts result old new s t → Moves result old new → NextOf answer (record_source old) (record_source new) s t
  supplied result answer s t is h moves =
      rw is (record { bytes = h.bytes; met = h.met; taken = h.taken; supplies = gives_supplies result h.bytes h.met h.gives moves })

  counts : (result : Result (Option Event) FrameStop) → Moves result old new → IsPlace new.place new.events → Counts (source_answer new.events result) (record_source old) (record_source new)
  counts (Ok (Some event)) h place = (h.0, few_at new.place new.events _ h.1 place)
  counts (Ok None) h place = h.0
  counts (Err (Fault reason)) h place = h.0
  counts (Err ReadFault) h place = h
  counts (Err NoMemory) h place = h

  pub counted : (result : Result (Option Event) FrameStop) (answer : Result (Option Event) SourceStop) → answer ≡ source_answer new.events result
      → Moves result old new → IsPlace new.place new.events → Counts answer (record_source old) (record_source new)
  counted result answer is h place = rw is (counts result h place)

  -- an event is of one of the kinds
  kind_of : (result : Result (Option Event) FrameStop) → Moves result old new → IfOk (source_answer new.events result) (λ next. IfSome next (λ event. is_kind event.kind ≡ true))
  kind_of (Ok (Some event)) h = kind_at new.place event.kind h.1
  kind_of (Ok None) h = tt
  kind_of (Err stop) h = tt

  pub of_kind : (result : Result (Option Event) FrameStop) (answer : Result (Option Event) SourceStop) → answer ≡ source_answer new.events result
      → Moves result old new → IfOk answer (λ next. IfSome next (λ event. is_kind event.kind ≡ true))
  of_kind result answer is h = rw is (kind_of result h)

stops : (events : ℕ) (result : Result (Option Event) FrameStop) (before now : ℕ) → StopsBy result before now → SourceStopsBy (source_answer events result) before now
stops events (Ok next) before now h = h
stops events (Err (Fault reason)) before now h = h
stops events (Err ReadFault) before now h = h
stops events (Err NoMemory) before now h = h

pub stopped : (events : ℕ) (result : Result (Option Event) FrameStop) (answer : Result (Option Event) SourceStop) (before now : ℕ) → answer ≡ source_answer events result
    → StopsBy result before now → SourceStopsBy answer before now
stopped events result answer before now is h = rw is (stops events result before now h)

pub kind_first : (kind : ℕ) → is_kind kind ≡ true → 1 ≤ kind
kind_first kind is = let low : nat_le 1 kind ≡ true = (and_parts (nat_le 1 kind) (nat_le kind 5) is).0 in grind (arith, nat_tests)

pub kind_last : (kind : ℕ) → is_kind kind ≡ true → kind ≤ 5
kind_last kind is = let high : nat_le kind 5 ≡ true = (and_parts (nat_le 1 kind) (nat_le kind 5) is).1 in grind (arith, nat_tests)

-- nothing was taken
pub from_none : (file : Option ℕ) (s : ShelfTold) → TakesFrom file [] false s s
from_none None s = (refl, refl)
from_none (Some file) s = takes_none file s

-- some bytes were taken, and then others
pub from_then : (file : Option ℕ) (first second : List ℕ) (met : Bool) (s t u : ShelfTold) → TakesFrom file first false s t → TakesFrom file second met t u → TakesFrom file (first ++ second) met s u
from_then None first second met s t u h k = (ap (λ (l : List ℕ). l ++ second) h.0 ∙ k.0, k.1 ∙ h.1)
from_then (Some file) first second met s t u h k = takes_then h k

-- an opened file stays opened
pub opened_on : (file : Option ℕ) (s t : ShelfTold) → length s.files ≤ length t.files → IsOpenedFile file s → IsOpenedFile file t
opened_on None s t le h = tt
opened_on (Some file) s t le h = omega (arith, le, h)
