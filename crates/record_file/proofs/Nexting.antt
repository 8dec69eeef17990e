-- What `next` answers, by what was taken and found.
use Rattle.std.proofs.Common.{◌≡◌, ◌≤◌, ◌<◌, ℕ, ◌+◌, Bool, true, false, List, [], ◌++◌, take, drop, Option, Some, None, Result, Ok, Err, refl, ap, ◌∙◌, append_assoc, arith, inl, inr, length-take}
use Rattle.bc_outside.specs.Told.{ShelfTold}
use Rattle.bc_outside.specs.declared.trouble.Trouble.{Trouble}
use Rattle.bc_outside.specs.declared.trouble.Trouble.TheVariants as troubles
use Rattle.bc_outside.proofs.Taking.{takes_none, takes_then}
use Rattle.record_file.specs.declared.event.Event.{Event}
use Rattle.record_file.specs.declared.version.Version.{Version}
use Rattle.record_file.specs.declared.fault.RecordFault.{RecordFault}
use Rattle.record_file.specs.declared.fault.RecordFault.TheVariants.{BadMagic}
use Rattle.record_file.specs.declared.fault.FrameStop.{FrameStop}
use Rattle.record_file.specs.declared.fault.FrameStop.TheVariants.{Fault, ReadFault, NoMemory}
use Rattle.record_file.specs.declared.found.Found.{Found}
use Rattle.record_file.specs.declared.found.Found.TheVariants as found
use Rattle.record_file.specs.declared.place.Place.{Place}
use Rattle.record_file.specs.declared.place.Place.TheVariants.{AtMagic, AtFrame, Stopped}
use Rattle.record_file.specs.Record.{version_of, is_kind_of, most_events}
use Rattle.record_file.specs.Stops.{StopsBy, stop_of}
use Rattle.record_file.specs.Frames.{Reading, events_at, coming, Comes, Gives, Nexts, IsAtFrame, Moves}
use Rattle.record_file.specs.inside.Found.{is_short, is_frame, IsWhole}
use Rattle.record_file.specs.inside.Given.{Given}
use Rattle.record_file.specs.inside.Fetched.{Fetched, Shows, Finds, Fills, Begins}
use Rattle.record_file.proofs.Coming.{comes_as, ended_comes, fault_comes, short_comes, frame_comes, magic_comes, no_magic_comes, short_magic_comes, long_enough}

module _ (version : Version) (file events : ℕ) (old new : List ℕ) (s t : ShelfTold) (le : events ≤ most_events) where
  pub next_ended : Fetched file true old new s t → Shows version events found.Ended new → Nexts (Ok None) (record { file = file; events = events; place = AtFrame version; buffered = old }) (record { file = file; events = events; place = AtFrame version; buffered = new }) s t
  next_ended h shows = record {
    bytes = h.bytes;
    met = true;
    taken = h.taken;
    gives = (refl, λ behind. comes_as (AtFrame version) events old h.bytes new behind h.behind, ended_comes version events le new shows);
  }

  pub next_fault : (reason : RecordFault) → Fetched file (is_short (found.Fault reason)) old new s t → Shows version events (found.Fault reason) new → Nexts (Err (Fault reason)) (record { file = file; events = events; place = AtFrame version; buffered = old }) (record { file = file; events = events; place = Stopped reason; buffered = new }) s t
  next_fault reason h shows = record {
    bytes = h.bytes;
    met = is_short (found.Fault reason);
    taken = h.taken;
    gives = λ behind can. comes_as (AtFrame version) events old h.bytes new behind h.behind ∙ fault_comes version events le reason new behind shows can;
  }

  pub next_frame : (kind size : ℕ) (payload rest : List ℕ) → events < most_events → Fetched file false old new s t → Shows version events (found.Frame kind size) new → payload ≡ take size (drop 5 new) → rest ≡ drop (5 + size) new
      → Nexts (Ok (Some (record { kind = kind; payload = payload }))) (record { file = file; events = events; place = AtFrame version; buffered = old }) (record { file = file; events = events + 1; place = AtFrame version; buffered = rest }) s t
  next_frame kind size payload rest lt h shows p r = record {
    bytes = h.bytes;
    met = false;
    taken = h.taken;
    gives = (refl, λ behind. comes_as (AtFrame version) events old h.bytes new behind h.behind ∙ rw (p, r) (frame_comes version events kind size new behind lt shows));
  }

  pub next_no_memory : Fetched file false old new s t → Nexts (Err NoMemory) (record { file = file; events = events; place = AtFrame version; buffered = old }) (record { file = file; events = events; place = AtFrame version; buffered = new }) s t
  next_no_memory h = record { bytes = h.bytes; met = false; taken = h.taken; gives = (refl, λ behind. comes_as (AtFrame version) events old h.bytes new behind h.behind) }

  pub next_fails : (trouble : Trouble) → Finds (Err trouble) version events file old new s t → Nexts (Err (stop_of trouble)) (record { file = file; events = events; place = AtFrame version; buffered = old }) (record { file = file; events = events; place = AtFrame version; buffered = new }) s t
  next_fails troubles.Failed (h, (f, short, shows)) = record {
    bytes = h.bytes;
    met = false;
    taken = h.taken;
    gives = (refl, λ behind. comes_as (AtFrame version) events old h.bytes new behind h.behind, short_comes version events le f new short shows);
  }
  next_fails troubles.NoMemory (h, (f, short, shows)) = next_no_memory h

  pub next_given : (f : Found) (result : Result (Option Event) FrameStop) (then : Reading) → (is_frame f ≡ true → events < most_events) → Fetched file (is_short f) old new s t → Shows version events f new
      → Given f result (record { file = file; events = events; place = AtFrame version; buffered = new }) then → Nexts result (record { file = file; events = events; place = AtFrame version; buffered = old }) then s t
  next_given found.Ended result then room h shows g = rw (g.0, g.1) (next_ended h shows)
  next_given (found.Fault reason) result then room h shows g = rw (g.0, g.1) (next_fault reason h shows)
  next_given (found.Frame kind size) (Ok (Some event)) then room h shows g = rw (g.0, g.1) (next_frame kind size _ _ (room refl) h shows refl refl)
  next_given (found.Frame kind size) (Ok None) then room h shows g = absurd g
  next_given (found.Frame kind size) (Err (Fault reason)) then room h shows g = absurd g
  next_given (found.Frame kind size) (Err ReadFault) then room h shows g = absurd g
  next_given (found.Frame kind size) (Err NoMemory) then room h shows g = rw g (next_no_memory h)

-- what was found moves the place
at_frame : (place : Place) (version : Version) (P : Version → Type 0) → place ≡ AtFrame version → P version → IsAtFrame place P
at_frame place version P at h = rw at h

pub moves_given : (version : Version) (f : Found) (result : Result (Option Event) FrameStop) (old new : Reading) → old.place ≡ AtFrame version → IsWhole version f old.buffered → Given f result old new → Moves result old new
moves_given version found.Ended result old new at whole g = rw (g.0, g.1) (refl, at_frame old.place version (λ version. Unit {0}) at tt)
moves_given version (found.Fault reason) result old new at whole g = rw (g.0, g.1) (refl, refl)
moves_given version (found.Frame kind size) (Ok (Some event)) old new at whole g =
    rw (g.0, g.1) (refl, at_frame old.place version (λ version. is_kind_of version kind ≡ true) at whole.2, omega (arith, length-take size (drop 5 old.buffered), whole.1))
moves_given version (found.Frame kind size) (Ok None) old new at whole g = absurd g
moves_given version (found.Frame kind size) (Err (Fault reason)) old new at whole g = absurd g
moves_given version (found.Frame kind size) (Err ReadFault) old new at whole g = absurd g
moves_given version (found.Frame kind size) (Err NoMemory) old new at whole g = rw g refl

-- the file stays, and no fault of the shelf is answered
pub stays_given : (f : Found) (result : Result (Option Event) FrameStop) (old new : Reading) (before now : ℕ) → before ≤ now → Given f result old new → (new.file ≡ old.file) × StopsBy result before now
stays_given found.Ended result old new before now le g = rw (g.0, g.1) (refl, le)
stays_given (found.Fault reason) result old new before now le g = rw (g.0, g.1) (refl, le)
stays_given (found.Frame kind size) (Ok (Some event)) old new before now le g = rw g.1 (refl, le)
stays_given (found.Frame kind size) (Ok None) old new before now le g = absurd g
stays_given (found.Frame kind size) (Err (Fault reason)) old new before now le g = absurd g
stays_given (found.Frame kind size) (Err ReadFault) old new before now le g = absurd g
stays_given (found.Frame kind size) (Err NoMemory) old new before now le g = rw g (refl, le)

-- the record's first bytes
module _ (file : ℕ) (old new : List ℕ) (s t : ShelfTold) where
  pub begin_fails : (trouble : Trouble) → Fills {T = Unit {0}} (Err trouble) 4 file old new s t → Begins (Err (stop_of trouble)) (record { file = file; events = 0; place = AtMagic; buffered = old }) (record { file = file; events = 0; place = AtMagic; buffered = new }) s t
  begin_fails troubles.Failed (h, short) = (
    record {
      bytes = h.bytes;
      met = false;
      taken = h.taken;
      gives = (refl, λ behind. comes_as AtMagic 0 old h.bytes new behind h.behind, short_magic_comes 0 new short);
    },
    refl,
  )
  begin_fails troubles.NoMemory (h, short) = (
    record {
      bytes = h.bytes;
      met = false;
      taken = h.taken;
      gives = (refl, λ behind. comes_as AtMagic 0 old h.bytes new behind h.behind);
    },
    refl,
  )

  pub begin_fault : Fills {T = Unit {0}} (Ok tt) 4 file old new s t → version_of (take 4 new) ≡ None → Begins (Err (Fault BadMagic)) (record { file = file; events = 0; place = AtMagic; buffered = old }) (record { file = file; events = 0; place = Stopped BadMagic; buffered = new }) s t
  begin_fault (met, h, short, long) e = (
    record {
      bytes = h.bytes;
      met = met;
      taken = h.taken;
      gives = λ behind can. comes_as AtMagic 0 old h.bytes new behind h.behind ∙ no_magic_comes 0 met new behind short e can;
    },
    (refl, refl),
  )

  pub begin_ok : (version : Version) (rest : List ℕ) → Fills {T = Unit {0}} (Ok tt) 4 file old new s t → version_of (take 4 new) ≡ Some version → rest ≡ drop 4 new → Begins (Ok version) (record { file = file; events = 0; place = AtMagic; buffered = old }) (record { file = file; events = 0; place = AtFrame version; buffered = rest }) s t
  begin_ok version rest (false, h, short, long) e r = (refl, refl, (h.bytes, h.taken, λ behind. comes_as AtMagic 0 old h.bytes new behind h.behind ∙ rw r (magic_comes version new behind e)))
  begin_ok version rest (true, h, short, long) e r = let lt = long refl in let k = long_enough 4 new version e in absurd (omega (arith, lt, k))

-- one call after the other
after : (result : Result (Option Event) FrameStop) (first bytes : List ℕ) (met : Bool) (old mid new : Reading) → mid.events ≡ old.events → Comes first old mid → Gives result bytes met mid new → Gives result (first ++ bytes) met old new
after (Ok (Some event)) first bytes met old mid new e c g = (g.0, λ behind. ap (coming old) (append_assoc first bytes behind) ∙ c (bytes ++ behind) ∙ g.1 behind)
after (Ok None) first bytes met old mid new e c g = (g.0, λ behind. ap (coming old) (append_assoc first bytes behind) ∙ c (bytes ++ behind) ∙ g.1 behind, g.2)
after (Err (Fault reason)) first bytes met old mid new e c g = λ behind can. ap (coming old) (append_assoc first bytes behind) ∙ c (bytes ++ behind) ∙ rw (← e) (g behind can)
after (Err ReadFault) first bytes met old mid new e c g = (g.0, λ behind. ap (coming old) (append_assoc first bytes behind) ∙ c (bytes ++ behind) ∙ g.1 behind, g.2)
after (Err NoMemory) first bytes met old mid new e c g = (g.0, λ behind. ap (coming old) (append_assoc first bytes behind) ∙ c (bytes ++ behind) ∙ g.1 behind)

pub next_after : (version : Version) (result : Result (Option Event) FrameStop) (old mid new : Reading) (s t u : ShelfTold) → mid.file ≡ old.file → Begins (Ok version) old mid s t → Nexts result mid new t u → Nexts result old new s u
next_after version result old mid new s t u same (e, is_at, (first, taken, comes)) n = record {
  bytes = first ++ n.bytes;
  met = n.met;
  taken = takes_then taken (rw same at n.taken);
  gives = after result first n.bytes n.met old mid new e comes n.gives;
}

pub next_stopped : (file events : ℕ) (reason : RecordFault) (buffered : List ℕ) (s : ShelfTold) → Nexts (Err (Fault reason)) (record { file = file; events = events; place = Stopped reason; buffered = buffered }) (record { file = file; events = events; place = Stopped reason; buffered = buffered }) s s
unfolding events_at
next_stopped file events reason buffered s = record { bytes = []; met = false; taken = takes_none file s; gives = λ behind can. refl }

pub moves_after : (result : Result (Option Event) FrameStop) (old mid new : Reading) → mid.events ≡ old.events → Moves result mid new → Moves result old new
moves_after (Ok (Some event)) old mid new e m = (m.0 ∙ ap (λ n. n + 1) e, m.1, m.2)
moves_after (Ok None) old mid new e m = (m.0 ∙ e, m.1)
moves_after (Err (Fault reason)) old mid new e m = (m.0 ∙ e, m.1)
moves_after (Err ReadFault) old mid new e m = m ∙ e
moves_after (Err NoMemory) old mid new e m = m ∙ e

pub stops_after : (result : Result (Option Event) FrameStop) (old mid new : ℕ) → old ≤ mid → StopsBy result mid new → StopsBy result old new
stops_after (Ok event) old mid new le s = omega (arith, le, s)
stops_after (Err (Fault reason)) old mid new le s = omega (arith, le, s)
stops_after (Err ReadFault) old mid new le s = (omega (arith, le, s.0), elim s.1 [ inl rose ↦ inl (omega arith) | inr last ↦ inr last ])
stops_after (Err NoMemory) old mid new le s = omega (arith, le, s)
