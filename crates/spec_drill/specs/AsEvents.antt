-- A made chain as the events of a run.
use Rattle.std.specs.Prelude.{ℕ, ◌+◌, map, length}
use Rattle.bc_words.specs.Outcome.{Outcome, done, refused, limited}
use Rattle.record_file.specs.declared.event.Event.{Event}
use Rattle.record_file.specs.Record.{End, Events}
use Rattle.record_file.specs.Record as record_file
use Rattle.spec_drill.specs.Make.{MadeEvent, Made, kind_of, payload_of}

-- an event as the frames of a record have it
abbrev pub event_of : MadeEvent → Event
event_of made = record { kind = kind_of made; payload = payload_of made }

-- how the events end, where the one that comes next would have this number. No chain ends with a refusal: that is the law
-- `made_ends_well`
abbrev pub end_of : ℕ → Outcome (Unit {0}) → End
end_of number (done finished) = record_file.done
end_of number (limited bound) = record_file.limited number bound
end_of number (refused why) = record_file.done

-- the events that are to come behind so many that were given
unfoldable pub events_to_come : ℕ → Made → Events
events_to_come given made = record { events = map event_of made.events; end = end_of (given + length made.events + 1) made.end }
