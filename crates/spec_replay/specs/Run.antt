-- A run: from the bytes of configuration, genesis and record to lines and an end.
use Rattle.std.specs.Prelude.{ℕ, ◌+◌, List, [], ◌∷◌, ◌++◌, Option, Some, None, Result, Ok, Err}
use Rattle.bc_preset.specs.Configs.{config_of}
use Rattle.bc_preset.specs.declared.configuration.ConfigValues.{ConfigValues}
use Rattle.bc_preset.specs.declared.faults.ConfigFault.{ConfigFault}
use Rattle.spec_state.specs.Genesis.{genesis_of}
use Rattle.spec_state.specs.declared.plain.PlainState.{PlainState}
use Rattle.spec_state.specs.declared.fault.GenesisFault.{GenesisFault}
use Rattle.record_file.specs.Record.{Events, events_of}
use Rattle.record_file.specs.Record as record_file
use Rattle.record_file.specs.declared.event.Event.{Event}
use Rattle.record_file.specs.declared.fault.RecordFault.{RecordFault}
use Rattle.duties.specs.declared.fault.DutiesFault.{DutiesFault}
use Rattle.spec_genesis.specs.declared.fault.DepositsFault.{DepositsFault}
use Rattle.bc_words.specs.Events.{EventOutcome, accepted, event_refused, event_limited, event_clashes}
use Rattle.bc_words.specs.declared.stop.Limit.{Limit}
use Rattle.bc_words.specs.declared.store_stop.ClashKind.{ClashKind}
use Rattle.spec_fork_choice.specs.Store.{Store}
use Rattle.spec_fork_choice.specs.declared.fault.AnchorFault.{AnchorFault}
use Rattle.spec_fork_choice.specs.GetForkchoiceStore.{genesis_store}
use Rattle.spec_fork_choice.specs.OnEvent.{Accepted, on_event, genesis_clash}
use Rattle.spec_replay.specs.Lines.{event_line, accepted_text, refusal_text}

-- How a run ends: all was done; the words are no command; the first fault of the configuration, of the genesis state, or of
-- a record, with which record it is and its event; an event that meets a bound of this program; one that clashes, with which
-- record the kept block is of; or the first fault of a file of deposits, of what duties are asked of, or of an anchor. Records
-- count from 0, and event 0 is the first kept block.
pub data End : Type 0 where
  done : End
  no_command : End
  bad_config : ConfigFault → End
  bad_genesis : GenesisFault → End
  bad_record : ℕ → ℕ → RecordFault → End
  limited : ℕ → ℕ → Limit → End
  clash : ℕ → ℕ → ClashKind → ℕ → End
  bad_deposits : DepositsFault → End
  bad_duties : DutiesFault → End
  bad_anchor : AnchorFault → End

-- What a run writes, how it ends, and how many of its files it asks for, in their order. A file that it asks for and
-- that isn't there leaves it no end.
pub record Run : Type 0 where
  pub lines : List ℕ
  pub end : Option End
  pub files : ℕ

-- the run is over before a further line is written and a further file is asked for
abbrev pub over : End → Run
over end = record { lines = []; end = Some end; files = 0 }

-- a file is asked for that isn't there
abbrev pub missing : Run
missing = record { lines = []; end = None; files = 1 }

-- a file is read, and then the run goes on
abbrev pub after_file : Run → Run
after_file run = record { lines = run.lines; end = run.end; files = run.files + 1 }

-- lines are written, and then the run goes on
abbrev pub after_lines : List ℕ → Run → Run
after_lines lines run = record { lines = lines ++ run.lines; end = run.end; files = run.files }

-- The line of the event with this number and kind, and then the run behind it, which begins with the store after it: the
-- new one where the event is accepted, the old one where it is refused. At a bound and a clash the run is over.
unfoldable pub event_then : ℕ → ℕ → Store → EventOutcome (Store × Accepted) → (Store → Run) → Run
event_then number kind old (accepted new) rest = after_lines (event_line number kind (accepted_text new.1) new.0) (rest new.0)
event_then number kind old (event_refused why) rest = after_lines (event_line number kind (refusal_text why) old) (rest old)
event_then number kind old (event_limited bound) rest = over (limited 0 number bound)
event_then number kind old (event_clashes clashing) rest = over (clash 0 number clashing 0)

-- The events in turn, the first of which has this number: the store handles each, and its line is written. Behind the
-- last the run ends so.
unfoldable pub replay_events : ℕ → Store → List Event → End → Run
replay_events number store [] end = over end
replay_events number store (event ∷ events) end =
    event_then number event.kind store (on_event store event.kind event.payload) (λ after. replay_events (number + 1) after events end)

-- how the run ends where this record ends so
abbrev pub record_end : ℕ → record_file.End → End
record_end which record_file.done = done
record_end which (record_file.fault event reason) = bad_record which event reason
record_end which (record_file.limited event bound) = limited which event bound

-- the events of the only record that are to come, the first of which has this number
abbrev pub with_events : ℕ → Store → Events → Run
with_events number store rest = replay_events number store rest.events (record_end 0 rest.end)

-- the record, if it is there, on a store that opened
unfoldable pub with_record : Store → Option (List ℕ) → Run
with_record store None = missing
with_record store (Some bytes) = after_file (with_events 1 store (events_of bytes))

-- the record on a store, unless its first block clashes
unfoldable pub with_store : Option ClashKind → Store → Option (List ℕ) → Run
with_store (Some kind) store events = over (clash 0 0 kind 0)
with_store None store events = with_record store events

-- the genesis state, or its first fault
unfoldable pub with_state : ConfigValues → Result PlainState GenesisFault → Option (List ℕ) → Run
with_state config (Err part) events = over (bad_genesis part)
with_state config (Ok state) events = with_store (genesis_clash state) (genesis_store config state) events

-- the genesis file, if it is there
unfoldable pub with_genesis : ConfigValues → Option (List ℕ) → Option (List ℕ) → Run
with_genesis config None events = missing
with_genesis config (Some bytes) events = after_file (with_state config (genesis_of config.preset bytes) events)

-- the configuration, or its first fault
unfoldable pub with_config : Result ConfigValues ConfigFault → Option (List ℕ) → Option (List ℕ) → Run
with_config (Err reason) genesis events = over (bad_config reason)
with_config (Ok config) genesis events = with_genesis config genesis events

-- the configuration's file, if it is there
unfoldable pub with_files : Option (List ℕ) → Option (List ℕ) → Option (List ℕ) → Run
with_files None genesis events = missing
with_files (Some bytes) genesis events = after_file (with_config (config_of bytes) genesis events)
