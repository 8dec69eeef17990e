-- A maker as a source of events.
use Rattle.std.specs.Prelude.{ℕ, ◌+◌, ◌≤◌, length, None}
use Rattle.record_file.specs.Record.{most_events}
use Rattle.record_file.specs.Sources.{Source}
use Rattle.spec_drill.specs.Maker.{PlainMaker, to_come}
use Rattle.spec_drill.specs.AsEvents.{events_to_come}

-- a maker, and how many events it gave
pub record MadeSource : Type 0 where
  pub maker : PlainMaker
  pub given : ℕ

-- a maker that gave none
abbrev pub begun : PlainMaker → MadeSource
begun maker = record { maker = maker; given = 0 }

-- what a run sees of it: no file is read
abbrev pub made_source : MadeSource → Source
made_source source = record { coming = λ bytes. events_to_come source.given (to_come source.maker); events = source.given; file = None }

-- it has no more events than a record may have
pub record IsShort (source : MadeSource) : Type 0 where
  pub few : source.given + length (to_come source.maker).events ≤ most_events
