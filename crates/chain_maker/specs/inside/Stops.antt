-- Why a maker has no event, as a source of events says it.
use Rattle.std.specs.Prelude.{ℕ, ◌+◌}
use Rattle.bc_words.specs.declared.stop.Stop.{Stop}
use Rattle.bc_words.specs.declared.stop.Stop.TheVariants as stops
use Rattle.record_file.specs.declared.source.SourceStop.{SourceStop}
use Rattle.record_file.specs.declared.source.SourceStop.TheVariants as sources

-- nothing is refused
abbrev pub CanStop : Stop → Type 0
CanStop (stops.Refused why) = ⊥
CanStop (stops.Limit bound) = Unit {0}
CanStop stops.NoMemory = Unit {0}

-- behind so many events
abbrev pub stop_of : ℕ → Stop → SourceStop
stop_of given (stops.Refused why) = sources.NoMemory
stop_of given (stops.Limit bound) = sources.Limit (given + 1) bound
stop_of given stops.NoMemory = sources.NoMemory
