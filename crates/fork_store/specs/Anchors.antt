-- How the check of an anchor meets its definition.
use Rattle.std.specs.Prelude.{◌≡◌, Option, Some, None, Result, Ok, Err}
use Rattle.spec_fork_choice.specs.declared.fault.AnchorFault.{AnchorFault}
use Rattle.fork_store.specs.declared.anchor.AnchorStop.{AnchorStop}
use Rattle.fork_store.specs.declared.anchor.AnchorStop.TheVariants as stops

-- nothing is wrong, or this is the first thing that is; memory may be refused in any case
abbrev pub AnswersAnchor : Result (Unit {0}) AnchorStop → Option AnchorFault → Type 0
AnswersAnchor (Ok done) fault = fault ≡ None
AnswersAnchor (Err (stops.Fault wrong)) fault = fault ≡ Some wrong
AnswersAnchor (Err stops.NoMemory) fault = Unit {0}
