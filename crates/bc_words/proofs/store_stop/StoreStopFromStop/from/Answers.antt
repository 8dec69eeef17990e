-- A refusal stays the refusal that it was.
use Rattle.std.proofs.Common.{ap, sym}
use Rattle.bc_words.specs.Events.{store_stop}
use Rattle.bc_words.proofs.store_stop.StoreStopFromStop.from.Goals as goal

pub returns-in-Refused : goal.returns-in-Refused
returns-in-Refused c = ap store_stop (sym c.in-Refused.is)
