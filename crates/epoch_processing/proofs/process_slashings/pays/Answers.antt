-- A slashed one pays half way to its withdrawal.
use Rattle.std.proofs.Common.{rules, tests}
use Rattle.epoch_processing.proofs.process_slashings.pays.Goals as goal

pub returns-then-slashed : goal.returns-then-slashed
returns-then-slashed c = search (rules, tests)
