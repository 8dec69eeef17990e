-- A slot has at least one committee, and at most as many as the preset allows.
use Rattle.std.proofs.Common.{arith}
use Rattle.committees.specs.Committees.{committee_count_per_slot}
use Rattle.committees.proofs.epoch.committee_count_per_slot.Goals as goal

pub returns-clause-exact : goal.returns-clause-exact
unfolding committee_count_per_slot
returns-clause-exact c = omega arith

pub returns-clause-least : goal.returns-clause-least
returns-clause-least c = omega arith
