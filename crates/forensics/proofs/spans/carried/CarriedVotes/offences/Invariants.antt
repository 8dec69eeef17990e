use Rattle.std.proofs.Common.{◌≡◌, List, length}
use Rattle.spec_forensics.specs.Offences.{offences_below}
use Rattle.forensics.specs.Carried.{Carried, Holds, all_votes_by}
use Rattle.forensics.proofs.spans.carried.CarriedVotes.offences.Given as goal

abbrev pub invariant-loop-validator : goal.invariant-loop-validator
invariant-loop-validator l = (carried : List Carried) → Holds l.self carried → l.list.items ≡ offences_below (all_votes_by (length l.self.spans.spans) carried) l.validator
