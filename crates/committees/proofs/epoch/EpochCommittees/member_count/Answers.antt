-- The one list of members is cut into the committees.
use Rattle.std.proofs.Common.{arith}
use Rattle.std.proofs.Math.Nat.{one-le-mul}
use Rattle.committees.proofs.Parts.{cut_has}
use Rattle.committees.proofs.epoch.EpochCommittees.member_count.Goals as goal

pub returns-clause-exact : goal.returns-clause-exact
returns-clause-exact c =
    let inside = c.self.inside in
    let has = cut_has inside.members.items inside.per_slot inside.slots (one-le-mul (omega arith) (omega arith)) in
    rw (← c.self.view_is) (omega (arith, has))
