use Rattle.std.proofs.Common.{◌+◌, ◌*◌, ◌%◌, Some, ap, ◌∙◌, sym, arith}
use Rattle.committees.specs.Committees.{committee_at}
use Rattle.committees.proofs.Parts.{at_past, at_part}
use Rattle.committees.proofs.epoch.EpochCommittees.committee.Goals as goal

pub returns-then-index-count-clause-exact : goal.returns-then-index-count-clause-exact
unfolding committee_at
returns-then-index-count-clause-exact c =
    let inside = c.self.inside in
    rw (← c.self.view_is) (at_past inside.members.items (inside.per_slot * inside.slots) (c.args.slot % inside.slots * inside.per_slot + c.args.index) (omega arith))

pub returns-clause-exact : goal.returns-clause-exact
unfolding committee_at
returns-clause-exact c =
    let inside = c.self.inside in
    let k = c.args.slot % inside.slots * inside.per_slot + c.args.index in
    rw (← c.self.view_is) (at_part inside.members.items (inside.per_slot * inside.slots) k (omega arith) ∙ ap Some (sym (rw c.deref.ensures.value at c.part.ensures)))
