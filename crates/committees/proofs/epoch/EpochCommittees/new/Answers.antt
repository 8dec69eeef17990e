use Rattle.std.proofs.Common.{arith, rules, ap, ◌∙◌}
use Rattle.committees.specs.Committees.{committee_count_per_slot}
use Rattle.committees.proofs.Parts.{whole_is, shuffled_fits}
use Rattle.committees.proofs.epoch.EpochCommittees.new.Goals as goal

pub invariant_of-result : goal.invariant_of-result
invariant_of-result c =
    let same = shuffled_fits c.args.seed.now c.args.active.items c.in_ok-members.members.items c.args.preset.now.shuffle_round_count c.in_ok-members.ensures.shuffled in
    grind arith

pub returns-clause-exact : goal.returns-clause-exact
returns-clause-exact c =
    whole_is c.args.preset.now c.args.seed.now c.args.active.items c.in_ok-members.members.items c.committee_count_per_slot-per_slot.result
    (c.committee_count_per_slot-per_slot.ensures.exact ∙ ap (committee_count_per_slot c.args.preset.now) (search rules)) c.in_ok-members.ensures.shuffled (omega arith) (omega arith)
