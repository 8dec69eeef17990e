-- The way through the slots, where there are no more than the limit.
use Rattle.std.proofs.Common.{refl, arith, subst}
use Rattle.bc_words.specs.Outcome.{GivesBy}
use Rattle.transition.proofs.Visits.{slots_visited, none_shown}
use Rattle.transition.proofs.process_slots.visit_slots.Goals as goal

pub returns-clause-step : goal.returns-clause-step
returns-clause-step g c =
    subst (GivesBy _ c.go_to.result) (slots_visited g.V.Visitor.shown c.args.config.now c.args.visitor.now c.args.state c.args.slot (omega (arith, c.slot.ensures)) (omega (arith, c.slot-2.ensures))) c.go_to.ensures.step

pub returns-then-slot-clause-seen : goal.returns-then-slot-clause-seen
returns-then-slot-clause-seen g c = none_shown g.V.Visitor.shown _ c.args.state _ _ _ refl

pub returns-then-slot-gt-MAX_SLOTS-clause-seen : goal.returns-then-slot-gt-MAX_SLOTS-clause-seen
returns-then-slot-gt-MAX_SLOTS-clause-seen g c = none_shown g.V.Visitor.shown _ c.args.state _ _ _ refl
