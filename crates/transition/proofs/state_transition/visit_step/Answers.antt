-- What the visitor was shown is the states entered.
use Rattle.std.proofs.Common.{refl}
use Rattle.transition.proofs.Visits.{step_through, visitor_through, was_through}
use Rattle.transition.proofs.state_transition.visit_step.Goals as goal

pub returns-clause-step : goal.returns-clause-step
returns-clause-step g c = rw c.replace-entered.ensures.value (step_through (λ w. w.seen) _ (λ w s. refl) _ _ _ _ c.new.ensures c.in_ok-state.ensures.step)

pub returns-clause-shown : goal.returns-clause-shown
returns-clause-shown g c =
    rw c.replace-entered.ensures.value (visitor_through (λ w. w.visitor) _ g.V.Visitor.shown (λ w s. refl) _ _ _ _ _ (step_through (λ w. w.seen) _ (λ w s. refl) _ _ _ _ c.new.ensures c.in_ok-state.ensures.step) c.in_ok-state.ensures.step)

pub returns-clause-seen : goal.returns-clause-seen
returns-clause-seen g c = was_through (λ w. w.visitor) _ g.V.Visitor.shown (λ w s. refl) _ _ _ _ _ c.visit_transition.ensures.seen

pub returns-in_err-state-clause-seen : goal.returns-in_err-state-clause-seen
returns-in_err-state-clause-seen g c = was_through (λ w. w.visitor) _ g.V.Visitor.shown (λ w s. refl) _ _ _ _ _ c.visit_transition.ensures.seen
