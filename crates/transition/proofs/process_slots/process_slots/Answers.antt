-- The list of all states that were shown is that of the states entered.
use Rattle.std.proofs.Common.{◌∙◌, ap, sym}
use Rattle.spec_state.specs.declared.plain.PlainState.{PlainState}
use Rattle.spec_transition.specs.ProcessSlots.{process_slots}
use Rattle.transition.proofs.Visits.{gives_step}
use Rattle.transition.proofs.process_slots.process_slots.Goals as goal

pub returns-clause-step : goal.returns-clause-step
returns-clause-step c =
    ap (λ (s : PlainState). process_slots s c.args.slot c.args.config.now) (sym c.in_ok-now.ensures)
    ∙ gives_step _ _ _ _ c.new-entered.ensures c.in_ok-state.ensures.step
