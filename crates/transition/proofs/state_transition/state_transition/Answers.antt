-- The list of all states that were shown is that of the states entered.
use Rattle.std.proofs.Common.{◌∙◌, ap, sym}
use Rattle.spec_state.specs.declared.plain.PlainState.{PlainState}
use Rattle.spec_transition.specs.StateTransition.{state_transition}
use Rattle.transition.proofs.Visits.{gives_step}
use Rattle.transition.proofs.state_transition.state_transition.Goals as goal

pub returns-clause-step : goal.returns-clause-step
returns-clause-step c =
    ap (λ (s : PlainState). state_transition s c.args.block.now c.args.config.now) (sym c.in_ok-now.ensures)
    ∙ gives_step _ _ _ _ c.new-entered.ensures c.in_ok-state.ensures.step
