-- The state goes from the nearest ancestor whose state is kept down to the block's own.
use Rattle.std.proofs.Common.{◌≡◌, ◌%◌, ap, ◌∙◌, sym, subst}
use Rattle.state_keeper.specs.Chain.{kept_every}
use Rattle.state_keeper.specs.inside.Entries.{HasKept, StandsFor, ancestor_at, distance_at}
use Rattle.state_keeper.proofs.Ancestors.{ancestor_kept}
use Rattle.state_keeper.proofs.Made.{done_stands}
use Rattle.state_keeper.proofs.remade.remade.Goals as goal

pub kept_state-requires : goal.kept_state-requires
kept_state-requires g c =
    let is : ancestor_at c.args.entries.now c.args.n (distance_at c.args.entries.now c.args.n % kept_every) ≡ c.ancestor_at.result = ap (λ d. ancestor_at c.args.entries.now c.args.n (d % kept_every)) (sym c.distance_at-far.ensures) ∙ sym c.ancestor_at.ensures in
    subst (λ k. HasKept c.args.entries.now c.args.states.now k) is
    (ancestor_kept (g.P.Stepper.can_step c.args.stepper.now) (g.P.Stepper.plain_step c.args.stepper.now) c.args.entries.now c.requires.entries c.args.states.now c.requires.kept c.args.n c.requires.inside)

pub steps_down-done-requires-clause-state : goal.steps_down-done-requires-clause-state
steps_down-done-requires-clause-state g c =
    subst (λ k. StandsFor c.args.entries.now k c.in_ok-state.state) c.ancestor_at.ensures c.in_ok-state.ensures

pub returns-clause-state : goal.returns-clause-state
returns-clause-state g c =
    done_stands c.steps_down-done.result c.once_done.result c.steps_down-done.new.state (λ state. StandsFor c.args.entries.now c.args.n state) c.once_done.ensures.same c.once_done.ensures.done c.steps_down-done.ensures.state
