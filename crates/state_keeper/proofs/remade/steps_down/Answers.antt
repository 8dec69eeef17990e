-- The state goes from one ancestor to the next, down to the block's own.
use Rattle.std.proofs.Common.{◌≡◌, ◌+◌, ◌-◌, ◌<◌, subst, sym, ap, ◌∙◌, arith}
use Rattle.state_keeper.specs.inside.Entries.{IsStep, StandsFor, ancestor_at, distance_at}
use Rattle.state_keeper.proofs.Ancestors.{ancestor_step, ancestor_begin}
use Rattle.state_keeper.proofs.remade.steps_down.Goals as goal

pub step_on-requires : goal.step_on-requires
step_on-requires g c =
    let deep = c.requires.far in
    let more = c.loop-done-test.true in
    let within : c.args.far - 1 - c.loop-done.done < distance_at c.args.entries.now c.args.n = omega arith in
    let one : c.args.far - c.loop-done.done ≡ c.args.far - 1 - c.loop-done.done + 1 = omega arith in
    let stands = subst (λ k. StandsFor c.args.entries.now (ancestor_at c.args.entries.now c.args.n k) c.loop-done.state) one c.loop-done.invariant.state in
    subst (λ k. IsStep (g.P.Stepper.can_step c.args.stepper.now) (g.P.Stepper.plain_step c.args.stepper.now) c.args.entries.now k c.loop-done.state) (sym c.ancestor_at-next.ensures)
    (ancestor_step (g.P.Stepper.can_step c.args.stepper.now) (g.P.Stepper.plain_step c.args.stepper.now) c.args.entries.now c.requires.entries c.args.n (c.args.far - 1 - c.loop-done.done) c.loop-done.state c.requires.inside within stands)

pub loop-done-preserved : goal.loop-done-preserved
loop-done-preserved g c =
    let one : c.args.far - 1 - c.loop-done.done ≡ c.args.far - (c.loop-done.done + 1) = omega arith in
    record {
      state = subst (λ k. StandsFor c.args.entries.now k c.step_on.new.state) (c.ancestor_at-next.ensures ∙ ap (λ k. ancestor_at c.args.entries.now c.args.n k) one) c.in_ok-step_on.ensures.state;
      steps = omega (arith, c.loop-done.invariant.steps, c.step_on.ensures.steps);
    }

pub returns-clause-state : goal.returns-clause-state
returns-clause-state g c =
    let none : c.args.far - c.loop-done.done ≡ 0 = omega arith in
    subst (λ k. StandsFor c.args.entries.now k c.loop-done.state) (ap (λ k. ancestor_at c.args.entries.now c.args.n k) none ∙ ancestor_begin c.args.entries.now c.args.n) c.loop-done.invariant.state
