use Rattle.std.proofs.Common.{◌≡◌, ap, sym, ◌∙◌, arith}
use Rattle.state_keeper.specs.inside.Entries.{ancestor_at, parent_at}
use Rattle.state_keeper.proofs.Ancestors.{ancestor_begin, ancestor_next}
use Rattle.state_keeper.proofs.remade.ancestor_at.Goals as goal

pub loop-step-init : goal.loop-step-init
loop-step-init g c = sym (ancestor_begin c.args.entries.now c.args.n)

pub loop-step-preserved : goal.loop-step-preserved
loop-step-preserved g c = c.parent_at-number.ensures ∙ ap (λ k. parent_at c.args.entries.now k) c.loop-step.invariant ∙ sym (ancestor_next c.args.entries.now c.args.n c.loop-step.step)

pub returns : goal.returns
returns g c =
    let end = c.loop-step.auto.step-end in
    let test = c.loop-step-test.false in
    let all : c.loop-step.step ≡ c.args.back = omega arith in
    c.loop-step.invariant ∙ ap (λ k. ancestor_at c.args.entries.now c.args.n k) all
