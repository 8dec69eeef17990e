use Rattle.std.proofs.Common.{ℕ, ◌<◌, length, subst}
use Rattle.state_keeper.specs.Chain.{Kept, WasStep}
use Rattle.state_keeper.proofs.Taken.{was_step}
use Rattle.state_keeper.proofs.keeper.Keeper.steps_were_taken.Goals as goal

pub returns : goal.returns
returns g c =
    subst (λ (kept : Kept _ _). (n : ℕ) → 0 < n → n < length kept.blocks → WasStep (g.P.Stepper.can_step kept.stepper) (g.P.Stepper.plain_step kept.stepper) kept.blocks n) c.self.view_is
    (was_step (g.P.Stepper.can_step c.self.inside.stepper) (g.P.Stepper.plain_step c.self.inside.stepper) c.self.inside.entries.items c.self.invariant.each)
