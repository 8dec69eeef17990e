-- The entries stay, with room for one more.
use Rattle.std.proofs.Common.{List, map, sym, subst, ap, ◌∙◌, arith}
use Rattle.state_keeper.specs.declared.entry.Entry.{Entry}
use Rattle.state_keeper.specs.Chain.{Kept}
use Rattle.state_keeper.specs.inside.Entries.{plain_of, IsKeeper}
use Rattle.state_keeper.proofs.keeper.Keeper.reserve.Goals as goal

pub invariant_of-self : goal.invariant_of-self
invariant_of-self g c = subst (λ es. IsKeeper (g.P.Stepper.can_step c.self.inside.stepper) (g.P.Stepper.plain_step c.self.inside.stepper) es c.self.inside.states.items c.self.inside.cache.entries) (sym c.in_err-reserve.ensures.items) c.self.invariant

pub invariant_of-self-2 : goal.invariant_of-self-2
invariant_of-self-2 g c = subst (λ es. IsKeeper (g.P.Stepper.can_step c.self.inside.stepper) (g.P.Stepper.plain_step c.self.inside.stepper) es c.reserve-2.new.self.items c.self.inside.cache.entries) (sym c.in_ok-reserve.ensures.items) (subst (λ ss. IsKeeper (g.P.Stepper.can_step c.self.inside.stepper) (g.P.Stepper.plain_step c.self.inside.stepper) c.self.inside.entries.items ss c.self.inside.cache.entries) (sym c.reserve-2.ensures.items) c.self.invariant)

pub returns-clause-stepper : goal.returns-clause-stepper
returns-clause-stepper g c = ap (λ (kept : Kept _ _). kept.stepper) c.self.view_is

pub returns-clause-blocks : goal.returns-clause-blocks
returns-clause-blocks g c = ap (λ (es : List (Entry _ _)). map plain_of es) c.in_ok-reserve.ensures.items ∙ ap (λ (kept : Kept _ _). kept.blocks) c.self.view_is

pub returns-clause-room : goal.returns-clause-room
returns-clause-room g c =
    let room = c.in_ok-reserve.ensures.ok in
    let long = c.in_ok-reserve.ensures.len in
    let room' = c.in_ok-reserve-2.ensures.ok in
    let long' = c.in_ok-reserve-2.ensures.len in
    omega arith
