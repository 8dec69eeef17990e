use Rattle.std.proofs.Common.{◌∙◌, ◌<◌, Err, ap, subst, sym, length}
use Rattle.genesis_maker.proofs.Readings.{some_bytes, no_fault, taken}
use Rattle.genesis_maker.proofs.deposits.Deposits.next.Goals as goal

pub split_at-requires : goal.split_at-requires
split_at-requires c = some_bytes c.self.inside.rest.now c.self.invariant (subst (λ ds. 0 < length ds) (sym c.self.view_is) c.requires)

pub invariant_of-self : goal.invariant_of-self
invariant_of-self c =
    (taken c.self.inside.rest.now c.split_at.result.0.now c.split_at.result.1.now c.in-Ok.deposit c.self.invariant (subst (λ ds. 0 < length ds) (sym c.self.view_is) c.requires) c.split_at.ensures.front c.split_at.ensures.back c.in-Ok.ensures).0

pub unreachable-requires : goal.unreachable-requires
unreachable-requires c =
    no_fault c.self.inside.rest.now c.split_at.result.0.now c.parse.result c.self.invariant (subst (λ ds. 0 < length ds) (sym c.self.view_is) c.requires) c.split_at.ensures.front (c.in-Err-NotAWriting.is ∙ ap (λ e. Err e) c.in-Err-NotAWriting.field-0-is) c.parse.ensures

pub returns-in-Ok : goal.returns-in-Ok
returns-in-Ok c =
    sym c.self.view_is
    ∙ (taken c.self.inside.rest.now c.split_at.result.0.now c.split_at.result.1.now c.in-Ok.deposit c.self.invariant (subst (λ ds. 0 < length ds) (sym c.self.view_is) c.requires) c.split_at.ensures.front c.split_at.ensures.back c.in-Ok.ensures).1
