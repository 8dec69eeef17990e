-- A new maker stands at genesis.
use Rattle.std.proofs.Common.{◌≡◌, ◌∙◌, sym, ap, subst}
use Rattle.bc_preset.specs.declared.presets.Preset.{Preset}
use Rattle.spec_drill.specs.Plan.{Plan, IsPlan}
use Rattle.spec_drill.specs.MakeGenesis.{made_genesis}
use Rattle.spec_drill.specs.inside.Makers.{IsMaker}
use Rattle.spec_drill.proofs.Steps.{new_maker_stands}
use Rattle.chain_maker.proofs.Steps.{new_is}
use Rattle.chain_maker.proofs.maker.Maker.begin.Goals as goal

pub invariant_of-result : goal.invariant_of-result
invariant_of-result c =
    let ok : IsPlan c.args.plan = subst IsPlan c.plan.view_is c.plan.invariant in
    let begins : c.in_ok-state.state ≡ made_genesis c.args.plan.config.preset c.args.plan.number =
    c.in_ok-state.ensures.state ∙ (ap (λ (p : Preset). made_genesis p c.plan.inside.number) c.preset.ensures.exact ∙ ap (λ (p : Plan). made_genesis p.config.preset p.number) c.plan.view_is) in
    record { is = subst IsMaker (sym (new_is c.args.plan c.in_ok-state.state c.new.result begins c.new.ensures)) (new_maker_stands c.args.plan ok); reached = tt }

pub returns : goal.returns
returns c =
    let begins : c.in_ok-state.state ≡ made_genesis c.args.plan.config.preset c.args.plan.number =
    c.in_ok-state.ensures.state ∙ (ap (λ (p : Preset). made_genesis p c.plan.inside.number) c.preset.ensures.exact ∙ ap (λ (p : Plan). made_genesis p.config.preset p.number) c.plan.view_is) in
    new_is c.args.plan c.in_ok-state.state c.new.result begins c.new.ensures
