-- The slots up to the next one are passed, or memory is refused.
use Rattle.std.proofs.Common.{◌≡◌, ◌∙◌, ℕ, ◌+◌, sym, ap, subst}
use Rattle.std.proofs.lemmas.Result.{err_from_is_err_and}
use Rattle.bc_words.specs.Outcome.{Stops, done}
use Rattle.spec_transition.specs.ProcessSlots.{Stepped, process_slots}
use Rattle.spec_drill.specs.Maker.{PlainMaker}
use Rattle.chain_maker.specs.declared.maker.Maker.TheInside.{Inside}
use Rattle.chain_maker.specs.inside.Standing.{maker_of}
use Rattle.chain_maker.proofs.Steps.{slots_stop, slots_done, at_end, next_low}
use Rattle.chain_maker.proofs.maker.Maker.next_slot.Goals as goal

pub returns-in_err-step-clause-stops : goal.returns-in_err-step-clause-stops
returns-in_err-step-clause-stops c =
    let maker : PlainMaker = maker_of c.self.inside in
    let end = at_end maker c.args.self.now c.self.view_is c.requires.none c.requires.no_block c.requires.later in
    let begun : c.last_begun-begun.result ≡ maker.slot = c.last_begun-begun.ensures.exact ∙ sym (ap (λ (m : PlainMaker). m.slot) c.self.view_is) in
    let near = subst (λ (i : Inside). Stops c.in_err-step.field-0.0 (process_slots i.state (c.last_begun-begun.result + 1) i.plan.config)) c.self-inside.view_is c.in_err-step.ensures.step in
    let stops = subst (λ (slot : ℕ). Stops c.in_err-step.field-0.0 (process_slots maker.state (slot + 1) maker.plan.config)) begun near in
    let p = err_from_is_err_and c.from_residual.result c.from_residual.ensures.1 in
    rw (← c.self.view_is, p.1, p.2) (slots_stop maker c.in_err-step.field-0.0 c.self.invariant.is end stops)

pub votes_of-requires-clause-calm : goal.votes_of-requires-clause-calm
votes_of-requires-clause-calm c =
    let maker : PlainMaker = maker_of c.self.inside in
    let end = at_end maker c.args.self.now c.self.view_is c.requires.none c.requires.no_block c.requires.later in
    let begun : c.last_begun-begun.result ≡ maker.slot = c.last_begun-begun.ensures.exact ∙ sym (ap (λ (m : PlainMaker). m.slot) c.self.view_is) in
    let at : Stepped = record { state = c.step.inside.state; entered = c.step.inside.entered } in
    let passed = ap (λ (slot : ℕ). process_slots maker.state (slot + 1) maker.plan.config) (sym begun)
    ∙ (sym (ap (λ (i : Inside). process_slots i.state (c.last_begun-begun.result + 1) i.plan.config) c.self-inside.view_is) ∙ (c.in_ok-step.ensures.step ∙ ap done (sym c.step.view_is))) in
    let opens = slots_done maker at c.self.invariant.is end.none end.no_due end.later passed in
    opens.calm

pub time_of-requires : goal.time_of-requires
time_of-requires c =
    let maker : PlainMaker = maker_of c.self.inside in
    let end = at_end maker c.args.self.now c.self.view_is c.requires.none c.requires.no_block c.requires.later in
    next_low maker c.last_begun-begun.result c.self.invariant.is end (c.last_begun-begun.ensures.exact ∙ sym (ap (λ (m : PlainMaker). m.slot) c.self.view_is))
