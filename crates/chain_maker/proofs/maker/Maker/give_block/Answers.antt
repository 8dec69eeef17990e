-- The slot's block comes next, or the proposer's limit.
use Rattle.std.proofs.Common.{◌≡◌, ◌∙◌, ℕ, List, [], refl, sym, ap, subst}
use Rattle.std.proofs.lemmas.Result.{err_from_is_err_and}
use Rattle.bc_words.specs.Outcome.{Stops, done}
use Rattle.spec_state.specs.declared.plain.PlainState.{PlainState}
use Rattle.spec_drill.specs.MakeBlock.{MadeBlock, make_block}
use Rattle.spec_drill.specs.Maker.{Due, PlainMaker}
use Rattle.spec_drill.proofs.Steps.{grown}
use Rattle.chain_maker.specs.Next.{IsStep}
use Rattle.chain_maker.specs.inside.Standing.{maker_of, due_of, IsReached}
use Rattle.chain_maker.proofs.Steps.{block_stops, block_done, gives_block, stepped_is}
use Rattle.chain_maker.proofs.maker.Maker.give_block.Goals as goal

pub returns-in_err-made-in-Some-clause-gives : goal.returns-in_err-made-in-Some-clause-gives
returns-in_err-made-in-Some-clause-gives c =
    let maker : PlainMaker = maker_of c.self.inside in
    let due : Due = record { at = c.in-Some.at; votes = c.self.inside.votes.all } in
    let none : maker.pending ≡ [] = subst (λ (m : PlainMaker). m.pending ≡ []) (sym c.self.view_is) c.requires.none in
    let stops = subst (λ (root : List ℕ). Stops c.in_err-made-in-Some.field-0.0 (make_block c.self.inside.plan c.in-Some.at root c.self.inside.votes.all)) c.header_root-root.ensures c.in_err-made-in-Some.ensures in
    let p = err_from_is_err_and c.from_residual.result c.from_residual.ensures.1 in
    rw (← c.self.view_is, p.1, p.2) (block_stops maker due c.in_err-made-in-Some.field-0.0 c.self.invariant.is none (ap (due_of c.self.inside.votes.all) c.in-Some.is) stops)

pub invariant_of-self : goal.invariant_of-self
unfolding grown
invariant_of-self c =
    let maker : PlainMaker = maker_of c.self.inside in
    let due : Due = record { at = c.in-Some.at; votes = c.self.inside.votes.all } in
    let made : MadeBlock = record { block = c.made.inside.block; state = c.made.inside.state } in
    let none : maker.pending ≡ [] = subst (λ (m : PlainMaker). m.pending ≡ []) (sym c.self.view_is) c.requires.none in
    let is = ap (λ (root : List ℕ). make_block c.self.inside.plan c.in-Some.at root c.self.inside.votes.all) (sym c.header_root-root.ensures) ∙ (c.in_ok-made-in-Some.ensures ∙ ap done (sym c.made.view_is)) in
    record { is = (block_done maker due made c.self.invariant.is none (ap (due_of c.self.inside.votes.all) c.in-Some.is) is).stands; reached = tt }

pub returns-clause-gives : goal.returns-clause-gives
unfolding grown
returns-clause-gives c =
    let maker : PlainMaker = maker_of c.self.inside in
    let due : Due = record { at = c.in-Some.at; votes = c.self.inside.votes.all } in
    let made : MadeBlock = record { block = c.made.inside.block; state = c.made.inside.state } in
    let none : maker.pending ≡ [] = subst (λ (m : PlainMaker). m.pending ≡ []) (sym c.self.view_is) c.requires.none in
    let is = ap (λ (root : List ℕ). make_block c.self.inside.plan c.in-Some.at root c.self.inside.votes.all) (sym c.header_root-root.ensures) ∙ (c.in_ok-made-in-Some.ensures ∙ ap done (sym c.made.view_is)) in
    rw (← c.self.view_is) (gives_block maker (grown maker due made) due made c.new-payload.result (block_done maker due made c.self.invariant.is none (ap (due_of c.self.inside.votes.all) c.in-Some.is) is) refl (c.new-payload.ensures ∙ c.in_ok-write.ensures))

pub returns-clause-stepped : goal.returns-clause-stepped
unfolding grown
returns-clause-stepped c =
    let maker : PlainMaker = maker_of c.self.inside in
    let due : Due = record { at = c.in-Some.at; votes = c.self.inside.votes.all } in
    let made : MadeBlock = record { block = c.made.inside.block; state = c.made.inside.state } in
    let none : maker.pending ≡ [] = subst (λ (m : PlainMaker). m.pending ≡ []) (sym c.self.view_is) c.requires.none in
    let due_is = ap (due_of c.self.inside.votes.all) c.in-Some.is in
    let is = ap (λ (root : List ℕ). make_block c.self.inside.plan c.in-Some.at root c.self.inside.votes.all) (sym c.header_root-root.ensures) ∙ (c.in_ok-made-in-Some.ensures ∙ ap done (sym c.made.view_is)) in
    let reached = subst (IsReached c.self.inside.state c.self.inside.slot c.self.inside.plan.config c.self.inside.entered) c.in-Some.is c.self.invariant.reached in
    let steps = stepped_is maker due made c.self.inside.entered c.self.invariant.is none due_is is reached in
    let with_step : PlainState → List PlainState → Type 0 = λ state entered. IsStep (record { block = c.made.inside.block; step = record { state = state; entered = entered } }) maker (grown maker due made) in
    let stands : with_step made.state c.self.inside.entered = record {
      parent = steps.0;
      step = steps.1;
      state = refl;
      sound = (block_done maker due made c.self.invariant.is none due_is is).stands.calm.sound;
      slot = steps.2;
    } in
    rw (← c.self.view_is) (subst (with_step c.in_ok-state.state) (sym c.replace-entered.ensures.value) (subst (λ (state : PlainState). with_step state c.self.inside.entered) (sym c.in_ok-state.ensures) stands))
