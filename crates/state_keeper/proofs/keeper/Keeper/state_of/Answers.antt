use Rattle.std.proofs.Common.{◌≡◌, IfSome, Option, Some, subst}
use Rattle.std.proofs.lemmas.Result.{IfOk-weaker}
use Rattle.bc_words.specs.Outcome.{done}
use Rattle.spec_state.specs.declared.plain.PlainState.{PlainState}
use Rattle.state_keeper.specs.Chain.{Kept, HasState, state_at}
use Rattle.state_keeper.proofs.keeper.Keeper.state_of.Goals as goal

pub returns-in-Some-clause-chain : goal.returns-in-Some-clause-chain
returns-in-Some-clause-chain g c =
    c.states_are_of_the_chain.ensures c.args.n c.in-Some.state
    (subst (λ (o : Option PlainState). IfSome o (λ state. HasState c.args.self.now.blocks c.args.n state)) c.in-Some.is c.in_ok-state.ensures.state)

pub returns-in-None-clause-chain : goal.returns-in-None-clause-chain
returns-in-None-clause-chain g c =
    IfOk-weaker c.made_and_cached.result (λ state. HasState c.held.new.self.blocks c.args.n state) (λ state. state_at (g.P.Stepper.plain_step c.args.self.now.stepper) c.args.self.now.blocks c.args.n ≡ Some (done state))
    (λ state has. c.states_are_of_the_chain.ensures c.args.n state (subst (λ (kept : Kept _ _). HasState kept.blocks c.args.n state) c.held.ensures.same has))
    c.made_and_cached.ensures.state
