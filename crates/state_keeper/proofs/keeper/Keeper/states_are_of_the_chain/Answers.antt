use Rattle.std.proofs.Common.{◌≡◌, ℕ, Some, subst}
use Rattle.bc_words.specs.Outcome.{done}
use Rattle.spec_state.specs.declared.plain.PlainState.{PlainState}
use Rattle.state_keeper.specs.Chain.{Kept, HasState, state_at}
use Rattle.state_keeper.proofs.Chains.{chain_state}
use Rattle.state_keeper.proofs.keeper.Keeper.states_are_of_the_chain.Goals as goal

pub returns : goal.returns
returns g c =
    subst (λ (kept : Kept _ _). (n : ℕ) (state : PlainState) → HasState kept.blocks n state → state_at (g.P.Stepper.plain_step kept.stepper) kept.blocks n ≡ Some (done state)) c.self.view_is
    (chain_state (g.P.Stepper.can_step c.self.inside.stepper) (g.P.Stepper.plain_step c.self.inside.stepper) c.self.inside.entries.items c.self.invariant.each)
