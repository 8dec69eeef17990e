use Rattle.std.proofs.Common.{◌∙◌, ap}
use Rattle.spec_state.specs.declared.plain.PlainState.{PlainState}
use Rattle.vectors.proofs.Ends.{reached}
use Rattle.vectors.specs.Chains.{PlainChain}
use Rattle.vectors.proofs.chain_book.ChainBook.step.Goals as goal

pub returns-clause-genesis : goal.returns-clause-genesis
returns-clause-genesis c =
    (reached c.args.self.now (record { book = c.self.inside.book; which = c.self.inside.which; root = c.self.inside.root; state = c.in_ok-state.state }) c.args.block.now c.self.inside.config c.args.watch.now _ c.visit_transition.result
    (ap (λ (s : PlainState). record { book = c.self.inside.book; which = c.self.inside.which; root = c.self.inside.root; state = s }) c.in_ok-state.ensures ∙ c.self.view_is)
    c.self.invariant.2 c.requires.fresh c.visit_transition.ensures.step).0

pub returns-clause-step : goal.returns-clause-step
returns-clause-step c =
    (reached c.args.self.now (record { book = c.self.inside.book; which = c.self.inside.which; root = c.self.inside.root; state = c.in_ok-state.state }) c.args.block.now c.self.inside.config c.args.watch.now _ c.visit_transition.result
    (ap (λ (s : PlainState). record { book = c.self.inside.book; which = c.self.inside.which; root = c.self.inside.root; state = s }) c.in_ok-state.ensures ∙ c.self.view_is)
    c.self.invariant.2 c.requires.fresh c.visit_transition.ensures.step).1
