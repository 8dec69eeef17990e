-- The block is the latest one of the state behind it.
use Rattle.transition.proofs.Visits.{latest_shown}
use Rattle.transition.proofs.state_transition.visit_transition.Goals as goal

pub returns-clause-latest : goal.returns-clause-latest
returns-clause-latest g c = latest_shown g.V.Visitor.shown c.args.visitor.now _ c.args.state c.args.block.now c.args.config.now c.take_block.result c.take_block.ensures.step
