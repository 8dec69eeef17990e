use Rattle.layer_tests.specs.Adder.{with_deposits}
use Rattle.layer_tests.proofs.Stepped.{stepped_from}
use Rattle.layer_tests.proofs.keeper.states.stepped.Goals as goal

pub returns-clause-state : goal.returns-clause-state
returns-clause-state g c =
    stepped_from c.args.keeper.now.blocks c.args.parent c.in_ok-before.before (λ s. with_deposits s c.args.block) c.let_go.result c.step-answer.result c.let_go.ensures c.in_ok-before.ensures.state c.step-answer.ensures
