-- The state that was put there is the one that was made.
use Rattle.std.proofs.Common.{IfOk, subst}
use Rattle.std.proofs.lemmas.Result.{on_ok_weaker}
use Rattle.state_keeper.specs.inside.Entries.{StandsFor}
use Rattle.state_keeper.proofs.remade.step_on.Goals as goal

pub returns-clause-state : goal.returns-clause-state
returns-clause-state g c =
    on_ok_weaker c.put_in.result (λ made. subst (λ r. IfOk r (λ next. StandsFor c.args.entries.now c.args.n next)) made c.step_to-made.ensures.state) c.put_in.ensures
