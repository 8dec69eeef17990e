-- The epoch is the current one, or it isn't.
use Rattle.duties.proofs.Telling.{told_now, told_later}
use Rattle.duties.proofs.duties.current_proposers.Goals as goal

pub returns-then-epoch-current_epoch : goal.returns-then-epoch-current_epoch
returns-then-epoch-current_epoch c = told_now (λ duties. duties.items) c.args.state.now c.args.epoch _ c.proposers_of.result c.current_epoch.ensures.exact c.if-epoch-current_epoch.true c.proposers_of.ensures

pub returns-else-epoch-current_epoch : goal.returns-else-epoch-current_epoch
returns-else-epoch-current_epoch c = rw c.new.ensures.items (told_later c.args.state.now c.args.epoch _ c.current_epoch.ensures.exact c.if-epoch-current_epoch.false)
