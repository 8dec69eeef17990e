use Rattle.std.proofs.Common.{◌∙◌}
use Rattle.fork_store.proofs.on_tick.follow_tick.Goals as goal

pub returns-clause-balances_set_stays : goal.returns-clause-balances_set_stays
returns-clause-balances_set_stays c = λ is. c.follow.ensures.balances_set_stays ∙ c.feed_best.ensures.balances_set_stays is
