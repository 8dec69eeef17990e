use Rattle.std.proofs.Common.{rules}
use Rattle.fork_store.proofs.Following.{ticking, tick_given, unset_other}
use Rattle.fork_store.proofs.feed.feed_best.Goals as goal

pub returns-then-not-same_checkpoint-clause-fed : goal.returns-then-not-same_checkpoint-clause-fed
returns-then-not-same_checkpoint-clause-fed c =
    tick_given c.args.store.now c.args.before.now c.args.array.now c.args.ready.now c.give_ready.new.array c.requires.array c.requires.ready (search rules) c.requires.moved c.give_ready.ensures

pub returns-then-not-same_checkpoint-clause-balances_set_stays : goal.returns-then-not-same_checkpoint-clause-balances_set_stays
returns-then-not-same_checkpoint-clause-balances_set_stays c = unset_other c.args.store.now c.args.before.now _ _ (search rules)

pub returns-else-not-same_checkpoint-clause-fed : goal.returns-else-not-same_checkpoint-clause-fed
returns-else-not-same_checkpoint-clause-fed c = search (rules, ticking)
