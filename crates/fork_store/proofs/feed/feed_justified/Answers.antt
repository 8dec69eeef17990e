use Rattle.std.proofs.Common.{◌≡◌, Option, IfSome, rules, subst}
use Rattle.block_array.specs.Calls.{with_balances}
use Rattle.fork_store.specs.Arrays.{Balances}
use Rattle.fork_store.proofs.Following.{best_given, best_needs, given_some, given_fed}
use Rattle.fork_store.proofs.feed.feed_justified.Goals as goal

pub give_ready-requires-else-same_checkpoint : goal.give_ready-requires-else-same_checkpoint
give_ready-requires-else-same_checkpoint c =
    rw c.hold_left.ensures.same
    (given_some c.args.store.now c.args.before.now c.args.root c.args.facts.justified c.args.facts.finalized c.args.given.now.justified c.args.given.now.best_justified c.requires.moved c.requires.given c.requires.other (search rules))

pub returns-then-same_checkpoint-clause-fed : goal.returns-then-same_checkpoint-clause-fed
returns-then-same_checkpoint-clause-fed c =
    best_given c.args.store.now c.args.before.now c.args.array.now c.args.ready.now c.give_ready.new.array c.requires.array c.requires.ready c.requires.other (search rules) c.give_ready.ensures

pub returns-then-same_checkpoint-clause-ready : goal.returns-then-same_checkpoint-clause-ready
returns-then-same_checkpoint-clause-ready c = best_needs c.args.store.now c.args.before.now c.args.root c.args.facts.justified c.args.facts.finalized c.give_ready.new.ready c.requires.moved c.requires.other (search rules)

pub returns-else-same_checkpoint-clause-fed : goal.returns-else-same_checkpoint-clause-fed
returns-else-same_checkpoint-clause-fed c =
    given_fed c.args.store.now c.args.before.now c.args.root c.args.facts.justified c.args.facts.finalized c.args.given.now.justified c.args.given.now.best_justified c.args.array.now c.give_ready-else-same_checkpoint.new.array c.requires.array c.requires.moved c.requires.given c.requires.other (search rules)
    (subst (λ (r : Option Balances). IfSome r (λ b. c.give_ready-else-same_checkpoint.new.array ≡ with_balances c.args.array.now b.list b.count b.total)) c.hold_left.ensures.same c.give_ready-else-same_checkpoint.ensures)
