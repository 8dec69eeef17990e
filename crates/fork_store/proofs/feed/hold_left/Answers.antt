use Rattle.std.proofs.Common.{rules}
use Rattle.fork_store.proofs.Following.{left_given, left_held}
use Rattle.fork_store.proofs.feed.hold_left.Goals as goal

pub returns-then-same_checkpoint-2-clause-ready : goal.returns-then-same_checkpoint-2-clause-ready
returns-then-same_checkpoint-2-clause-ready c =
    left_given c.args.store.now c.args.before.now c.args.root c.args.facts.justified c.args.facts.finalized c.args.given.now.justified c.args.given.now.best_justified c.take.result c.take.ensures.value c.requires.moved c.requires.given c.requires.other c.requires.another (search rules) (search rules)

pub returns-else-same_checkpoint-2-clause-ready : goal.returns-else-same_checkpoint-2-clause-ready
returns-else-same_checkpoint-2-clause-ready c =
    left_held c.args.store.now c.args.before.now c.args.root c.args.facts.justified c.args.facts.finalized c.args.ready.now c.requires.ready c.requires.moved c.requires.other (search rules) (search rules)
