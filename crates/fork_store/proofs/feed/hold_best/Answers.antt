use Rattle.std.proofs.Common.{rules}
use Rattle.fork_store.proofs.Following.{held}
use Rattle.fork_store.proofs.feed.hold_best.Goals as goal

pub returns-then-not-same_checkpoint : goal.returns-then-not-same_checkpoint
returns-then-not-same_checkpoint c =
    rw c.take.ensures.value (held c.args.store.now c.args.before.now c.args.root c.args.facts.justified c.args.facts.finalized c.args.given.now.justified c.args.given.now.best_justified c.requires.moved c.requires.given (search rules))
