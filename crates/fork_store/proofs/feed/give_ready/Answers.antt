-- The balances that are ready are those that the array has then.
use Rattle.std.proofs.Common.{rules}
use Rattle.fork_store.proofs.feed.give_ready.Goals as goal

pub returns : goal.returns
returns c = search rules
