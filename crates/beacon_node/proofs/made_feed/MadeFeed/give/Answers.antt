-- The event is the one that is given, with its step beside it.
use Rattle.beacon_node.proofs.made_feed.MadeFeed.give.Goals as goal

pub returns-in-Ok-Some-clause-next : goal.returns-in-Ok-Some-clause-next
returns-in-Ok-Some-clause-next c told = rw c.in-Ok-Some.field-0-is at (c.in-Ok-Some.ensures.next told)
