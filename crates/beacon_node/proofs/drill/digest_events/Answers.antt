-- The digest is that of the lines that the run of the events wrote.
use Rattle.beacon_node.proofs.Drilled.{digest_outside}
use Rattle.beacon_node.proofs.drill.digest_events.Goals as goal

pub returns-clause-over : goal.returns-clause-over
returns-clause-over g c = record { lines = c.replay_events-status.new.out; digest_is = c.digest.ensures; over = rw (c.new-feed.ensures, c.new-events.ensures, c.new-lines.ensures) at c.replay_events-status.ensures.over }

pub returns-clause-outside : goal.returns-clause-outside
returns-clause-outside g c took = digest_outside c.replay_events-status.result _ _ c.replay_events-status.new.out took (rw c.new-lines.ensures at c.replay_events-status.ensures.outside)

pub replay_events-status-requires-clause-fits : goal.replay_events-status-requires-clause-fits
replay_events-status-requires-clause-fits g c = λ is. rw (c.new-feed.ensures, c.new-events.ensures) c.requires.keeps
