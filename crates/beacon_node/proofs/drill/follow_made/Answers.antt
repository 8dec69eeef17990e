-- The events of the maker were followed.
use Rattle.beacon_node.proofs.Drilled.{made_followed, made_untouched}
use Rattle.beacon_node.proofs.drill.follow_made.Goals as goal

pub returns-clause-followed : goal.returns-clause-followed
returns-clause-followed g c = made_followed c.args.side c.args.maker c.follow_events.result c.args.store.now.plain _ _ _ _ c.requires.begun (rw c.new-events.ensures at c.follow_events.ensures.over)

pub returns-clause-still : goal.returns-clause-still
returns-clause-still g c = made_untouched _ (rw c.new-events.ensures at c.follow_events.ensures.over)
