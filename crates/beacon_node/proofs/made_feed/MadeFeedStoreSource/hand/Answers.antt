-- An event that is no block leaves the states that the store keeps.
use Rattle.std.proofs.Common.{subst, sym}
use Rattle.beacon_node.specs.inside.Feeds.{Lends}
use Rattle.beacon_node.proofs.Feeding.{still_keeps}
use Rattle.beacon_node.proofs.made_feed.MadeFeedStoreSource.hand.Goals as goal

pub returns-in-None-clause-fits : goal.returns-in-None-clause-fits
returns-in-None-clause-fits c stands =
    still_keeps c.args.store.now.plain c.on_event-in-None.new.self.plain c.args.self.now.events.maker _ _ c.on_event-in-None.result c.on_event-in-None.ensures.exact
    (subst (Lends c.args.store.now.plain c.args.self.now.events.maker) (sym c.in-None.ensures.value) (c.requires.awaits stands))
