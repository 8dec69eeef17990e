-- The step's state is kept where the store says so.
use Rattle.beacon_node.proofs.Feeding.{keeps_lent}
use Rattle.beacon_node.proofs.made_feed.MadeFeed.hand_block.Goals as goal

pub returns-clause-keeps : goal.returns-clause-keeps
returns-clause-keeps c kept =
    keeps_lent c.args.store.now.plain c.on_stepped_event-answer.new.self.plain c.args.self.now.events.maker c.args.stepped _ _ c.on_stepped_event-answer.result.0 c.on_stepped_event-answer.ensures.exact
    c.requires.lent (c.on_stepped_event-answer.ensures.kept kept)
