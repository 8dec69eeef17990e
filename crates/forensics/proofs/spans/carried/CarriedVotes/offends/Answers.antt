use Rattle.std.proofs.Common.{◌∙◌}
use Rattle.forensics.proofs.CarriedOffences.{offends_is, offends_kept}
use Rattle.forensics.proofs.spans.carried.CarriedVotes.offends.Goals as goal

pub returns-clause-exact : goal.returns-clause-exact
returns-clause-exact c = λ carried holds.
    offends_kept _ c.args.self.now c.args.validator c.slashable.result c.is_some.result c.self.view_is c.is_some.ensures c.slashable.ensures.kept ∙ offends_is c.args.self.now c.args.validator c.requires carried holds
