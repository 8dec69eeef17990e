use Rattle.forensics.proofs.Carriers.{named_there}
use Rattle.forensics.proofs.history.History.named.Goals as goal

pub returns : goal.returns
returns c = named_there c.args.self.now _ c.self.inside.added c.self.inside.finalized c.self.inside.entries.items c.self.inside.carriers.items _ c.args.validators c.args.vote.now _ c.self.view_is c.self.invariant c.deref.ensures.value c.named_among.ensures
