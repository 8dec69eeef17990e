use Rattle.forensics.proofs.Histories.{are_kept_closed}
use Rattle.forensics.proofs.book.Book.close.Goals as goal

pub invariant_of-self : goal.invariant_of-self
invariant_of-self c = are_kept_closed c.self.inside.votes _ c.args.which c.args.finalized c.self.inside.first c.self.inside.second c.requires.which c.self.invariant c.close.ensures
