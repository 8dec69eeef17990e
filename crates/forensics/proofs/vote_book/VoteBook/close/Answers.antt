use Rattle.forensics.proofs.Books.{book_closes, seen_closed}
use Rattle.forensics.proofs.vote_book.VoteBook.close.Goals as goal

pub invariant_of-self : goal.invariant_of-self
invariant_of-self c = book_closes c.self.inside.config c.self.inside.genesis c.args.self.now c.self.inside.first c.self.inside.second _ _ c.self.inside.votes c.args.which c.args.finalized c.self.view_is c.self.invariant c.requires.which c.requires.is_final c.close_one.ensures.first c.close_one.ensures.second

pub returns : goal.returns
returns c = seen_closed c.self.inside.config c.self.inside.genesis c.args.self.now c.self.inside.first c.self.inside.second _ _ c.args.which c.args.finalized c.self.view_is c.requires.which c.close_one.ensures.first c.close_one.ensures.second
