use Rattle.std.proofs.Common.{IfOk, subst}
use Rattle.std.specs.List.{All}
use Rattle.spec_forensics.specs.Offences.{IsCarried}
use Rattle.forensics.specs.Books.{PlainBook, votes_of}
use Rattle.forensics.proofs.Votes.{listed_of, all_are_carried}
use Rattle.forensics.proofs.vote_book.VoteBook.offences.Goals as goal

pub returns-clause-carried : goal.returns-clause-carried
returns-clause-carried c =
    subst (λ (book : PlainBook). IfOk c.offences.result (λ list. All (IsCarried (votes_of book)) list.items)) c.self.view_is
    (all_are_carried (λ l. l.items) c.offences.result _ _
    (listed_of (λ l. l.items) c.offences.result c.self.inside.genesis c.self.inside.first.blocks c.self.inside.second.blocks _ c.self.invariant.validators (c.offences.ensures _ c.self.invariant.holds)))
