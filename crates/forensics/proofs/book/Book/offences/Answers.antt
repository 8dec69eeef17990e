use Rattle.std.proofs.Common.{IfOk, subst}
use Rattle.std.specs.List.{All}
use Rattle.spec_forensics.specs.Offences.{IsCarried}
use Rattle.forensics.specs.Books.{PlainBook, votes_of}
use Rattle.forensics.proofs.book.Book.offences.Goals as goal

pub returns-clause-carried : goal.returns-clause-carried
returns-clause-carried c = subst (λ (book : PlainBook). IfOk c.offences.result (λ list. All (IsCarried (votes_of book)) list.items)) c.self.view_is c.offences.ensures.carried
