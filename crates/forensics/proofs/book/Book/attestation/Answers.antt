use Rattle.std.proofs.Common.{◌≡◌, IfOk, subst}
use Rattle.spec_slasher.specs.AttestationOf.{attestation_of}
use Rattle.forensics.specs.Books.{PlainBook}
use Rattle.forensics.proofs.book.Book.attestation.Goals as goal

pub returns : goal.returns
returns c = subst (λ (book : PlainBook). IfOk c.attestation.result (λ found. found ≡ attestation_of book.genesis book.first book.second c.args.vote.now)) c.self.view_is c.attestation.ensures
