use Rattle.forensics.proofs.Carriers.{given_back, none_given}
use Rattle.forensics.proofs.vote_book.VoteBook.attestation.Goals as goal

pub returns-in_ok-indexed-in-Some : goal.returns-in_ok-indexed-in-Some
returns-in_ok-indexed-in-Some c =
    given_back c.self.inside.config c.self.inside.genesis c.self.inside.first c.self.inside.second c.args.self.now c.validators_len-validators.result c.args.vote.now _ c.in_ok-indexed-in-Some.indexed c.self.view_is
    c.validators_len-validators.ensures.len c.in-Some.ensures c.in_ok-indexed-in-Some.ensures

pub returns-in-None : goal.returns-in-None
returns-in-None c =
    none_given c.self.inside.config c.self.inside.genesis c.self.inside.first c.self.inside.second c.args.self.now c.validators_len-validators.result c.args.vote.now c.self.view_is
    c.validators_len-validators.ensures.len c.in-None.ensures
