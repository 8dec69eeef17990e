use Rattle.std.proofs.Common.{◌∙◌, sym}
use Rattle.safety_law.proofs.Judge.{verdict_convicts}
use Rattle.forensics.proofs.vote_book.VoteBook.judge.Goals as goal

pub returns-clause-convicts : goal.returns-clause-convicts
returns-clause-convicts c = λ balance total is.
    verdict_convicts c.self.inside.config c.self.inside.genesis _ _ _ _ balance total c.self.invariant.histories c.self.invariant.first_final c.self.invariant.second_final (sym c.judge.ensures ∙ is)
