-- The slot's next attestation comes next.
use Rattle.chain_maker.specs.inside.Standing.{maker_of}
use Rattle.chain_maker.proofs.Steps.{vote_given, still_maker}
use Rattle.chain_maker.proofs.maker.Maker.give_vote.Goals as goal

pub invariant_of-self : goal.invariant_of-self
invariant_of-self c = record { is = still_maker (maker_of c.self.inside) c.self.inside.votes c.next.new.self c.self.inside.due c.next.ensures.all c.self.invariant.is; reached = c.self.invariant.reached }

pub returns-clause-gives : goal.returns-clause-gives
returns-clause-gives c = rw (← c.self.view_is) (vote_given (maker_of c.self.inside) c.self.inside.votes c.next.new.self c.self.inside.due c.next.result c.next.ensures.next c.next.ensures.all)
