-- What is given is accepted.
use Rattle.chain_maker.specs.Next.{all_given}
use Rattle.chain_maker.proofs.Steps.{accepted_next}
use Rattle.chain_maker.proofs.maker.Maker.next_given.Goals as goal

pub returns-clause-accepted : goal.returns-clause-accepted
returns-clause-accepted c given store none has e = accepted_next c.args.self.now c.give.new.self (all_given c.give.result) given store c.give.ensures.ok c.give.ensures.gives none has e
