use Rattle.chain_maker.specs.inside.Standing.{maker_of}
use Rattle.chain_maker.proofs.Steps.{begun_low}
use Rattle.chain_maker.proofs.maker.Maker.last_begun.Goals as goal

pub returns-clause-low : goal.returns-clause-low
returns-clause-low c = begun_low (maker_of c.self.inside) c.self.invariant.is
