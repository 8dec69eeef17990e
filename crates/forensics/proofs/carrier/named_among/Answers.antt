use Rattle.forensics.proofs.Carriers.{named_here, named_next, named_end}
use Rattle.forensics.proofs.carrier.named_among.Goals as goal

pub returns-in-Some : goal.returns-in-Some
returns-in-Some c =
    named_here c.args.validators c.args.vote.now c.args.carriers.now c.loop-carrier.carrier-index c.carrier-item.result c.in-Some.kept.now c.loop-carrier-test.true c.carrier-item.is c.loop-carrier.invariant c.in-Some.ensures

pub loop-carrier-preserved : goal.loop-carrier-preserved
loop-carrier-preserved c =
    named_next c.args.validators c.args.vote.now c.args.carriers.now c.loop-carrier.carrier-index c.carrier-item.result c.loop-carrier-test.true c.carrier-item.is c.loop-carrier.invariant c.in_default.ensures

pub returns : goal.returns
returns c = named_end c.args.validators c.args.vote.now c.args.carriers.now c.loop-carrier.carrier-index c.loop-carrier-test.false c.loop-carrier.invariant
