use Rattle.spec_slasher.specs.Operations.{operation_of}
use Rattle.forensics.proofs.Listing.{one_offence, none_left}
use Rattle.forensics.proofs.slashings.operations_of.Goals as goal

pub loop-offence-preserved : goal.loop-offence-preserved
loop-offence-preserved c =
    one_offence (operation_of c.args.book.now.genesis c.args.book.now.first c.args.book.now.second) _ _ _ c.args.offences.now c.loop-offence.offence-index _ c.loop-offence-test.true c.in_ok-put_of.ensures c.loop-offence.invariant

pub returns : goal.returns
returns c = none_left (operation_of c.args.book.now.genesis c.args.book.now.first c.args.book.now.second) _ _ c.args.offences.now c.loop-offence.offence-index c.loop-offence-test.false c.loop-offence.invariant
