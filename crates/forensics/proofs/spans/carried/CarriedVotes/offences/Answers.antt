use Rattle.std.proofs.Common.{◌∙◌}
use Rattle.forensics.proofs.CarriedOffences.{listed_begin, listed_more}
use Rattle.forensics.proofs.spans.carried.CarriedVotes.offences.Goals as goal

pub loop-validator-init : goal.loop-validator-init
loop-validator-init c = λ carried holds. c.new-list.ensures.items ∙ listed_begin _

pub loop-validator-preserved : goal.loop-validator-preserved
loop-validator-preserved c = λ carried holds. listed_more _ _ _ _ (c.loop-validator.invariant carried holds) (c.in_ok-put.ensures carried holds)
