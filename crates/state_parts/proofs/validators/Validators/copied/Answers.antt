use Rattle.state_parts.proofs.Within.{copied_more}
use Rattle.std.proofs.Common.{arith}
use Rattle.std.proofs.lemmas.Grind.{common_steps}
use Rattle.state_parts.proofs.validators.Validators.copied.Goals as goal

pub loop-i-preserved : goal.loop-i-preserved
loop-i-preserved c =
    copied_more c.args.self.now c.loop-i.validators.items c.push.new.self.items c.loop-i.i _ _ c.loop-i.invariant c.in-Some.ensures c.validator.ensures c.in_ok-push-in-Some.ensures.items

pub returns : goal.returns
returns c = grind (arith, common_steps)
