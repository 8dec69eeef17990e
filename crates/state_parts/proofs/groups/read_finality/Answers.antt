-- Each part is read in its order, and the first fault is the answer.
use Rattle.std.proofs.Common.{arith}
use Rattle.std.proofs.lemmas.Grind.{common_steps}
use Rattle.state_parts.specs.inside.Groups.{finality_fields}
use Rattle.state_parts.proofs.groups.read_finality.Goals as goal

pub returns-in_default : goal.returns-in_default
unfolding finality_fields
returns-in_default c = grind (arith, common_steps)

pub returns-in_err-parse-in-len4 : goal.returns-in_err-parse-in-len4
unfolding finality_fields
returns-in_err-parse-in-len4 c = grind (arith, common_steps)

pub returns-in_err-parse-in-len4-2 : goal.returns-in_err-parse-in-len4-2
unfolding finality_fields
returns-in_err-parse-in-len4-2 c = grind (arith, common_steps)

pub returns-in_err-parse-in-len4-3 : goal.returns-in_err-parse-in-len4-3
unfolding finality_fields
returns-in_err-parse-in-len4-3 c = grind (arith, common_steps)

pub returns-in_err-parse-in-len4-4 : goal.returns-in_err-parse-in-len4-4
unfolding finality_fields
returns-in_err-parse-in-len4-4 c = grind (arith, common_steps)

pub returns-in_ok-parse-in-len4-4 : goal.returns-in_ok-parse-in-len4-4
unfolding finality_fields
returns-in_ok-parse-in-len4-4 c = grind (arith, common_steps)
