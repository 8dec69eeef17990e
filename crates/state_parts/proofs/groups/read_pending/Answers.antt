-- Each part is read in its order, and the first fault is the answer.
use Rattle.std.proofs.Common.{arith}
use Rattle.std.proofs.lemmas.Grind.{common_steps}
use Rattle.state_parts.specs.inside.Groups.{pending_fields}
use Rattle.state_parts.proofs.groups.read_pending.Goals as goal

pub returns-in_default : goal.returns-in_default
unfolding pending_fields
returns-in_default c = grind (arith, common_steps)

pub returns-in_err-read_variable_list-in-len2 : goal.returns-in_err-read_variable_list-in-len2
unfolding pending_fields
returns-in_err-read_variable_list-in-len2 c = grind (arith, common_steps)

pub returns-in_err-read_variable_list-in-len2-2 : goal.returns-in_err-read_variable_list-in-len2-2
unfolding pending_fields
returns-in_err-read_variable_list-in-len2-2 c = grind (arith, common_steps)

pub returns-in_ok-read_variable_list-in-len2-2 : goal.returns-in_ok-read_variable_list-in-len2-2
unfolding pending_fields
returns-in_ok-read_variable_list-in-len2-2 c = grind (arith, common_steps)
