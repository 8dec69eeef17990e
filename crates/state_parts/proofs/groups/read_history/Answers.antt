-- Each part is read in its order, and the first fault is the answer.
use Rattle.std.proofs.Common.{arith}
use Rattle.std.proofs.lemmas.Grind.{common_steps}
use Rattle.state_parts.specs.inside.Groups.{history_fields}
use Rattle.state_parts.proofs.groups.read_history.Goals as goal

pub returns-in_default : goal.returns-in_default
unfolding history_fields
returns-in_default c = grind (arith, common_steps)

pub returns-in_err-read_items-in-len3 : goal.returns-in_err-read_items-in-len3
unfolding history_fields
returns-in_err-read_items-in-len3 c = grind (arith, common_steps)

pub returns-in_err-read_items-in-len3-2 : goal.returns-in_err-read_items-in-len3-2
unfolding history_fields
returns-in_err-read_items-in-len3-2 c = grind (arith, common_steps)

pub returns-in_err-read_list-in-len3 : goal.returns-in_err-read_list-in-len3
unfolding history_fields
returns-in_err-read_list-in-len3 c = grind (arith, common_steps)

pub returns-in_ok-read_list-in-len3 : goal.returns-in_ok-read_list-in-len3
unfolding history_fields
returns-in_ok-read_list-in-len3 c = grind (arith, common_steps)
