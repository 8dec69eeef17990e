-- Each part is read in its order, and the first fault is the answer.
use Rattle.std.proofs.Common.{arith}
use Rattle.std.proofs.lemmas.Grind.{common_steps}
use Rattle.state_parts.specs.inside.Groups.{registry_fields}
use Rattle.state_parts.proofs.groups.read_registry.Goals as goal

pub returns-in_default : goal.returns-in_default
unfolding registry_fields
returns-in_default c = grind (arith, common_steps)

pub returns-in_err-read_list-in-len4 : goal.returns-in_err-read_list-in-len4
unfolding registry_fields
returns-in_err-read_list-in-len4 c = grind (arith, common_steps)

pub returns-in_err-read_list-in-len4-2 : goal.returns-in_err-read_list-in-len4-2
unfolding registry_fields
returns-in_err-read_list-in-len4-2 c = grind (arith, common_steps)

pub returns-in_err-read_items-in-len4 : goal.returns-in_err-read_items-in-len4
unfolding registry_fields
returns-in_err-read_items-in-len4 c = grind (arith, common_steps)

pub returns-in_err-read_items-in-len4-2 : goal.returns-in_err-read_items-in-len4-2
unfolding registry_fields
returns-in_err-read_items-in-len4-2 c = grind (arith, common_steps)

pub returns-in_ok-read_items-in-len4-2 : goal.returns-in_ok-read_items-in-len4-2
unfolding registry_fields
returns-in_ok-read_items-in-len4-2 c = grind (arith, common_steps)
