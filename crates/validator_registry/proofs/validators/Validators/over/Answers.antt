-- The validators of all groups are left.
use Rattle.validator_registry.proofs.Walks.{all_left}
use Rattle.validator_registry.proofs.validators.Validators.over.Goals as goal

pub returns : goal.returns
returns c = all_left c.over.result c.iter.result c.args.tree.now.1 c.over.ensures c.iter.ensures
