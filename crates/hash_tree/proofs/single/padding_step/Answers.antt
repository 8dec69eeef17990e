use Rattle.hash_tree.proofs.Padding.{padding_round}
use Rattle.hash_tree.proofs.single.padding_step.Goals as goal

pub returns : goal.returns
returns c h before = padding_round h c.args.v c.args.t _ before c.round.ensures
