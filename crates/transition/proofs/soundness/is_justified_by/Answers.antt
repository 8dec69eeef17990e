-- Both justified epochs are compared with the bound.
use Rattle.std.proofs.Common.{rules}
use Rattle.transition.proofs.soundness.is_justified_by.Goals as goal

pub returns-then-previous_justified_checkpoint-justified : goal.returns-then-previous_justified_checkpoint-justified
returns-then-previous_justified_checkpoint-justified c = search rules
