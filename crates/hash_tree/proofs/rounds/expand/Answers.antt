use Rattle.std.proofs.Common.{sym, ◌∙◌}
use Rattle.hash_tree.proofs.Schedules.{block_word}
use Rattle.hash_tree.proofs.rounds.expand.Goals as goal

pub returns : goal.returns
returns g c j b less block = c.expand_from.ensures j b less (λ k below. block k below ∙ sym (block_word b 48 k below))
