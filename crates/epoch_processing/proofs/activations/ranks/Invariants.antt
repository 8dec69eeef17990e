use Rattle.std.proofs.Common.{◌≡◌, ◌++◌}
use Rattle.epoch_processing.specs.inside.Ranks.{ranks_from}
use Rattle.epoch_processing.proofs.activations.ranks.Given as goal

abbrev pub invariant-loop-index : goal.invariant-loop-index
invariant-loop-index l = l.ranks.items ++ ranks_from l.state l.index-iterator.count l.index-iterator.iter ≡ ranks_from l.state 0 l.state.validators
