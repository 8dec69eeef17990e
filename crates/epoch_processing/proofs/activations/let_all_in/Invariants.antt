use Rattle.std.proofs.Common.{◌≡◌, drop}
use Rattle.epoch_processing.specs.inside.Ranks.{let_in_from}
use Rattle.epoch_processing.proofs.activations.let_all_in.Given as goal

abbrev pub invariant-loop-index : goal.invariant-loop-index
invariant-loop-index l = record {
  at : l.index-iterator.iter ≡ drop l.index-iterator.count l.state.validators;
  all : let_in_from l.state l.bar l.epoch l.index-iterator.count ≡ let_in_from l.fn.state l.bar l.epoch 0;
}
