use Rattle.std.proofs.Common.{◌≡◌, drop, length}
use Rattle.spec_blocks.specs.Checks.{each_of}
use Rattle.spec_epochs.specs.Each.{validator_indices}
use Rattle.spec_epochs.specs.ProcessRegistryUpdates.{eligibility_and_ejection}
use Rattle.epoch_processing.specs.inside.Exits.{IsKept}
use Rattle.epoch_processing.proofs.Passes.{steps_from}
use Rattle.epoch_processing.proofs.ejections.eligibility_and_ejections.Given as goal

abbrev pub invariant-loop-index : goal.invariant-loop-index
invariant-loop-index l = record {
  before : l.index-iterator.iter ≡ drop l.index-iterator.count l.fn.state.validators;
  here : l.index-iterator.iter ≡ drop l.index-iterator.count l.state.validators;
  kept : IsKept l.state l.config l.kept;
  all : steps_from (eligibility_and_ejection l.config) (length l.fn.state.validators) l.index-iterator.count l.state ≡ each_of (eligibility_and_ejection l.config) l.fn.state (validator_indices l.fn.state);
}
