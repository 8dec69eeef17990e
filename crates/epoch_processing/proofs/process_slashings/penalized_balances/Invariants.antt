use Rattle.std.proofs.Common.{◌≡◌, drop, length}
use Rattle.spec_epochs.specs.Each.{checked_map, validator_indices}
use Rattle.spec_epochs.specs.ProcessSlashings.{penalized_balance}
use Rattle.spec_epochs.proofs.Each.{made_from}
use Rattle.epoch_processing.proofs.process_slashings.penalized_balances.Given as goal

abbrev pub invariant-loop-index : goal.invariant-loop-index
invariant-loop-index l = record {
  at : l.index-iterator.iter ≡ drop l.index-iterator.count l.state.validators;
  beside : l.balances ≡ drop l.index-iterator.count l.state.balances;
  made : made_from (penalized_balance l.state l.slashed.adjusted l.slashed.total) (length l.state.validators) l.index-iterator.count l.all.items ≡ checked_map (penalized_balance l.state l.slashed.adjusted l.slashed.total) (validator_indices l.state);
}
