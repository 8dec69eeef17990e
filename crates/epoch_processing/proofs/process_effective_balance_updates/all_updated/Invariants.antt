use Rattle.std.proofs.Common.{◌≡◌, drop, take, length}
use Rattle.tree_nodes.specs.Changes.{AreChanges}
use Rattle.validator_registry.specs.Registries.{with_balances}
use Rattle.spec_epochs.specs.Each.{checked_map, validator_indices}
use Rattle.spec_epochs.specs.ProcessEffectiveBalanceUpdates.{updated_validator}
use Rattle.spec_epochs.proofs.Each.{made_from}
use Rattle.epoch_processing.proofs.process_effective_balance_updates.all_updated.Given as goal

abbrev pub invariant-loop-index : goal.invariant-loop-index
invariant-loop-index l = record {
  beside : l.balances ≡ drop l.index l.state.balances;
  places : AreChanges 0 l.index l.changes.items;
  made : made_from (updated_validator l.state) (length l.state.validators) l.index (take l.index (with_balances l.state.validators l.changes.items))
      ≡ checked_map (updated_validator l.state) (validator_indices l.state);
}
