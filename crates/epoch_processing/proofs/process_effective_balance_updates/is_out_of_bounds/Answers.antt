-- A balance is out of bounds where its lower bound is below the effective balance.
use Rattle.std.proofs.Common.{rules}
use Rattle.spec_epochs.specs.ProcessEffectiveBalanceUpdates.{is_out_of_bounds}
use Rattle.epoch_processing.proofs.process_effective_balance_updates.is_out_of_bounds.Goals as goal

pub returns-then-with_downward-effective : goal.returns-then-with_downward-effective
unfolding is_out_of_bounds
returns-then-with_downward-effective c = search rules
