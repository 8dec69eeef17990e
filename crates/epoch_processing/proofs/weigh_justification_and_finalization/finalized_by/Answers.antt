-- What is final by the previous justified checkpoint, or not at all, is so because no case of the current one holds.
use Rattle.std.proofs.Common.{rules}
use Rattle.spec_epochs.specs.Weigh.{finalized_by}
use Rattle.epoch_processing.proofs.weigh_justification_and_finalization.finalized_by.Goals as goal

pub returns-then-old_previous-epoch : goal.returns-then-old_previous-epoch
unfolding finalized_by
returns-then-old_previous-epoch c = search rules

pub returns-then-old_previous-epoch-2 : goal.returns-then-old_previous-epoch-2
unfolding finalized_by
returns-then-old_previous-epoch-2 c = search rules

pub returns : goal.returns
unfolding finalized_by
returns c = search rules
